-- `journal_scan::scan_from`. The loop's invariant: the rest of the journal leads to the end that is wanted.
-- The measure is what is left of the journal's bytes. Assumes nothing.
use Prim.Native.Nat.{◌-◌}
use lib.ListN.{length}
use Rattle.blake3.specs.Mode.{hash_from}
use Rattle.journal_scan.specs.ScanLaws.{Passing}
use Rattle.journal_scan.proofs.scan_from.Given as goal

abbrev pub invariant-loop-place : goal.invariant-loop-place
invariant-loop-place l = Passing (hash_from l.start) l.s l.records l.place

abbrev pub decreases-loop-place : goal.decreases-loop-place
decreases-loop-place l = length l.s - l.place
