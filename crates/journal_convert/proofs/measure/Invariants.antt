-- `journal_convert::measure`. The loop's invariant: what is measured and what is ahead make the sizes that are wanted.
-- The measure is what is left of the journal's bytes. Assumes nothing.
use Prim.Native.Nat.{◌-◌}
use lib.ListN.{length}
use Rattle.blake3.specs.Spec.{hash}
use Rattle.journal_convert.specs.PassLaws.{Measuring}
use Rattle.journal_convert.proofs.measure.Given as goal

abbrev pub invariant-loop-d : goal.invariant-loop-d
invariant-loop-d l = Measuring hash l.s l.place l.len l.dropped_len

abbrev pub decreases-loop-d : goal.decreases-loop-d
decreases-loop-d l = length l.s - l.place
