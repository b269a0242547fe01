-- `journal_read::read_records`. The loop's invariant: the tables hold a state from which the rest of the journal leads to the end that is wanted.
-- The measure is what is left of the journal's bytes. Assumes nothing.
use Prim.Native.Nat.{◌-◌}
use lib.ListN.{length}
use Rattle.journal_read.specs.ReadLaws.{Reading}
use Rattle.journal_read.proofs.read_records.Given as goal

abbrev pub invariant-loop-place : goal.invariant-loop-place
invariant-loop-place l = Reading l.s l.initial.nursery l.initial.es l.initial.ws l.initial.cs l.nursery l.es l.ws l.cs l.applied l.place

abbrev pub decreases-loop-place : goal.decreases-loop-place
decreases-loop-place l = length l.s - l.place
