-- `journal_convert::rewrite`. The loop's invariant: the outputs, filled with what is ahead, are those that are wanted.
-- The measure is what is left of the journal's bytes. Assumes nothing.
use Prim.Native.Nat.{◌-◌}
use lib.ListN.{length}
use Rattle.blake3.specs.Spec.{hash}
use Rattle.journal_convert.specs.PassLaws.{Writing}
use Rattle.journal_convert.proofs.rewrite.Given as goal

abbrev pub invariant-loop-place : goal.invariant-loop-place
invariant-loop-place l = Writing hash l.s l.initial.out l.initial.dropped l.out l.dropped l.place l.at l.to

abbrev pub decreases-loop-place : goal.decreases-loop-place
decreases-loop-place l = length l.s - l.place
