-- `counter_repeats::gather`. The invariant: the indices at the front, and those that the transitions left name, are those of the batch.
-- Assumes nothing.
use Rattle.counter_repeats.specs.GatherLaws.{Gathered}
use Rattle.counter_repeats.proofs.gather.Given as goal

abbrev pub invariant-loop-i : goal.invariant-loop-i
invariant-loop-i g l = Gathered l.initial.s (g.B.Transitions.words l.b) l.s l.k l.i
