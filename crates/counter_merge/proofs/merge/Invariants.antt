use Rattle.counter_merge.specs.MergeLaws.{Merging}
use Rattle.counter_merge.proofs.merge.Given as goal

abbrev pub invariant-loop-i : goal.invariant-loop-i
invariant-loop-i l = Merging l.n l.at l.s l.initial.t l.i l.left l.t

abbrev pub decreases-loop-i : goal.decreases-loop-i
decreases-loop-i l = l.left
