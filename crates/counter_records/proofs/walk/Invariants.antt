-- `counter_records::walk`: the walk is in a phase, and each record brings it nearer to its end.
use Rattle.counter_walk.specs.InvWalkLaws.{Inv, left}
use Rattle.counter_walk.specs.Returned.{as_walk}
use Rattle.counter_records.proofs.walk.Given as goal

abbrev pub invariant-loop-s : goal.invariant-loop-s
invariant-loop-s l = Inv l.fn.c l.fn.t l.b (as_walk l.s) l.t

abbrev pub decreases-loop-s : goal.decreases-loop-s
decreases-loop-s l = left l.b (as_walk l.s)
