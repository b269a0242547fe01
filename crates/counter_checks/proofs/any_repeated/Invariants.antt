use mathlib.Core.Path.{◌≡◌}
use lib.ListN.{drop}
use Rattle.base.specs.Logic.{repeated}
use Rattle.counters.specs.Batch.{kept, named}
use Rattle.counters.specs.Steps.{transitions}
use Rattle.counter_checks.proofs.any_repeated.Given as goal

abbrev pub invariant-loop-i : goal.invariant-loop-i
invariant-loop-i g l = repeated (named (kept (transitions (g.B.Transitions.words l.b)))) ≡ repeated (named (kept (drop l.i (transitions (g.B.Transitions.words l.b)))))
