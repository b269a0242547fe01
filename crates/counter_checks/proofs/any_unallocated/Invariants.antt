use mathlib.Core.Path.{◌≡◌}
use lib.ListN.{drop}
use Rattle.base.specs.Logic.{any}
use Rattle.counters.specs.Batch.{kept, unallocated}
use Rattle.counters.specs.Steps.{transitions}
use Rattle.counter_checks.proofs.any_unallocated.Given as goal

abbrev pub invariant-loop-i : goal.invariant-loop-i
invariant-loop-i g l = any (unallocated l.next) (kept (transitions (g.B.Transitions.words l.b))) ≡ any (unallocated l.next) (kept (drop l.i (transitions (g.B.Transitions.words l.b))))
