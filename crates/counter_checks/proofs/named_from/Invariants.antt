use mathlib.Core.Path.{◌≡◌}
use lib.Dec.{eqb}
use lib.ListN.{drop}
use Rattle.base.specs.Logic.{any, elem}
use Rattle.counters.specs.Batch.{kept, named}
use Rattle.counters.specs.Steps.{transitions}
use Rattle.counter_checks.proofs.named_from.Given as goal

abbrev pub invariant-loop-i : goal.invariant-loop-i
invariant-loop-i g l = elem l.idx (named (kept (drop l.from (transitions (g.B.Transitions.words l.b))))) ≡ any (λ t. eqb l.idx t.idx.0) (kept (drop l.i (transitions (g.B.Transitions.words l.b))))
