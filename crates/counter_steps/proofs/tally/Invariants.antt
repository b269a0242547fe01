use mathlib.Core.Path.{◌≡◌}
use Prim.Native.Nat.{◌+◌, ◌≤◌}
use lib.ListN.{length, drop}
use Rattle.base.specs.Logic.{keep}
use Rattle.counters.specs.Batch.{kept}
use Rattle.counters.specs.Steps.{transitions}
use Rattle.counter_steps.specs.Steps.{of_kind}
use Rattle.counter_steps.proofs.tally.Given as goal

abbrev pub invariant-loop-i : goal.invariant-loop-i
invariant-loop-i g l = (l.n ≤ l.i) × (l.n + length (keep (of_kind l.kind) (kept (drop l.i (transitions (g.B.Transitions.words l.b))))) ≡ length (keep (of_kind l.kind) (kept (transitions (g.B.Transitions.words l.b)))))
