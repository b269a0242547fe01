-- `counter_steps::grown_sets`. The invariant: the first k sets' removal counts are as they will be.
-- Assumes nothing.
use mathlib.Core.Path.{◌≡◌}
use lib.ListN.{length, take}
use Rattle.counters.specs.Maintenance.{grown_sets}
use Rattle.counters.specs.Batch.{kept}
use Rattle.counters.specs.Steps.{transitions}
use Rattle.counter_steps.proofs.grown_sets.Given as goal

abbrev pub invariant-loop-k : goal.invariant-loop-k
invariant-loop-k g l = (length l.small ≡ 8) × (take l.k l.small ≡ take l.k (grown_sets (kept (transitions (g.B.Transitions.words l.b))) l.removed))
