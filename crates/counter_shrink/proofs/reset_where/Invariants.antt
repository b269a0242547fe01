use Rattle.counters.specs.Maintenance.{reset_where}
use mathlib.Core.Path.{◌≡◌}
use lib.ListN.{length, take}
use Rattle.counter_shrink.proofs.reset_where.Given as goal

abbrev pub invariant-loop-k : goal.invariant-loop-k
invariant-loop-k l = (length l.left ≡ 8) × (take l.k l.left ≡ take l.k (reset_where l.small l.removed))
