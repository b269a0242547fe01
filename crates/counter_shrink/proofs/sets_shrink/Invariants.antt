use Rattle.rows.specs.Table.{rows_of}
use Rattle.counters.specs.Layout.{count_row}
use Rattle.counters.specs.Maintenance.{sets_shrink}
use mathlib.Core.Path.{◌≡◌}
use lib.ListN.{length, take}
use Rattle.counter_shrink.proofs.sets_shrink.Given as goal

abbrev pub invariant-loop-k : goal.invariant-loop-k
invariant-loop-k l = (length l.small ≡ 8) × (take l.k l.small ≡ take l.k (sets_shrink (rows_of count_row l.n l.t) l.removed))
