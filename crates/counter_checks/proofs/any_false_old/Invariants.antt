use mathlib.Core.Path.{◌≡◌}
use lib.ListN.{drop}
use Rattle.base.specs.Logic.{any}
use Rattle.rows.specs.Table.{rows_of}
use Rattle.counters.specs.Layout.{count_row}
use Rattle.counters.specs.Batch.{kept, false_old}
use Rattle.counters.specs.Steps.{transitions}
use Rattle.counter_checks.proofs.any_false_old.Given as goal

abbrev pub invariant-loop-i : goal.invariant-loop-i
invariant-loop-i g l = any (false_old (rows_of count_row l.n l.t)) (kept (transitions (g.B.Transitions.words l.b))) ≡ any (false_old (rows_of count_row l.n l.t)) (kept (drop l.i (transitions (g.B.Transitions.words l.b))))
