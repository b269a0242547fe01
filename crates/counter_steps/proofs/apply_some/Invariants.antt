use mathlib.Core.Path.{◌≡◌}
use lib.ListN.{length, drop}
use Rattle.rows.specs.Table.{rows_of}
use Rattle.counters.specs.Layout.{count_row}
use Rattle.counters.specs.Steps.{transitions}
use Rattle.counters.specs.Batch.{counts_after}
use Rattle.counter_steps.specs.Steps.{stores, pass_of}
use Rattle.counters.specs.Held.{InOrder}
use Rattle.counter_steps.proofs.apply_some.Given as goal

abbrev pub invariant-loop-i : goal.invariant-loop-i
invariant-loop-i g l =
    (length l.t ≡ length l.initial.t) × InOrder l.rows l.t
    × (counts_after (pass_of (stores l.pass) (drop l.i (transitions (g.B.Transitions.words l.b)))) (rows_of count_row l.rows l.t) ≡ counts_after (pass_of (stores l.pass) (transitions (g.B.Transitions.words l.b))) (rows_of count_row l.n l.initial.t))
