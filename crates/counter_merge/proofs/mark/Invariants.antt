use mathlib.Core.Bool.{◌||◌}
use mathlib.Core.Path.{◌≡◌}
use lib.ListN.{length, drop}
use Rattle.rows.specs.Table.{rows_of}
use Rattle.rows.specs.Keys.{keys, first_word}
use Rattle.counters.specs.Layout.{count_row}
use Rattle.counters.specs.Held.{InOrder}
use Rattle.counters.specs.Steps.{transitions}
use Rattle.counter_merge.specs.Passes.{marked, any_hit}
use Rattle.counter_merge.proofs.mark.Given as goal

abbrev pub invariant-loop-i : goal.invariant-loop-i
invariant-loop-i g l =
    (length l.t ≡ length l.initial.t) × InOrder l.n l.t × (keys first_word 2 l.n l.t ≡ keys first_word 2 l.n l.initial.t)
    × (marked (drop l.i (transitions (g.B.Transitions.words l.b))) (rows_of count_row l.n l.t) ≡ marked (transitions (g.B.Transitions.words l.b)) (rows_of count_row l.n l.initial.t))
    × ((l.hit || any_hit (keys first_word 2 l.n l.initial.t) (drop l.i (transitions (g.B.Transitions.words l.b)))) ≡ any_hit (keys first_word 2 l.n l.initial.t) (transitions (g.B.Transitions.words l.b)))
