use mathlib.Core.Path.{◌≡◌}
use mathlib.Core.List.{[]}
use Prim.Native.Nat.{◌+◌, ◌≤◌}
use lib.ListN.{length, take, drop}
use Rattle.rows.specs.Table.{rows_of}
use Rattle.rows.specs.Keys.{keys, first_word}
use Rattle.counters.specs.Layout.{count_row}
use Rattle.counters.specs.Steps.{transitions}
use Rattle.counter_merge.specs.Passes.{new_rows, fronts, backs}
use Rattle.counter_merge.specs.Halves.{Halves}
use Rattle.counter_merge.proofs.put_all.Given as goal

abbrev pub invariant-loop-i : goal.invariant-loop-i
invariant-loop-i g l =
    (length l.t ≡ length l.initial.t) × Halves l.n l.at l.s l.t × (keys first_word 2 l.n (take l.at l.t) ≡ keys first_word 2 l.n (take l.at l.initial.t))
    × (fronts (drop l.i (transitions (g.B.Transitions.words l.b))) (rows_of count_row l.n (take l.at l.t)) ≡ fronts (transitions (g.B.Transitions.words l.b)) (rows_of count_row l.n (take l.at l.initial.t)))
    × (backs (keys first_word 2 l.n (take l.at l.initial.t)) (drop l.i (transitions (g.B.Transitions.words l.b))) (rows_of count_row l.s (drop l.at l.t)) ≡ backs (keys first_word 2 l.n (take l.at l.initial.t)) (transitions (g.B.Transitions.words l.b)) []) × (l.s + new_rows (keys first_word 2 l.n (take l.at l.initial.t)) (drop l.i (transitions (g.B.Transitions.words l.b))) ≤ new_rows (keys first_word 2 l.n (take l.at l.initial.t)) (transitions (g.B.Transitions.words l.b)))
