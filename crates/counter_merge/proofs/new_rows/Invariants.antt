use mathlib.Core.Path.{◌≡◌}
use Prim.Native.Nat.{◌+◌, ◌≤◌}
use lib.ListN.{drop}
use Rattle.rows.specs.Keys.{keys, first_word}
use Rattle.counters.specs.Steps.{transitions}
use Rattle.counter_merge.specs.Passes.{new_rows}
use Rattle.counter_merge.proofs.new_rows.Given as goal

abbrev pub invariant-loop-i : goal.invariant-loop-i
invariant-loop-i g l =
    (l.k ≤ l.i) × (l.k + new_rows (keys first_word 2 l.n l.t) (drop l.i (transitions (g.B.Transitions.words l.b))) ≡ new_rows (keys first_word 2 l.n l.t) (transitions (g.B.Transitions.words l.b)))
