-- The counts and the transitions that lent words spell, one by one.
-- Assumes nothing.
use Rattle.std.specs.Prelude.{ℕ, ◌+◌, ◌*◌, ◌/◌, List, length, get_or}
use Rattle.rows.specs.Table.{rows_of}
use Rattle.counters.specs.declared.CounterTransition.{CounterTransition}
use Rattle.counters.specs.Counts.{Entry}
use Rattle.counters.specs.Layout.{transition_row}

-- row k of a table
abbrev pub row_at : List ℕ → ℕ → Entry
row_at t k = record { idx = get_or t (k * 2) 0; count = get_or t (k * 2 + 1) 0 }

-- a transition of an index, an old and a new count
abbrev pub transition : ℕ → ℕ → ℕ → CounterTransition
transition i old new = record { idx = record { 0 = i }; old_raw = old; new_raw = new }

-- transition i of lent words
abbrev pub transition_at : List ℕ → ℕ → CounterTransition
transition_at ws i = transition (get_or ws (i * 3) 0) (get_or ws (i * 3 + 1) 0) (get_or ws (i * 3 + 2) 0)

-- the whole transitions of lent words
abbrev pub transitions : List ℕ → List CounterTransition
transitions ws = rows_of transition_row (length ws / 3) ws
