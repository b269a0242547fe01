-- The table while rows that come wait at its end.
-- Assumes nothing.
use Rattle.std.specs.Prelude.{◌≡◌, true, List, ℕ, ◌+◌, ◌*◌, ◌≤◌, length, take, drop}
use Rattle.base.specs.Logic.{all}
use Rattle.rows.specs.Table.{rows_of}
use Rattle.rows.specs.Keys.{keys, first_word}
use Rattle.counters.specs.Layout.{count_row}
use Rattle.counters.specs.Held.{InOrder}
use Rattle.counter_merge.specs.Passes.{comes}

-- n rows in the words before `at`, and s rows from there on
pub record Halves (n at s : ℕ) (t : List ℕ) : Type 0 where
  pub front : InOrder n (take at t)
  pub back : InOrder s (drop at t)
  pub within : at ≤ length t

-- the s rows are of other indices and stand, and there is room for them behind the n
pub record Apart (n at s : ℕ) (t : List ℕ) : Type 0 where
  pub halves : Halves n at s t
  pub others : all (comes (keys first_word 2 n (take at t))) (rows_of count_row s (drop at t)) ≡ true
  pub room : (n + s) * 2 ≤ at
