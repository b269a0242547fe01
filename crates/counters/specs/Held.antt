-- What the functions behind the calls require of the table that they are lent.
-- Assumes nothing.
use Rattle.std.specs.Prelude.{◌≡◌, true, false, List, ℕ, ◌*◌, ◌≤◌, length}
use Rattle.base.specs.Logic.{repeated, ascending_from}
use Rattle.rows.specs.Table.{rows_of, Laid}
use Rattle.rows.specs.Keys.{keys, first_word}
use Rattle.counters.specs.declared.Counters.{Counters}
use Rattle.counters.specs.Batch.{kept, named, off_total, counts_after}
use Rattle.counters.specs.Layout.{count_row, holds}
use Rattle.counters.specs.Steps.{transitions}

-- the table has n rows by ascending index, and zeros behind them
pub record InOrder (n : ℕ) (t : List ℕ) : Type 0 where
  pub laid : Laid 2 n t
  pub ascends : ascending_from 0 (keys first_word 2 n t) ≡ true

-- what applying a batch asks for: the table holds a state, and the tests before 25 were passed
pub record Judged (c : Counters) (t ws : List ℕ) : Type 0 where
  pub holding : holds c t ≡ true
  pub once : repeated (named (kept (transitions ws))) ≡ false
  pub total : off_total c.live_cells (kept (transitions ws)) ≡ false
  pub fits : length (counts_after (kept (transitions ws)) (rows_of count_row c.stored t)) * 2 ≤ length t
