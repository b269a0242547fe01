-- Counts by ascending index stay so where counts are set, and stand in a table.
-- Assumes nothing.
use Rattle.std.specs.Prelude.{◌≡◌, refl, true, List, [], ◌∷◌, map, ℕ, suc, ◌*◌, ◌≤◌, ◌<◌, length}
use Rattle.std.proofs.Common.{arith}
use Rattle.base.specs.Logic.{fold, ascending_from}
use Rattle.rows.specs.Table.{rows_of, table_of}
use Rattle.rows.proofs.TableLaws.{rows_of-table, laid_table}
use Rattle.rows.specs.Keys.{keys, first_word, place}
use Rattle.rows.proofs.KeyLaws.{put_rows}
use Rattle.rows.proofs.OrderLaws.{put_rows-ascending}
use Rattle.counters.specs.declared.CounterTransition.{CounterTransition}
use Rattle.counters.specs.Counts.{Entry, row_of, set_count}
use Rattle.counters.specs.Layout.{count_row}
use Rattle.counters.proofs.CodingLaws.{count-lawful}
use Rattle.counters.specs.Batch.{counts_after}
use Rattle.counters.specs.Held.{InOrder}
use Rattle.counters.proofs.RowLaws.{indices}
use Rattle.counters.proofs.SetLaws.{set-grows, set-shrinks}
use Rattle.counters.proofs.CountLaws.{row_within, row-ascending}

-- counts by ascending index
abbrev pub Ascends : List Entry → Type 0
Ascends es = ascending_from 0 (map (λ e. e.idx) es) ≡ true

-- ---- counts in order, as a table
pub in-order-table : (len : ℕ) (es : List Entry) → length es * 2 ≤ len → Ascends es → InOrder (length es) (table_of count_row len es)
in-order-table len es h a =
    record {
      laid = laid_table count-lawful len es h;
      ascends = rw (← indices (length es) (table_of count_row len es), rows_of-table count-lawful len es) a;
    }

pub in-order-ascends : (n : ℕ) (t : List ℕ) → InOrder n t → Ascends (rows_of count_row n t)
in-order-ascends n t ok = rw (indices n t) ok.ascends

-- ---- one count set
module _ (i m : ℕ) (es : List Entry) (a : Ascends es) where
  pub set-ascends : Ascends (set_count i m es)
  unfolding set_count put_rows
  set-ascends = put_rows-ascending (λ e. e.idx) i (suc i) (row_of i m) es (omega arith) (row_within i m) (row-ascending i m) a

  ok : InOrder (length es) (table_of count_row (length es * 2) es)
  ok = in-order-table (length es * 2) es (omega arith) a

  pub set_more : 2 ≤ m → length es ≤ length (set_count i m es)
  set_more h =
      rw (rows_of-table count-lawful (length es * 2) es) at
      (set-grows (length es) (table_of count_row (length es * 2) es) ok i m (place i (keys first_word 2 (length es) (table_of count_row (length es * 2) es))) refl h)

  pub set-less : m < 2 → length (set_count i m es) ≤ length es
  set-less h =
      rw (rows_of-table count-lawful (length es * 2) es) at
      (set-shrinks (length es) (table_of count_row (length es * 2) es) ok i m (place i (keys first_word 2 (length es) (table_of count_row (length es * 2) es))) refl h)

-- ---- many
pub after-ascends : (xs : List CounterTransition) (es : List Entry) → Ascends es → Ascends (counts_after xs es)
unfolding counts_after fold
after-ascends [] es a = a
after-ascends (x ∷ xs) es a = after-ascends xs (set_count x.idx.0 x.new_raw es) (set-ascends x.idx.0 x.new_raw es a)
