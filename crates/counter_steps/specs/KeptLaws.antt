-- A batch that passed every test, applied in two passes over the table: first what leaves no row, then what leaves one.
-- Assumes nothing.
use Rattle.std.specs.Prelude.{◌≡◌, true, false, List, ℕ, ◌+◌, ◌-◌, ◌*◌, ◌≤◌, length}
use Rattle.std.proofs.Common.{◌∙◌, arith}
use Rattle.base.specs.Logic.{keep}
use Rattle.rows.specs.Table as rows
use Rattle.rows.specs.Table.{rows_of}
use Rattle.rows.proofs.TableLaws.{rows_of-table, length-table, length-rows_of}
use Rattle.counters.specs.declared.Counters.{Counters}
use Rattle.counters.specs.declared.CounterMaintenance.{CounterMaintenance}
use Rattle.counters.specs.Counts.{Entry}
use Rattle.counters.specs.Maintenance.{maintained}
use Rattle.counters.specs.Batch.{birth, death, kept, births, deaths, counts_after, state_after}
use Rattle.counters.specs.Layout.{count_row, record_of, table_of, state_of}
use Rattle.counters.proofs.LayoutLaws.{held}
use Rattle.counters.proofs.CodingLaws.{count-lawful}
use Rattle.counters.specs.Held.{InOrder, Judged}
use Rattle.counters.specs.Steps.{transitions}
use Rattle.counters.proofs.RowLaws.{in_order}
use Rattle.counters.proofs.ApplyLaws.{in-order-table, in-order-ascends, after-ascends}
use Rattle.counter_steps.specs.Steps.{pass_of}
use Rattle.counter_steps.specs.PassLaws.{after_less, pass_all, two-passes}

module _ (c : Counters) (t ws : List ℕ) (j : Judged c t ws) where
  abbrev es : List Entry
  es = rows_of count_row c.stored t

  -- the counts after the first pass
  abbrev freed : List Entry
  freed = counts_after (pass_of false (transitions ws)) es

  ordered-rows : InOrder c.stored t
  ordered-rows = in_order c t j.holding

  both : counts_after (pass_of true (transitions ws)) freed ≡ counts_after (kept (transitions ws)) es
  both = two-passes (transitions ws) es j.once

  -- ---- what the first pass asks for, and what it leaves for the second
  pub first-order : InOrder c.stored t
  first-order = ordered-rows

  pub first_fits : length freed * 2 ≤ length t
  first_fits =
      omega (
        arith,
        after_less (pass_of false (transitions ws)) es (in-order-ascends c.stored t ordered-rows) (pass_all false (transitions ws)),
        length-rows_of count_row c.stored t,
        (held c t j.holding).laid.fits,
      )

  module _ (n : ℕ) (t' : List ℕ) (rows_are : n ≡ length freed) (table_is : t' ≡ rows.table_of count_row (length t) freed) where
    pub second-order : InOrder n t'
    second-order =
        rw (rows_are, table_is)
        (in-order-table (length t) freed first_fits (after-ascends (pass_of false (transitions ws)) es (in-order-ascends c.stored t ordered-rows)))

    same_length : length t' ≡ length t
    same_length = rw (table_is, length-table count-lawful (length t) freed first_fits)

    rows_same : rows_of count_row n t' ≡ freed
    rows_same = rw (rows_are, table_is, rows_of-table count-lawful (length t) freed)

    pub second_fits : length (counts_after (pass_of true (transitions ws)) (rows_of count_row n t')) * 2 ≤ length t'
    second_fits = rw (rows_same, both, same_length) j.fits

    -- ---- what the second pass leaves
    module _ (live m : ℕ) (after : CounterMaintenance) (total-is : live ≡ c.live_cells + length (keep birth (kept (transitions ws))) - length (keep death (kept (transitions ws))))
        (after_is : after ≡ maintained (kept (transitions ws)) c.maintenance)
        (number_is : m ≡ length (counts_after (pass_of true (transitions ws)) (rows_of count_row n t'))) where
      pub record-after : record { next_idx = record { 0 = c.next_idx.0 }; live_cells = live; stored = m; maintenance = after; settings = c.settings }
          ≡ record_of c.settings (state_after (kept (transitions ws)) (state_of c t))
      unfolding record_of state_after state_of births deaths
      record-after = rw (total-is, after_is, number_is, rows_same, both)

    pub table-after : (t'' : List ℕ) → t'' ≡ rows.table_of count_row (length t') (counts_after (pass_of true (transitions ws)) (rows_of count_row n t'))
        → t'' ≡ table_of (length t) (state_after (kept (transitions ws)) (state_of c t))
    unfolding table_of state_after state_of
    table-after t'' e = e ∙ rw (same_length, rows_same, both)
