-- Applying some of a batch's records, one after the other: how far it is, and what each one leaves.
-- Assumes nothing.
use Rattle.std.specs.Prelude.{◌≡◌, Bool, List, [], ◌∷◌, ℕ, suc, ◌+◌, ◌*◌, ◌≤◌, ◌<◌, length, drop, get_or}
use Rattle.std.proofs.Common.{sym, ap, ◌∙◌, arith, add-one, drop-cons}
use Rattle.std.proofs.Math.Seq.{drop-length}
use Rattle.rows.specs.Table.{rows_of, table_of}
use Rattle.rows.proofs.TableLaws.{rows_of-table, length-table, table-rows_of, length-rows_of}
use Rattle.counters.specs.declared.CounterTransition.{CounterTransition}
use Rattle.counters.specs.Counts.{Entry}
use Rattle.counters.specs.Layout.{count_row}
use Rattle.counters.proofs.CodingLaws.{count-lawful}
use Rattle.counters.specs.Batch.{counts_after}
use Rattle.counters.specs.Held.{InOrder}
use Rattle.counters.specs.Steps.{transition}
use Rattle.counter_steps.specs.Steps.{pass_of, apply_one}
use Rattle.counters.proofs.ApplyLaws.{in-order-table, in-order-ascends}
use Rattle.counter_steps.specs.PassLaws.{one-ascends, one-fits, turn, pass-none}

-- i records of bs are seen: the table has n rows, and those that are left lead from it to es
pub record Seen (many : Bool) (bs : List CounterTransition) (len : ℕ) (es : List Entry) (i n : ℕ) (t : List ℕ) : Type 0 where
  pub within : i ≤ length bs
  pub long : length t ≡ len
  pub order : InOrder n t
  pub leads : counts_after (pass_of many (drop i bs)) (rows_of count_row n t) ≡ es

module _ (many : Bool) (bs : List CounterTransition) (len : ℕ) (es : List Entry) (fits : length es * 2 ≤ len) (i n : ℕ) (t : List ℕ) (s : Seen many bs len es i n t) where
  abbrev rows : List Entry
  rows = rows_of count_row n t

  module _ (h : i < length bs) where
    abbrev x : CounterTransition
    x = get_or bs i (transition 0 0 0)

    abbrev one : List Entry
    one = apply_one many x rows

    from-here : counts_after (pass_of many (x ∷ drop (suc i) bs)) rows ≡ es
    from-here = ap (λ ts. counts_after (pass_of many ts) rows) (sym (drop-cons bs i (transition 0 0 0) h)) ∙ s.leads

    pub one-has-room : length one * 2 ≤ length t
    one-has-room =
        one-fits many x (drop (suc i) bs) rows (in-order-ascends n t s.order) (length t) (rw (length-rows_of count_row n t) s.order.laid.fits) (rw (from-here, s.long) fits)

    pub seen_one : (n' : ℕ) (t' : List ℕ) → n' ≡ length one → t' ≡ table_of count_row (length t) one → Seen many bs len es (i + 1) n' t'
    seen_one n' t' e f =
        record {
          within = omega arith;
          long = ap length f ∙ length-table count-lawful (length t) one one-has-room ∙ s.long;
          order = rw (e, f) (in-order-table (length t) one one-has-room (one-ascends many x (drop (suc i) bs) rows (in-order-ascends n t s.order)));
          leads = rw (add-one, e, f, rows_of-table count-lawful (length t) one) (sym (turn many x (drop (suc i) bs) rows (in-order-ascends n t s.order)) ∙ from-here);
        }

  -- no record is left
  pub seen_all : length bs ≤ i → (n ≡ length es) × (t ≡ table_of count_row len es)
  seen_all h =
      let e : i ≡ length bs = omega (arith, s.within) in
      let d : drop i bs ≡ [] = rw e (drop-length bs) in
      let q : rows ≡ es = sym (pass-none many rows) ∙ ap (λ ts. counts_after (pass_of many ts) rows) (sym d) ∙ s.leads in
      rw (← q, ← s.long) (sym (length-rows_of count_row n t), sym (table-rows_of count-lawful n t s.order.laid))
