-- Rows that go: what a batch leaves of them, by what was marked.
-- Assumes nothing.
use Rattle.std.specs.Prelude.{◌≡◌, true, false, List, ℕ, length}
use Rattle.std.proofs.Common.{sym, ap, ap₂, ◌∙◌}
use Rattle.base.specs.Logic.{all}
use Rattle.rows.specs.Table.{rows_of, table_of, Laid}
use Rattle.rows.proofs.TableLaws.{length-rows_of}
use Rattle.rows.specs.Keys.{keys, first_word}
use Rattle.counters.specs.declared.CounterTransition.{CounterTransition}
use Rattle.counters.specs.Counts.{Entry}
use Rattle.counters.specs.Layout.{count_row}
use Rattle.counters.specs.Held.{InOrder}
use Rattle.counters.specs.Batch.{counts_after}
use Rattle.counters.specs.Steps.{transitions}
use Rattle.counter_steps.specs.Steps.{pass_of}
use Rattle.counters.proofs.RowLaws.{indices}
use Rattle.counters.proofs.ApplyLaws.{in-order-ascends}
use Rattle.counter_merge.specs.Passes.{stands, standing, any_hit, marked}
use Rattle.counter_merge.specs.MarkLaws.{marked-indices, marked-none, standing-marked, standing-all}
use Rattle.counter_merge.specs.TableLaws.{Same, same-indices}

module _ (n : ℕ) (t ws : List ℕ) (ok : InOrder n t) (stand : all stands (rows_of count_row n t) ≡ true) where
  abbrev ts : List CounterTransition
  ts = transitions ws

  all-stand : standing (rows_of count_row n t) ≡ rows_of count_row n t
  all-stand = standing-all (rows_of count_row n t) stand

  -- some row was marked, and the rows that stand are kept
  module _ (t' : List ℕ) (words : t' ≡ table_of count_row (length t) (marked ts (rows_of count_row n t))) where
    marked-same : Same n t (marked ts (rows_of count_row n t)) t'
    marked-same = same-indices n t ok (marked ts (rows_of count_row n t)) (marked-indices ts (rows_of count_row n t)) t' words

    pub marked-laid : Laid 2 n t'
    marked-laid = marked-same.ordered.laid

    pub dropped : (r : ℕ) (t'' : List ℕ) → r ≡ length (standing (rows_of count_row n t')) → t'' ≡ table_of count_row (length t') (standing (rows_of count_row n t'))
        → (r ≡ length (counts_after (pass_of false ts) (rows_of count_row n t))) × (t'' ≡ table_of count_row (length t) (counts_after (pass_of false ts) (rows_of count_row n t)))
    dropped r t'' a b =
        let e : standing (rows_of count_row n t') ≡ counts_after (pass_of false ts) (rows_of count_row n t) =
        ap standing marked-same.spells ∙ standing-marked ts (rows_of count_row n t) (in-order-ascends n t ok) ∙ ap (counts_after (pass_of false ts)) all-stand in
        (a ∙ ap length e, b ∙ ap₂ (λ (k : ℕ) (l : List Entry). table_of count_row k l) marked-same.size e)

    -- none was
    pub none_dropped : any_hit (keys first_word 2 n t) ts ≡ false
        → (n ≡ length (counts_after (pass_of false ts) (rows_of count_row n t))) × (t' ≡ table_of count_row (length t) (counts_after (pass_of false ts) (rows_of count_row n t)))
    none_dropped h =
        let q : marked ts (rows_of count_row n t) ≡ rows_of count_row n t = marked-none ts (rows_of count_row n t) (ap (λ (ks : List ℕ). any_hit ks ts) (indices n t) ∙ h) in
        let e : counts_after (pass_of false ts) (rows_of count_row n t) ≡ rows_of count_row n t =
        ap (counts_after (pass_of false ts)) (sym all-stand) ∙ sym (standing-marked ts (rows_of count_row n t) (in-order-ascends n t ok)) ∙ ap standing q ∙ all-stand in
        rw e (sym (length-rows_of count_row n t), words ∙ ap (table_of count_row (length t)) q)
