-- A batch of records and the words that spell it: the two forms of a batch agree.
-- Assumes nothing.
use Rattle.std.specs.Prelude.{◌≡◌, ℕ, ◌*◌, ◌/◌, ◌%◌, take}
use Rattle.std.proofs.Common.{sym, ◌∙◌, arith, eq-eqb}
use Rattle.std.proofs.Math.Path.{ap}
use mathlib.Core.List.{List, [], append-nil}
use Rattle.std.proofs.Math.Option.{some}
use Rattle.std.proofs.Math.ListN.{length}
use Rattle.std.proofs.Math.Seq.{take-length}
use Rattle.base.specs.Logic.{flat}
use Rattle.rows.specs.Table.{rows_of}
use Rattle.rows.proofs.TableLaws.{length-words, words-rows_of, rows_of-words}
use Rattle.counters.specs.Returned.{Applied}
use Rattle.counters.specs.declared.Counters.{Counters}
use Rattle.counters.specs.declared.CounterTransition.{CounterTransition}
use Rattle.counters.specs.Batch.{apply_batch}
use Rattle.counters.specs.Calls.{Changed, on_state, laid_out, effect, batch_call}
use Rattle.counters.specs.Layout.{transition_row, room_of, words_of, batch_of}
use Rattle.counters.proofs.CodingLaws.{transition-lawful}
use Rattle.counters.specs.Steps.{transitions}

-- lent words that aren't ragged are spelled by their transitions: every batch of words is one of records
pub words-spelled : (ws : List ℕ) → length ws % 3 ≡ 0 → words_of (transitions ws) ≡ ws
unfolding words_of
words-spelled ws h =
    let e : length ws / 3 * 3 ≡ length ws = omega (arith, h) in
    words-rows_of transition-lawful (length ws / 3) ws (omega (arith, e)) ∙ ap (λ (n : ℕ). take n ws) e ∙ take-length ws

module _ (ts : List CounterTransition) where
  pub length-words_of : length (words_of ts) ≡ length ts * 3
  unfolding words_of
  length-words_of = length-words transition-lawful ts

  pub words-whole : length (words_of ts) % 3 ≡ 0
  words-whole = omega (arith, length-words_of)

  pub words-transitions : transitions (words_of ts) ≡ ts
  unfolding words_of
  words-transitions =
      let e : length (flat transition_row.enc ts) / 3 ≡ length ts = omega (arith, length-words transition-lawful ts) in
      ap (λ (n : ℕ). rows_of transition_row n (flat transition_row.enc ts)) e
      ∙ ap (rows_of transition_row (length ts)) (sym (append-nil (flat transition_row.enc ts))) ∙ rows_of-words transition-lawful ts []

  -- records and their words are one batch
  pub words-batch : batch_of (words_of ts) ≡ some ts
  unfolding batch_of
  words-batch = rw (eq-eqb (length (words_of ts) % 3) 0 words-whole) (ap some words-transitions)

  module _ (c : Counters) (t : List ℕ) where
    -- the call on the words is the operation on the records
    pub records-call : batch_call c t (words_of ts) ≡ laid_out c.settings c t (on_state c t (λ s. apply_batch (room_of t) s ts))
    unfolding batch_call
    records-call = rw words-batch

    -- the two forms of the call agree: lent words that spell the records give what the records give
    module _ (ws : List ℕ) (spelled : batch_of ws ≡ some ts) where
      pub forms-agree : batch_call c t ws ≡ batch_call c t (words_of ts)
      unfolding batch_call
      forms-agree = rw (spelled, words-batch)

      pub same-answers : (r r' : Applied) (u u' : List ℕ) → effect r u ≡ batch_call c t ws → effect r' u' ≡ batch_call c t (words_of ts) → (r ≡ r') × (u ≡ u')
      same-answers r r' u u' e f =
          let same : effect r u ≡ effect r' u' = e ∙ forms-agree ∙ sym f in
          (ap (λ (x : Changed). x.result) same, ap (λ (x : Changed). x.table) same)
