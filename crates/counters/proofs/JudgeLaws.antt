-- A batch judged test after test, on a table that holds a state; and what it leaves where every test is passed.
-- Assumes nothing.
use Rattle.std.specs.Prelude.{◌≡◌, Bool, true, false, ◌||◌, List, ℕ, ◌+◌, ◌-◌, ◌/◌, ◌%◌, ◌^◌, ◌≤◌, ◌<◌, ltb}
use Rattle.std.proofs.Math.Path.{refl, sym, ap}
use Rattle.std.proofs.Common.{◌∙◌, arith}
use Rattle.std.proofs.Math.ListN.{length}
use borrow.Author.Tests.{eq-eqb, ne_eqb, ltb-false}
use Rattle.base.specs.Logic.{any, keep, repeated, max64}
use Rattle.base.specs.SumLaws.{length-keep}
use Rattle.base.specs.Answers.{refused, taken, Taken, Refused}
use Rattle.base.specs.declared.Refusal.{Refusal}
use Rattle.base.specs.declared.Refusal.TheVariants.{Unallocated, Repeated, OffTotal, FalseOld, TableFull, Broken, FewCells}
use Rattle.rows.specs.Table.{rows_of}
use Rattle.rows.proofs.TableLaws.{length-rows_of}
use Rattle.counters.specs.declared.Counters.{Counters}
use Rattle.counters.specs.declared.CounterTransition.{CounterTransition}
use Rattle.counters.specs.Counts.{Entry}
use Rattle.counters.specs.Maintenance.{rises, falls}
use Rattle.counters.specs.Batch.{changes, birth, death, kept, named, unallocated, false_old, births, deaths, off_total, counts_after, state_after, apply_kept, bound, apply_batch}
use Rattle.counters.specs.Layout.{count_row, transition_row, room_of, record_of, table_of, state_of, holds, batch_of}
use Rattle.counters.proofs.LayoutLaws.{held}
use Rattle.counters.specs.Calls.{effect, on_state, laid_out, laid, batch_call}
use Rattle.counters.specs.Held.{Judged}
use Rattle.counters.specs.Steps.{transitions}
use Rattle.counters.proofs.StepLaws.{total_left}
use Rattle.counters.proofs.BatchLaws.{length-counts_after}
use Rattle.counters.proofs.CallLaws.{batch-held}

-- how many kept transitions pass a test: at most as many as there are
pub few-kept : (p : CounterTransition → Bool) (ws : List ℕ) → length (keep p (kept (transitions ws))) ≤ length ws / 3
unfolding kept
few-kept p ws =
    omega (arith, length-keep p (kept (transitions ws)), length-keep changes (transitions ws), length-rows_of transition_row (length ws / 3) ws)

module _ (c : Counters) (t ws : List ℕ) where
  -- the table holds no state
  pub judge-broken : holds c t ≡ false → effect (record { answer = Refused Broken; counters = c }) t ≡ batch_call c t ws
  unfolding batch_call on_state laid_out
  judge-broken h = rw h

  -- the words are ragged
  pub judge-ragged : holds c t ≡ true → (length ws % 3 ≡ 0 → ⊥) → effect (record { answer = Refused Broken; counters = c }) t ≡ batch_call c t ws
  unfolding batch_call on_state laid_out batch_of
  judge-ragged h e = rw (h, ne_eqb (length ws % 3) 0 e)

module _ (c : Counters) (t ws : List ℕ) (h : holds c t ≡ true) (whole : length ws % 3 ≡ 0) where
  abbrev next : ℕ
  next = c.next_idx.0

  abbrev es : List Entry
  es = rows_of count_row c.stored t

  abbrev ks : List CounterTransition
  ks = kept (transitions ws)

  whole-batch : batch_call c t ws ≡ laid_out c.settings c t (apply_batch (room_of t) (state_of c t) (transitions ws))
  unfolding batch_of
  whole-batch = batch-held c t ws (transitions ws) h (rw (eq-eqb (length ws % 3) 0 whole))

  refusal : (r : Refusal) → apply_batch (room_of t) (state_of c t) (transitions ws) ≡ refused r
      → effect (record { answer = Refused r; counters = c }) t ≡ batch_call c t ws
  unfolding laid_out
  refusal r e = sym (whole-batch ∙ ap (laid_out c.settings c t) e)

  -- ---- the tests in their order
  at-2 : any (unallocated next) ks ≡ true → apply_batch (room_of t) (state_of c t) (transitions ws) ≡ refused Unallocated
  unfolding apply_batch apply_kept state_of
  at-2 e = rw e

  pub judge-unallocated : any (unallocated next) ks ≡ true → effect (record { answer = Refused Unallocated; counters = c }) t ≡ batch_call c t ws
  judge-unallocated e = refusal Unallocated (at-2 e)

  module _ (e₂ : any (unallocated next) ks ≡ false) where
    at-3 : repeated (named ks) ≡ true → apply_batch (room_of t) (state_of c t) (transitions ws) ≡ refused Repeated
    unfolding apply_batch apply_kept state_of
    at-3 e = rw (e₂, e)

    pub judge-repeated : repeated (named ks) ≡ true → effect (record { answer = Refused Repeated; counters = c }) t ≡ batch_call c t ws
    judge-repeated e = refusal Repeated (at-3 e)

    module _ (e₃ : repeated (named ks) ≡ false) where
      at_5 : any (false_old es) ks ≡ true → apply_batch (room_of t) (state_of c t) (transitions ws) ≡ refused FalseOld
      unfolding apply_batch apply_kept state_of
      at_5 e = rw (e₂, e₃, e)

      pub judge-false-old : any (false_old es) ks ≡ true → effect (record { answer = Refused FalseOld; counters = c }) t ≡ batch_call c t ws
      judge-false-old e = refusal FalseOld (at_5 e)

      module _ (e₅ : any (false_old es) ks ≡ false) where
        at-4 : off_total c.live_cells ks ≡ true → apply_batch (room_of t) (state_of c t) (transitions ws) ≡ refused OffTotal
        unfolding apply_batch apply_kept state_of
        at-4 e = rw (e₂, e₃, e₅, e)

        pub judge-off-total : off_total c.live_cells ks ≡ true → effect (record { answer = Refused OffTotal; counters = c }) t ≡ batch_call c t ws
        judge-off-total e = refusal OffTotal (at-4 e)

        -- how many counts there are after it
        pub rows-after : length (counts_after ks es) + length (keep falls ks) ≡ c.stored + length (keep rises ks)
        rows-after = rw (length-rows_of count_row c.stored t) at (length-counts_after next ks es (held c t h).sorted e₂ e₃ e₅)

        -- the room test, by the rows that come and go
        module _ (r f : ℕ) (come : r ≡ length (keep rises ks)) (go : f ≡ length (keep falls ks)) where
          pub room-test : ltb (length t / 2) (c.stored + r - f) ≡ ltb (room_of t) (length (counts_after ks es))
          unfolding room_of
          room-test = ap (ltb (length t / 2)) (omega (arith, rows-after))

          pub room-asks : length t < 2 ^ 62 → length ws < 2 ^ 62 → (c.stored + r < 2 ^ 64) × (f ≤ c.stored + r)
          room-asks p q = (omega (arith, few-kept rises ws, (held c t h).laid.fits), omega (arith, rows-after))

        module _ (e₄ : off_total c.live_cells ks ≡ false) where
          at-6 : ltb (room_of t) (length (counts_after ks es)) ≡ true → apply_batch (room_of t) (state_of c t) (transitions ws) ≡ refused TableFull
          unfolding apply_batch apply_kept state_of
          at-6 e = rw (e₂, e₃, e₅, e₄, e)

          pub judge-full : ltb (room_of t) (length (counts_after ks es)) ≡ true → effect (record { answer = Refused TableFull; counters = c }) t ≡ batch_call c t ws
          judge-full e = refusal TableFull (at-6 e)

          -- the totals after it, by the births and deaths, and by the rows that come and go
          pub few-test : (b d r f : ℕ) → b ≡ length (keep birth ks) → d ≡ length (keep death ks) → r ≡ length (keep rises ks) → f ≡ length (keep falls ks)
              → ltb (c.live_cells + b - d) (c.stored + r - f) ≡ ltb (c.live_cells + births ks - deaths ks) (length (counts_after ks es))
          unfolding births deaths
          few-test b d r f born died come go =
              let n : c.stored + r - f ≡ length (counts_after ks es) = omega (arith, rows-after) in
              rw (n, born, died)

          module _ (e₆ : ltb (room_of t) (length (counts_after ks es)) ≡ false) where
            at-25 : ltb (c.live_cells + births ks - deaths ks) (length (counts_after ks es)) ≡ true
                → apply_batch (room_of t) (state_of c t) (transitions ws) ≡ refused FewCells
            unfolding apply_batch apply_kept bound state_after state_of
            at-25 e = rw (e₂, e₃, e₅, e₄, e₆, e)

            pub judge-few : ltb (c.live_cells + births ks - deaths ks) (length (counts_after ks es)) ≡ true
                → effect (record { answer = Refused FewCells; counters = c }) t ≡ batch_call c t ws
            judge-few e = refusal FewCells (at-25 e)

            at-0 : ltb (c.live_cells + births ks - deaths ks) (length (counts_after ks es)) ≡ false
                → apply_batch (room_of t) (state_of c t) (transitions ws) ≡ taken (state_after ks (state_of c t))
            unfolding apply_batch apply_kept bound state_after state_of
            at-0 e = rw (e₂, e₃, e₅, e₄, e₆, e)

            pub judged : Judged c t ws
            judged = record { holding = h; once = e₃; total = e₄; fits = omega (arith, ltb-false (length t / 2) (length (counts_after ks es)) e₆) }

            pub judge-taken : ltb (c.live_cells + births ks - deaths ks) (length (counts_after ks es)) ≡ false
                → effect (record { answer = Taken; counters = record_of c.settings (state_after ks (state_of c t)) }) (table_of (length t) (state_after ks (state_of c t))) ≡ batch_call c t ws
            unfolding laid_out laid
            judge-taken e = sym (whole-batch ∙ ap (laid_out c.settings c t) (at-0 e))

-- ---- the total, by its two figures
module _ (live : ℕ) (ks : List CounterTransition) where
  pub total-test : (ltb max64 (live + length (keep birth ks)) || ltb (live + length (keep birth ks)) (length (keep death ks))) ≡ off_total live ks
  unfolding off_total births deaths
  total-test = refl

  pub total_of : (b d : ℕ) → b ≡ length (keep birth ks) → d ≡ length (keep death ks) → (ltb max64 (live + b) || ltb (live + b) d) ≡ off_total live ks
  total_of b d p q = rw (p, q) total-test

  pub total-within : off_total live ks ≡ false → (live + length (keep birth ks) ≤ 2 ^ 64 - 1) × (length (keep death ks) ≤ live + length (keep birth ks))
  unfolding off_total births deaths
  total-within e =
      let f = total_left live (length (keep birth ks)) (length (keep death ks)) e in
      (omega (arith, f.0), f.1)
