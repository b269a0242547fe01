-- The calls on a record and a table that are those of a state of counters: an accepted call leaves those of the next state, a refused one
-- leaves them as they were.
-- Assumes nothing.
use Rattle.std.specs.Prelude.{◌≡◌, refl, true, List, ℕ, ◌+◌, ◌/◌, ◌^◌, ◌≤◌, ◌<◌, length, ltb}
use Rattle.std.proofs.Math.Path.{ap, ap₂}
use Rattle.std.proofs.Common.{◌∙◌, arith}
use Rattle.base.specs.Logic.{all}
use Rattle.base.specs.Answers.{taken, Taken}
use Rattle.counters.specs.declared.ShrinkSettings.{ShrinkSettings}
use Rattle.counters.specs.declared.Counters.{Counters}
use Rattle.counters.specs.declared.CounterTransition.{CounterTransition}
use Rattle.counters.specs.Counts.{State, fresh}
use Rattle.counters.specs.Batch.{kept, state_after, apply_batch}
use Rattle.counters.specs.Maintenance.{in_range, adjusted, decide, shrunk}
use Rattle.counters.specs.Layout.{record_of, table_of, with_next, with_maintenance, state_of, holds, words_of}
use Rattle.counters.proofs.LayoutLaws.{length-table_of, state_of-laid, holds-laid}
use Rattle.counters.proofs.WordLaws.{words-batch}
use Rattle.counters.specs.Calls.{laid, laid_out, new_call, alloc_call, batch_call, decided, shrink_call}
use Rattle.counters.proofs.CallLaws.{new-taken, new-state, alloc-taken, alloc-state, batch-held, batch-accepted, shrink-held, shrink-state}
use Rattle.counters.proofs.RefusalLaws.{taken-state, taken-fits}
use Rattle.snapshot_laws.specs.RoundTrip.{WellFormed, well-maintained}
use Rattle.snapshot_laws.specs.WellFormedLaws.{new-well-formed, alloc-well-formed, batch-well-formed, shrink-well-formed}
use Rattle.node_box.specs.Box.{allocate, batch, batch_records, shrink, adjust}
use Rattle.demand3.specs.States.{counters_after}

-- ---- the record and the table of a state

-- the record and the table, of len words, are those of the state under settings in their ranges; its numbers are u64, and its counts in order
pub record CountersHeld (g : ShrinkSettings) (len : ℕ) (c : Counters) (t : List ℕ) (s : State) : Type 0 where
  pub ranged : in_range g ≡ true
  pub same_record : c ≡ record_of g s
  pub same_table : t ≡ table_of len s
  pub fits : length s.counts ≤ len / 2
  pub well : WellFormed s

module _ {g : ShrinkSettings} {len : ℕ} {c : Counters} {t : List ℕ} {s : State} (h : CountersHeld g len c t s) where
  pub counters-hold : holds c t ≡ true
  counters-hold = rw (h.same_record, h.same_table) (holds-laid g s len (omega (arith, h.fits)) h.ranged h.well.spelled.sorted h.well.bounded)

  pub counters-state : state_of c t ≡ s
  counters-state = rw (h.same_record, h.same_table) (state_of-laid g s len (omega (arith, h.fits)))

  pub counters-length : length t ≡ len
  counters-length = rw h.same_table (length-table_of g s len (omega (arith, h.fits)))

-- a state laid out
pub laid-counters : (g : ShrinkSettings) (len : ℕ) (s : State) → in_range g ≡ true → length s.counts ≤ len / 2 → WellFormed s
    → CountersHeld g len (laid g len s).result.counters (laid g len s).table s
unfolding laid
laid-counters g len s r f w = record { ranged = r; same_record = refl; same_table = refl; fits = f; well = w }

-- ---- fresh counters
pub new-held : (g : ShrinkSettings) (next : ℕ) (t : List ℕ) → in_range g ≡ true → next < 2 ^ 64
    → CountersHeld g (length t) (new_call g (record { 0 = next }) t).result.counters (new_call g (record { 0 = next }) t).table (fresh g.base next)
new-held g next t r l =
    rw (new-taken g (record { 0 = next }) t r)
    (laid-counters g (length t) (fresh g.base next) r (unfold fresh in (omega arith)) (rw (new-state g (record { 0 = next }) t r) at (new-well-formed g (record { 0 = next }) t r l)))

module _ {g : ShrinkSettings} {len : ℕ} {c : Counters} {t : List ℕ} {s : State} (h : CountersHeld g len c t s) where
  pub settings-same : c.settings ≡ g
  unfolding record_of
  settings-same = ap (λ (d : Counters). d.settings) h.same_record

  was-well : WellFormed (state_of c t)
  was-well = rw (counters-state h) h.well

  -- ---- allocation
  pub alloc-held : (alloc_call c).answer ≡ Taken → CountersHeld g len (alloc_call c).counters t (counters_after g allocate s)
  unfolding counters_after with_next record_of table_of
  alloc-held e =
      record {
        ranged = h.ranged;
        same_record = (alloc-taken c e).1 ∙ ap (λ (d : Counters). with_next d (d.next_idx.0 + 1)) h.same_record;
        same_table = h.same_table;
        fits = h.fits;
        well = rw (alloc-state c t e, counters-state h) at (alloc-well-formed c t was-well);
      }

  -- ---- a batch
  pub batch-held-after : (ws : List ℕ) → all (λ w. ltb w (2 ^ 64)) ws ≡ true → (batch_call c t ws).result.answer ≡ Taken
      → CountersHeld g len (batch_call c t ws).result.counters (batch_call c t ws).table (counters_after g (batch ws) s)
  unfolding counters_after laid_out
  batch-held-after ws u e =
      let (s', a, same) = batch-accepted c t ws e in
      let ok : apply_batch (len / 2) s a.transitions ≡ taken s' = rw (counters-state h, counters-length h) at a.applied in
      let is : s' ≡ state_after (kept a.transitions) s = taken-state (len / 2) s a.transitions s' ok in
      let call : batch_call c t ws ≡ laid g len s' =
      batch-held c t ws a.transitions a.holding a.words ∙ ap (laid_out c.settings c t) a.applied
      ∙ ap₂ (λ (k : ShrinkSettings) (n : ℕ). laid k n s') settings-same (counters-length h) in
      let well : WellFormed s' = rw same at (batch-well-formed c t was-well ws u) in
      rw (a.words, call, ← is) (laid-counters g len s' h.ranged (taken-fits (len / 2) s a.transitions s' ok) well)

  pub records-held-after : (ts : List CounterTransition) → all (λ w. ltb w (2 ^ 64)) (words_of ts) ≡ true → (batch_call c t (words_of ts)).result.answer ≡ Taken
      → CountersHeld g len (batch_call c t (words_of ts)).result.counters (batch_call c t (words_of ts)).table (counters_after g (batch_records ts) s)
  unfolding counters_after
  records-held-after ts u e = rw (words-batch ts) at (batch-held-after (words_of ts) u e)

  -- ---- the loan of maintenance
  pub adjust-held-after : (saved : ℕ) → CountersHeld g len (with_maintenance c (adjusted c.settings saved c.maintenance)) t (counters_after g (adjust saved) s)
  unfolding counters_after with_maintenance record_of table_of
  adjust-held-after saved =
      record {
        ranged = h.ranged;
        same_record = ap (λ (d : Counters). with_maintenance d (adjusted d.settings saved d.maintenance)) h.same_record;
        same_table = h.same_table;
        fits = h.fits;
        well = well-maintained s (adjusted g saved s.maintenance) h.well;
      }

  -- ---- shrinking
  pub shrink-held-after : (saved : ℕ) → CountersHeld g len (shrink_call c t saved).counters t (counters_after g (shrink saved) s)
  unfolding counters_after decided with_maintenance record_of table_of
  shrink-held-after saved =
      rw (shrink-held c t saved (counters-hold h), counters-state h)
      (record {
        ranged = h.ranged;
        same_record = ap (λ (d : Counters). with_maintenance d (shrunk d.settings saved (decide s) d.maintenance)) h.same_record;
        same_table = h.same_table;
        fits = h.fits;
        well = rw (shrink-state c t saved (counters-hold h), counters-state h, settings-same) at (shrink-well-formed c t was-well saved);
      })
