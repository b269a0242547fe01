-- Kept transitions are taken back by the same ones exchanged.
-- Assumes nothing.
use Rattle.std.specs.Prelude.{◌≡◌, refl, Bool, true, false, List, map, ℕ, ◌+◌, ◌-◌, ◌≤◌}
use Rattle.std.proofs.Common.{sym, ◌∙◌, arith}
use Rattle.std.proofs.Math.Path.{ap}
use Rattle.std.proofs.lemmas.Simd.{map-map}
use Rattle.std.proofs.Math.ListN.{length, length-map}
use Rattle.std.proofs.Math.Dec.{ltb}
use borrow.Author.Tests.{le-ltb}
use Rattle.base.specs.Logic.{any, keep, elem, repeated, max64}
use Rattle.base.specs.ListLaws.{Among, some_one, some-weaker, elem-some, none_passes, among-map, any-map}
use Rattle.base.specs.SumLaws.{keep-map}
use Rattle.base.specs.Answers.{taken, ◌>>◌, refuse_if}
use Rattle.base.specs.OutcomeLaws.{passed, taken-same}
use Rattle.base.specs.declared.Refusal.TheVariants.{Unallocated, Repeated, OffTotal, FalseOld, TableFull}
use Rattle.counters.specs.declared.CounterTransition.{CounterTransition}
use Rattle.counters.specs.Counts.{Entry, State, stored_at}
use Rattle.counters.specs.Maintenance.{maintained}
use Rattle.counters.specs.Batch.{birth, death, births, deaths, named, unallocated, false_old, off_total, counts_after, state_after, apply_kept}
use Rattle.counters.specs.Layout.{ordered}
use Rattle.counters.proofs.CountLaws.{stored_of, same-stored}
use Rattle.counters.proofs.BatchLaws.{stored-unnamed, stored-named, old-stored, ordered-counts_after}
use Rattle.counters.proofs.JudgeLaws.{total-within}
use Rattle.batch_pairs.specs.Pairs.{exchanged}

-- ---- kept transitions that are taken
-- the five tests fail
pub record Passes (room : ℕ) (s : State) (ks : List CounterTransition) : Type 0 where
  pub allocated : any (unallocated s.next) ks ≡ false
  pub once : repeated (named ks) ≡ false
  pub old : any (false_old s.counts) ks ≡ false
  pub total : off_total s.live ks ≡ false
  pub fits : ltb room (length (counts_after ks s.counts)) ≡ false

module _ (room : ℕ) (s : State) (ks : List CounterTransition) where
  pub passes-taken : Passes room s ks → apply_kept room s ks ≡ taken (state_after ks s)
  unfolding apply_kept
  passes-taken p = rw (p.allocated, p.once, p.old, p.total, p.fits)

  pub taken-passes : (s' : State) → apply_kept room s ks ≡ taken s' → Passes room s ks × (s' ≡ state_after ks s)
  unfolding apply_kept
  taken-passes s' e =
      let over = ltb room (length (counts_after ks s.counts)) in
      let fifth = refuse_if over TableFull >> taken (state_after ks s) in
      let fourth = refuse_if (off_total s.live ks) OffTotal >> fifth in
      let third = refuse_if (any (false_old s.counts) ks) FalseOld >> fourth in
      let second = refuse_if (repeated (named ks)) Repeated >> third in
      let a = passed (any (unallocated s.next) ks) Unallocated second s' e in
      let b = passed (repeated (named ks)) Repeated third s' a.1 in
      let c = passed (any (false_old s.counts) ks) FalseOld fourth s' b.1 in
      let d = passed (off_total s.live ks) OffTotal fifth s' c.1 in
      let f = passed over TableFull (taken (state_after ks s)) s' d.1 in
      (record { allocated = a.0; once = b.0; old = c.0; total = d.0; fits = f.0 }, (taken-same (state_after ks s) s').0 f.1)

-- a transition among those that name no index twice stores its new count
pub stored-among : {t : CounterTransition} {ks : List CounterTransition} → Among t ks → repeated (named ks) ≡ false → (es : List Entry)
    → stored_at t.idx.0 (counts_after ks es) ≡ stored_of t.new_raw
stored-among {t} {ks} m once es =
    stored-named t.idx.0 ks es t.new_raw
    (some-weaker (λ u e. (ap (λ (v : CounterTransition). v.idx.0) e, ap (λ (v : CounterTransition). v.new_raw) e)) m) once

-- ---- exchanged transitions
module _ (ks : List CounterTransition) where
  exchanged-named : named (map exchanged ks) ≡ named ks
  exchanged-named = map-map (λ t. t.idx.0) exchanged ks

  exchanged-births : births (map exchanged ks) ≡ deaths ks
  unfolding births deaths
  exchanged-births = ap length (keep-map birth exchanged ks) ∙ length-map (keep death ks) exchanged

  exchanged-deaths : deaths (map exchanged ks) ≡ births ks
  unfolding births deaths
  exchanged-deaths = ap length (keep-map death exchanged ks) ∙ length-map (keep birth ks) exchanged

module _ (room : ℕ) (s : State) (ks : List CounterTransition) (o : ordered s.next s.counts ≡ true) (few : length s.counts ≤ room) (p : Passes room s ks) where
  abbrev es : List Entry
  es = s.counts

  abbrev es' : List Entry
  es' = counts_after ks es

  abbrev xs : List CounterTransition
  xs = map exchanged ks

  below : any (unallocated s.next) xs ≡ false
  below = any-map exchanged (unallocated s.next) ks ∙ p.allocated

  once : repeated (named xs) ≡ false
  once = ap repeated (exchanged-named ks) ∙ p.once

  in_order : ordered s.next es' ≡ true
  in_order = ordered-counts_after s.next ks es o p.allocated

  -- each of their old counts is what is stored
  old : any (false_old es') xs ≡ false
  old = any-map exchanged (false_old es') ks ∙ (none_passes (λ t. false_old es' (exchanged t)) ks).1 (λ t m. (old-stored s.next es' in_order (exchanged t)).1 (stored-among m p.once es))

  -- and each index has again what it had
  stored_back : (i : ℕ) → stored_at i (counts_after xs es') ≡ stored_at i es
  stored_back i = go (elem i (named ks)) refl
    where
      go : (b : Bool) → elem i (named ks) ≡ b → stored_at i (counts_after xs es') ≡ stored_at i es
      go true q =
          let (t, n, m) = some_one ((elem-some (λ t. t.idx.0) i ks).0 q) in
          let was = (old-stored s.next es o t).0 ((none_passes (false_old es) ks).0 p.old t m) in
          rw n (stored-among (among-map exchanged m) once es' ∙ sym was)
      go false q = stored-unnamed i xs es' (ap (elem i) (exchanged-named ks) ∙ q) ∙ stored-unnamed i ks es q

  counts-back : counts_after xs es' ≡ es
  counts-back = same-stored s.next (counts_after xs es') es (ordered-counts_after s.next xs es' in_order below) o stored_back

  live_back : s.live + births ks - deaths ks + births xs - deaths xs ≡ s.live
  unfolding births deaths
  live_back = omega (arith, exchanged-births ks, exchanged-deaths ks, total-within s.live ks p.total)

  total-back : off_total (s.live + births ks - deaths ks) xs ≡ false
  unfolding off_total births deaths
  total-back =
      let t = total-within s.live ks p.total in
      rw (exchanged-births ks, exchanged-deaths ks, le-ltb max64 (s.live + births ks - deaths ks + deaths ks) (omega arith))
      (le-ltb (s.live + births ks - deaths ks + deaths ks) (births ks) (omega arith))

  -- they pass the tests on what the transitions leave
  pub inverse-passes : Passes room (state_after ks s) xs
  unfolding state_after
  inverse-passes = record { allocated = below; once = once; old = old; total = total-back; fits = rw counts-back (le-ltb room (length es) few) }

  -- and leave next index, live total and counts from before
  pub inverse-state : state_after xs (state_after ks s) ≡ record { next = s.next; live = s.live; counts = s.counts; maintenance = maintained xs (maintained ks s.maintenance) }
  unfolding state_after
  inverse-state = rw (live_back, counts-back)
