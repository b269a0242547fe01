-- What a batch of kept transitions does to each count; that its order doesn't matter; how many counts are stored after it.
-- Assumes nothing.
use Rattle.std.specs.Prelude.{◌≡◌, ◌↔◌, Bool, ◌&&◌, List, [], ◌∷◌, ℕ, ◌+◌, ◌≤◌, ◌<◌, max, length, get_or, leb, ltb}
use Rattle.std.proofs.Math.Path.{refl, ap}
use Rattle.std.proofs.Common.{sym, ◌∙◌, arith}
use Rattle.std.proofs.Math.Bool.{true, false, not}
use mathlib.Core.List.Permᴰ
use mathlib.Core.List.{Permᴰ as Reordered}
use Rattle.std.proofs.Math.Decide.{dec_le}
use Rattle.std.proofs.Math.Dec.{eqb}
use borrow.Author.Tests.{le-leb, lt-leb, leb-false, le-ltb, ltb-false, eqb-true, eqb-false, eq-eqb, not-false}
use Rattle.base.specs.Logic.{pick, any, keep, fold, elem, repeated}
use Rattle.base.specs.ListLaws.{or-false, Some, some-weaker, fold-reads, fold-unset, fold-set, length-keep, any_order, keep-order, count-order, repeated-order, fold-order}
use Rattle.base.specs.Answers.{Outcome, ◌>>=◌}
use Rattle.counters.specs.declared.CounterTransition.{CounterTransition}
use Rattle.counters.specs.declared.CounterMaintenance.{CounterMaintenance}
use Rattle.counters.specs.Counts.{Entry, State, stored_at, count_at, set_count}
use Rattle.counters.specs.Maintenance.{falls, rises, clears, grown, grown_sets, maintained}
use Rattle.counters.specs.Batch.{kept, named, unallocated, births, deaths, false_old, off_total, counts_after, state_after, apply_kept, bound, apply_batch}
use Rattle.counters.specs.Layout.{ordered}
use Rattle.counters.proofs.CountLaws.{stored_of, stored-two, stored_other, stored_at-set_count, count_at-set_count, set_count-swap, ordered-set_count, length-row_of, length-set_count}
use Rattle.counters.proofs.EachLaws.{each_same}

-- ---- the count at each index
module _ (i : ℕ) (ts : List CounterTransition) (es : List Entry) where
  -- each transition in turn sets the count at its index
  pub stored_at-counts_after : stored_at i (counts_after ts es) ≡ fold (λ t n. pick (eqb i t.idx.0) (stored_of t.new_raw) n) ts (stored_at i es)
  unfolding counts_after
  stored_at-counts_after =
      fold-reads (λ t. set_count t.idx.0 t.new_raw) (λ t n. pick (eqb i t.idx.0) (stored_of t.new_raw) n) (stored_at i)
      (λ t fs. stored_at-set_count t.idx.0 t.new_raw fs i) ts es

  pub count_at-counts_after : count_at i (counts_after ts es) ≡ fold (λ t n. pick (eqb i t.idx.0) (max t.new_raw 1) n) ts (count_at i es)
  unfolding counts_after
  count_at-counts_after =
      fold-reads (λ t. set_count t.idx.0 t.new_raw) (λ t n. pick (eqb i t.idx.0) (max t.new_raw 1) n) (count_at i)
      (λ t fs. count_at-set_count t.idx.0 t.new_raw fs i) ts es

  -- where no transition names i, its count is as before
  pub stored-unnamed : elem i (named ts) ≡ false → stored_at i (counts_after ts es) ≡ stored_at i es
  stored-unnamed e = stored_at-counts_after ∙ fold-unset (λ t. t.idx.0) (λ t. stored_of t.new_raw) i ts (stored_at i es) e

  pub count-unnamed : elem i (named ts) ≡ false → count_at i (counts_after ts es) ≡ count_at i es
  count-unnamed e = count_at-counts_after ∙ fold-unset (λ t. t.idx.0) (λ t. max t.new_raw 1) i ts (count_at i es) e

  -- of transitions that name no index twice, the one that names i leaves max(new, 1)
  module _ (n : ℕ) (names : Some (λ t. (t.idx.0 ≡ i) × (t.new_raw ≡ n)) ts) (once : repeated (named ts) ≡ false) where
    pub stored-named : stored_at i (counts_after ts es) ≡ stored_of n
    stored-named =
        stored_at-counts_after
        ∙ fold-set (λ t. t.idx.0) (λ t. stored_of t.new_raw) i (stored_of n) (stored_at i es) (some-weaker (λ t p. (p.0, ap stored_of p.1)) names) once

    pub count-named : count_at i (counts_after ts es) ≡ max n 1
    count-named =
        count_at-counts_after
        ∙ fold-set (λ t. t.idx.0) (λ t. max t.new_raw 1) i (max n 1) (count_at i es) (some-weaker (λ t p. (p.0, ap (λ (m : ℕ). max m 1) p.1)) names) once

-- ---- an old count is true exactly where what it stores is stored
module _ (next : ℕ) (es : List Entry) (o : ordered next es ≡ true) (t : CounterTransition) where
  pub old-stored : (false_old es t ≡ false) ↔ (stored_at t.idx.0 es ≡ stored_of t.old_raw)
  unfolding false_old
  old-stored = go (stored_at t.idx.0 es) (stored-two next es o t.idx.0) (eqb (stored_at t.idx.0 es) 0) refl
    where
      go : (n : ℕ) → (0 < n → 2 ≤ n) → (b : Bool) → eqb n 0 ≡ b
          → (pick b (ltb 1 t.old_raw) (not (eqb t.old_raw n)) ≡ false) ↔ (n ≡ stored_of t.old_raw)
      go n two true q =
          let z = eqb-true n 0 q in (
            λ e. rw (lt-leb 2 t.old_raw (omega (arith, ltb-false 1 t.old_raw e))) z,
            λ e. elim (dec_le 2 t.old_raw) [
              | yes g ↦ absurd (omega (arith, z, rw (le-leb 2 t.old_raw g) at e))
              | no g ↦ le-ltb 1 t.old_raw (omega arith)
            ],
          )
      go n two false q =
          let z = eqb-false n 0 q in (
            λ e. let same = eqb-true t.old_raw n (not-false (eqb t.old_raw n) e) in rw (le-leb 2 t.old_raw (omega (arith, same, two (omega (arith, z))))) (sym same),
            λ e. elim (dec_le 2 t.old_raw) [
              | yes g ↦ ap not (eq-eqb t.old_raw n (sym (rw (le-leb 2 t.old_raw g) at e)))
              | no g ↦ absurd (z (rw (lt-leb 2 t.old_raw (omega arith)) at e))
            ],
          )

-- ---- the stored counts stay ascending, at least 2, below the next index
pub ordered-counts_after : (next : ℕ) (ts : List CounterTransition) (es : List Entry) → ordered next es ≡ true → any (unallocated next) ts ≡ false
    → ordered next (counts_after ts es) ≡ true
unfolding counts_after fold any
ordered-counts_after next [] es o a = o
ordered-counts_after next (t ∷ ts) es o a =
    let f = or-false (unallocated next t) (any (unallocated next) ts) a in
    ordered-counts_after next ts (set_count t.idx.0 t.new_raw es) (ordered-set_count next es o t.idx.0 t.new_raw (leb-false next t.idx.0 f.0)) f.1

-- ---- batch order doesn't matter
module _ {ts us : List CounterTransition} (r : Reordered ts us) where
  pub kept-order : Reordered (kept ts) (kept us)
  unfolding kept
  kept-order = keep-order (λ t. not (eqb t.old_raw t.new_raw)) r

  pub births-order : births ts ≡ births us
  unfolding births
  births-order = count-order (λ t. eqb t.old_raw 0) r

  pub deaths-order : deaths ts ≡ deaths us
  unfolding deaths
  deaths-order = count-order (λ t. eqb t.new_raw 0) r

  pub off_total-order : (live : ℕ) → off_total live ts ≡ off_total live us
  unfolding off_total
  off_total-order live = rw (births-order, deaths-order)

  grown_sets-order : (rs : List ℕ) → grown_sets ts rs ≡ grown_sets us rs
  unfolding grown_sets
  grown_sets-order rs = each_same (λ k. grown (get_or rs k 0) (length (keep (clears k) ts))) (λ k. grown (get_or rs k 0) (length (keep (clears k) us))) 0 8 (λ k a b. ap (grown (get_or rs k 0)) (count-order (clears k) r))

  pub maintained-order : (m : CounterMaintenance) → maintained ts m ≡ maintained us m
  unfolding maintained
  maintained-order m = rw (count-order falls r, grown_sets-order m.small_removed_since_shrink)

  pub named-order : repeated (named ts) ≡ repeated (named us)
  named-order = repeated-order (Permᴰ.map (λ t. t.idx.0) r)

  pub counts_after-order : (es : List Entry) → repeated (named ts) ≡ false → counts_after ts es ≡ counts_after us es
  unfolding counts_after
  counts_after-order es once =
      fold-order (λ t. t.idx.0) (λ t. set_count t.idx.0 t.new_raw)
      (λ t u fs differ. set_count-swap t.idx.0 t.new_raw u.idx.0 u.new_raw fs differ) r once es

  pub state_after-order : (s : State) → repeated (named ts) ≡ false → state_after ts s ≡ state_after us s
  unfolding state_after
  state_after-order s once = rw (births-order, deaths-order, counts_after-order s.counts once, maintained-order s.maintenance)

  -- the outcome of kept transitions in any order: the refusal's number, or the state
  pub apply_kept-order : (room : ℕ) (s : State) → apply_kept room s ts ≡ apply_kept room s us
  unfolding apply_kept
  apply_kept-order room s = go (repeated (named ts)) refl
    where
      go : (b : Bool) → repeated (named ts) ≡ b → apply_kept room s ts ≡ apply_kept room s us
      go true e = rw (any_order (unallocated s.next) r, ← named-order, e)
      go false e =
          rw (
            any_order (unallocated s.next) r,
            named-order,
            any_order (false_old s.counts) r,
            off_total-order s.live,
            counts_after-order s.counts e,
            state_after-order s e,
          )

-- for any reordering of a batch the outcome is the same, number and state
pub batch-order : {ts us : List CounterTransition} → Reordered ts us → (room : ℕ) (s : State) → apply_batch room s ts ≡ apply_batch room s us
unfolding apply_batch
batch-order r room s = ap (λ (o : Outcome State). o >>= bound) (apply_kept-order (kept-order r) room s)

-- ---- how many counts are stored after a batch
-- the old count of a transition that isn't refused is stored exactly where a count is
true-old : (next : ℕ) (es : List Entry) → ordered next es ≡ true → (t : CounterTransition) → false_old es t ≡ false → leb 2 (stored_at t.idx.0 es) ≡ leb 2 t.old_raw
true-old next es o t e = ap (leb 2) ((old-stored next es o t).0 e) ∙ go (leb 2 t.old_raw) refl
  where
    go : (b : Bool) → leb 2 t.old_raw ≡ b → leb 2 (pick b t.old_raw 0) ≡ b
    go true q = q
    go false q = refl

-- a count set at another index makes no old count true or false
false_old-other : (i n : ℕ) (ts : List CounterTransition) (es : List Entry) → elem i (named ts) ≡ false
    → any (false_old (set_count i n es)) ts ≡ any (false_old es) ts
unfolding any false_old
false_old-other i n [] es e = refl
false_old-other i n (t ∷ ts) es e =
    let f = or-false (eqb i t.idx.0) (elem i (named ts)) e in
    rw (stored_other i n es t.idx.0 (λ q. eqb-false i t.idx.0 f.0 (sym q)), false_old-other i n ts es f.1)

-- the rows of the old and of the new count, by whether the transition rises or falls
balance : (old new : ℕ) → pick (leb 2 old) 1 0 + pick (leb old 1 && leb 2 new) 1 0 ≡ pick (leb 2 new) 1 0 + pick (leb 2 old && leb new 1) 1 0
balance old new = rw (small old, small new) (go (leb 2 old) (leb 2 new))
  where
    small : (n : ℕ) → leb n 1 ≡ not (leb 2 n)
    small n =
        elim (dec_le 2 n) [
          | yes g ↦ lt-leb n 1 g ∙ ap not (sym (le-leb 2 n g))
          | no g ↦ le-leb n 1 (omega arith) ∙ ap not (sym (lt-leb 2 n (omega arith)))
        ]

    go : (b c : Bool) → pick b 1 0 + pick (not b && c) 1 0 ≡ pick c 1 0 + pick (b && not c) 1 0
    go true true = refl
    go true false = refl
    go false true = refl
    go false false = refl

-- a row for each count stored where none was, less one for each that falls to one or none
pub length-counts_after : (next : ℕ) (ts : List CounterTransition) (es : List Entry) → ordered next es ≡ true → any (unallocated next) ts ≡ false
    → repeated (named ts) ≡ false → any (false_old es) ts ≡ false
    → length (counts_after ts es) + length (keep falls ts) ≡ length es + length (keep rises ts)
unfolding counts_after fold keep any repeated
length-counts_after next [] es o a b c = refl
length-counts_after next (t ∷ ts) es o a b c =
    let i : ℕ = t.idx.0 in
    let new : ℕ = t.new_raw in
    let fa = or-false (unallocated next t) (any (unallocated next) ts) a in
    let fb = or-false (elem i (named ts)) (repeated (named ts)) b in
    let fc = or-false (false_old es t) (any (false_old es) ts) c in
    let rest = length-counts_after next ts (set_count i new es) (ordered-set_count next es o i new (leb-false next i fa.0)) fa.1 fb.1 (false_old-other i new ts es fb.0 ∙ fc.1) in
    let was = length-row_of i (stored_at i es) ∙ ap (λ (d : Bool). pick {A = ℕ} d 1 0) (true-old next es o t fc.0) in
    omega (arith, rest, length-set_count next es o i new, was, length-row_of i new, length-keep falls t ts, length-keep rises t ts, balance t.old_raw new)
