-- Rows that go: a row's count replaced, and the rows that stand then, are the counts after the transitions that leave no row.
-- Assumes nothing.
use Rattle.std.specs.Prelude.{◌≡◌, Bool, ◌&&◌, ℕ, suc, ◌≤◌, ◌<◌, ltb}
use Rattle.std.proofs.Math.Path.{refl, ap}
use Rattle.std.proofs.Common.{sym, ◌∙◌}
use Rattle.std.proofs.Math.Bool.{true, false, not}
use Rattle.std.proofs.lemmas.Bool.{false≢true}
use mathlib.Core.List.{List, [], ◌∷◌, map}
use native.Mathlib.Omega.{arith}
use Rattle.std.proofs.Math.Decide.{dec_le}
use Rattle.std.proofs.Math.Dec.{leb, eqb}
use borrow.Author.Tests.{le-leb, lt-leb, le-ltb, lt-ltb, eq-eqb, ne_eqb, eqb-false, leb-false}
use Rattle.base.specs.Logic.{pick, all, any, elem, keep, fold, ascending_from}
use Rattle.base.specs.Laws.{ascending-head, ascending-tail, ascending-sorted}
use Rattle.base.specs.ListLaws.{or-false, ascending-keep, keep-whole}
use Rattle.rows.proofs.RowLaws.{keep-others}
use Rattle.rows.proofs.KeyLaws.{put_rows}
use Rattle.counters.specs.declared.CounterTransition.{CounterTransition}
use Rattle.counters.specs.Counts.{Entry, row_of, set_count}
use Rattle.counters.specs.Batch.{changes, counts_after}
use Rattle.counter_steps.specs.Steps.{leaves_row, pass_of, apply_one}
use Rattle.counter_steps.specs.PassLaws.{turn, pass-none}
use Rattle.counter_merge.specs.Passes.{stands, standing, recount, replaced, drops, mark_one, marked, hits, any_hit}

abbrev index : Entry → ℕ
index e = e.idx

abbrev Ascends : List Entry → Type 0
Ascends es = ascending_from 0 (map index es) ≡ true

-- ---- one count replaced
module _ (i m : ℕ) where
  -- the indices stay
  pub replaced-indices : (es : List Entry) → map index (replaced i m es) ≡ map index es
  unfolding replaced
  replaced-indices [] = refl
  replaced-indices (e ∷ es) = go (eqb e.idx i) (replaced-indices es)
    where
      go : (b : Bool) → map index (replaced i m es) ≡ map index es
          → index (pick b (record { idx = e.idx; count = m }) e) ∷ map index (replaced i m es) ≡ e.idx ∷ map index es
      go true r = ap (λ (l : List ℕ). e.idx ∷ l) r
      go false r = ap (λ (l : List ℕ). e.idx ∷ l) r

  -- no row has the index
  pub replaced-none : (es : List Entry) → elem i (map index es) ≡ false → replaced i m es ≡ es
  unfolding replaced any
  replaced-none [] h = refl
  replaced-none (e ∷ es) h =
      let f = or-false (eqb i e.idx) (elem i (map index es)) h in
      let ne = eqb-false i e.idx f.0 in
      rw (ne_eqb e.idx i (omega (arith, ne))) (ap (λ (l : List Entry). e ∷ l) (replaced-none es f.1))

  -- rows above the index
  over : (lo : ℕ) (es : List Entry) → ascending_from lo (map index es) ≡ true → i < lo
      → (elem i (map index es) ≡ false) × (keep (λ e. ltb e.idx i) es ≡ []) × (keep (λ e. leb (suc i) e.idx) es ≡ es)
  unfolding any keep
  over lo [] a h = (refl, refl, refl)
  over lo (e ∷ es) a h =
      let l = ascending-head lo e.idx (map index es) a in
      let r = over (suc e.idx) es (ascending-tail lo e.idx (map index es) a) (omega arith) in
      rw (ne_eqb i e.idx (omega arith), le-ltb e.idx i (omega arith), le-leb (suc i) e.idx (omega arith)) (r.0, r.1, ap (λ (l : List Entry). e ∷ l) r.2)

  -- a row has it
  pub replaced-put : (lo : ℕ) (es : List Entry) → ascending_from lo (map index es) ≡ true → elem i (map index es) ≡ true
      → replaced i m es ≡ put_rows index i (suc i) (record { idx = i; count = m } ∷ []) es
  unfolding replaced any put_rows keep
  replaced-put lo [] a h = absurd (false≢true h)
  replaced-put lo (e ∷ es) a h =
      let tail = ascending-tail lo e.idx (map index es) a in
      elim (dec_le i e.idx) [
        | yes g ↦ elim (dec_le e.idx i) [
          | yes k ↦
              let q : e.idx ≡ i = omega arith in
              let r = over (suc e.idx) es tail (omega arith) in
              rw (eq-eqb e.idx i q, le-ltb e.idx i g, lt-leb (suc i) e.idx (omega arith), r.1, r.2, q)
              (ap (λ (l : List Entry). record { idx = i; count = m } ∷ l) (replaced-none es r.0))
          | no k ↦ absurd (false≢true (sym (over (suc e.idx) es tail (omega arith)).0 ∙ (rw (ne_eqb i e.idx (omega arith)) at h)))
        ]
        | no g ↦
            rw (ne_eqb e.idx i (omega arith), lt-ltb e.idx i (omega arith), lt-leb (suc i) e.idx (omega arith))
            (ap (λ (l : List Entry). e ∷ l) (replaced-put (suc e.idx) es tail (rw (ne_eqb i e.idx (omega arith)) at h)))
      ]

  -- a count below 2 takes the row away
  standing-replaced : m < 2 → (es : List Entry) → standing (replaced i m es) ≡ keep (λ e. not (eqb e.idx i)) (standing es)
  unfolding standing replaced keep
  standing-replaced h [] = refl
  standing-replaced h (e ∷ es) = go (eqb e.idx i) (leb 2 e.count) refl refl (standing-replaced h es)
    where
      go : (b d : Bool) → eqb e.idx i ≡ b → leb 2 e.count ≡ d → keep stands (map (recount i m) es) ≡ keep (λ x. not (eqb x.idx i)) (keep stands es)
          → pick (stands (pick b (record { idx = e.idx; count = m }) e)) (pick b (record { idx = e.idx; count = m }) e ∷ keep stands (map (recount i m) es)) (keep stands (map (recount i m) es))
          ≡ keep (λ x. not (eqb x.idx i)) (pick d (e ∷ keep stands es) (keep stands es))
      go true true q p r = rw (lt-leb 2 m h, q) r
      go true false q p r = rw (lt-leb 2 m h) r
      go false true q p r = rw (p, q) (ap (λ (l : List Entry). e ∷ l) r)
      go false false q p r = rw p r

  pub standing-set : m < 2 → (es : List Entry) → Ascends es → standing (replaced i m es) ≡ set_count i m (standing es)
  unfolding set_count row_of standing put_rows
  standing-set h es a =
      standing-replaced h es
      ∙ rw (lt-leb 2 m h)
      (keep-others index i 0 (keep stands es) (ascending-sorted 0 (map index (keep stands es)) (ascending-keep index stands 0 es a)))

  pub set-replaced-rows : 2 ≤ m → (es : List Entry) → Ascends es → elem i (map index es) ≡ true → replaced i m es ≡ set_count i m es
  unfolding set_count row_of put_rows
  set-replaced-rows h es a e = replaced-put 0 es a e ∙ rw (le-leb 2 m h)

-- ---- one transition, and all of them
pub mark-indices : (x : CounterTransition) (es : List Entry) → map index (mark_one x es) ≡ map index es
unfolding mark_one
mark-indices x es = go (drops x)
  where
    go : (b : Bool) → map index (pick b (replaced x.idx.0 x.new_raw es) es) ≡ map index es
    go true = replaced-indices x.idx.0 x.new_raw es
    go false = refl

pub marked-indices : (xs : List CounterTransition) (es : List Entry) → map index (marked xs es) ≡ map index es
unfolding marked fold
marked-indices [] es = refl
marked-indices (x ∷ xs) es = marked-indices xs (mark_one x es) ∙ mark-indices x es

few : (n : ℕ) → not (leb 2 n) ≡ true → n < 2
few n h = go (leb 2 n) refl h
  where
    go : (b : Bool) → leb 2 n ≡ b → not b ≡ true → n < 2
    go true e h = absurd (false≢true h)
    go false e h = leb-false 2 n e

standing-one : (x : CounterTransition) (es : List Entry) → Ascends es → standing (mark_one x es) ≡ apply_one false x (standing es)
unfolding mark_one apply_one
standing-one x es a = go (changes x) (leaves_row false x) refl
  where
    go : (b d : Bool) → leaves_row false x ≡ d
        → standing (pick (b && d) (replaced x.idx.0 x.new_raw es) es) ≡ pick (b && d) (set_count x.idx.0 x.new_raw (standing es)) (standing es)
    go true true e = standing-set x.idx.0 x.new_raw (few x.new_raw e) es a
    go true false e = refl
    go false d e = refl

standing-ascends : (es : List Entry) → Ascends es → Ascends (standing es)
unfolding standing
standing-ascends es a = ascending-keep index stands 0 es a

pub standing-marked : (xs : List CounterTransition) (es : List Entry) → Ascends es → standing (marked xs es) ≡ counts_after (pass_of false xs) (standing es)
unfolding marked fold
standing-marked [] es a = sym (pass-none false (standing es))
standing-marked (x ∷ xs) es a =
    standing-marked xs (mark_one x es) (ap (ascending_from 0) (mark-indices x es) ∙ a)
    ∙ ap (counts_after (pass_of false xs)) (standing-one x es a)
    ∙ sym (turn false x xs (standing es) (standing-ascends es a))

-- ---- where no transition names a row, nothing is marked
pub mark-none : (x : CounterTransition) (es : List Entry) → hits (map index es) x ≡ false → mark_one x es ≡ es
unfolding mark_one
mark-none x es h = go (drops x) h
  where
    go : (b : Bool) → (b && elem x.idx.0 (map index es)) ≡ false → pick b (replaced x.idx.0 x.new_raw es) es ≡ es
    go true e = replaced-none x.idx.0 x.new_raw es e
    go false e = refl

pub marked-none : (xs : List CounterTransition) (es : List Entry) → any_hit (map index es) xs ≡ false → marked xs es ≡ es
unfolding marked fold any_hit any
marked-none [] es h = refl
marked-none (x ∷ xs) es h =
    let f = or-false (hits (map index es) x) (any (hits (map index es)) xs) h in
    ap (fold mark_one xs) (mark-none x es f.0) ∙ marked-none xs es f.1

pub standing-all : (es : List Entry) → all stands es ≡ true → standing es ≡ es
unfolding standing
standing-all es h = keep-whole stands stands (λ e p. p) es h
