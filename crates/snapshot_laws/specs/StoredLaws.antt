-- Which indices have a stored count, after counts of at least 2 are set one after the other.
-- Assumes nothing.
use Rattle.std.specs.Prelude.{◌≡◌, ◌↔◌, ◌⊎◌, Bool, ◌||◌, ℕ, suc, ◌+◌, ◌^◌, ◌≤◌, ◌<◌, leb}
use Rattle.std.proofs.Math.Path.{refl}
use Rattle.std.proofs.Common.{sym, ap, ◌∙◌, arith, le-leb, leb-true, eqb-true}
use Rattle.std.proofs.Math.Logic.{inl, inr}
use Rattle.std.proofs.Math.Bool.{true, false}
use Rattle.std.proofs.lemmas.Bool.{false≢true, eqb-false}
use mathlib.Core.List.{List, [], ◌∷◌, map}
use Rattle.std.proofs.Math.Nat.{one-le-pow}
use Rattle.std.proofs.Math.Dec.{eqb}
use Rattle.base.specs.Logic.{pick, all, any, fold, elem, ascending_from}
use Rattle.base.specs.Laws.{and_left, and_right}
use Rattle.base.specs.ListLaws.{eqb-eq, Some, here, there, some-weaker, any_some}
use Rattle.rows.proofs.RowLaws.{all-put}
use Rattle.rows.proofs.KeyLaws.{put_rows}
use Rattle.counters.specs.Counts.{Entry, stored_at, count_at, row_of, set_count}
use Rattle.counters.proofs.CountLaws.{stored_at-set_count}
use Rattle.counters.proofs.ApplyLaws.{set-ascends}
use Rattle.snapshot.specs.Read.{lay_bit}
use Rattle.snapshot_laws.specs.SetLaws.{index, set_row}

-- a count of at least 2
abbrev pub two : Entry → Bool
two e = leb 2 e.count

-- ---- rows with such counts stay so
row-two : (i n : ℕ) → all two (row_of i n) ≡ true
unfolding row_of all
row-two i n = go (leb 2 n) refl
  where
    go : (b : Bool) → leb 2 n ≡ b → all two (pick b (record { idx = i; count = n } ∷ []) []) ≡ true
    go true q = rw q
    go false q = refl

set-two : (i n : ℕ) (es : List Entry) → all two es ≡ true → all two (set_count i n es) ≡ true
unfolding set_count put_rows
set-two i n es a = all-put (λ e. e.idx) i (suc i) (row_of i n) es two a (row-two i n)

-- ---- a row has the index exactly where a count is stored
pub stored_some : (j : ℕ) (es : List Entry) → all two es ≡ true → (0 < stored_at j es) ↔ Some (λ e. j ≡ e.idx) es
unfolding stored_at all
stored_some j [] a = (λ h. absurd (omega arith), λ s. elim s [ ])
stored_some j (e ∷ es) a = go (eqb e.idx j) refl (stored_some j es (and_right (two e) (all two es) a))
  where
    many : 2 ≤ e.count
    many = leb-true 2 e.count (and_left (two e) (all two es) a)

    go : (b : Bool) → eqb e.idx j ≡ b → (0 < stored_at j es) ↔ Some (λ x. j ≡ x.idx) es → (0 < pick b e.count (stored_at j es)) ↔ Some (λ x. j ≡ x.idx) (e ∷ es)
    go true q r = (λ h. here (sym (eqb-true e.idx j q)), λ s. omega (arith, many))
    go false q r = (λ h. there (r.0 h), back)
      where
        back : Some (λ x. j ≡ x.idx) (e ∷ es) → 0 < stored_at j es
        back (here p) = absurd (eqb-false e.idx j q (sym p))
        back (there s) = r.1 s

-- a test of the index passes for a row exactly where it passes for an index with a stored count
found : (p : ℕ → Bool) {es : List Entry} → Some (λ e. p e.idx ≡ true) es → (j : ℕ) × (p j ≡ true) × Some (λ e. j ≡ e.idx) es
found p (here {x = e} q) = (e.idx, q, here refl)
found p (there s) = let r = found p s in (r.0, r.1, there r.2)

pub any-stored : (p : ℕ → Bool) (es : List Entry) → all two es ≡ true → (any (λ e. p e.idx) es ≡ true) ↔ ((j : ℕ) × (0 < stored_at j es) × (p j ≡ true))
any-stored p es a = (to, from)
  where
    passes : (any (λ e. p e.idx) es ≡ true) ↔ Some (λ e. p e.idx ≡ true) es
    passes = any_some (λ e. p e.idx) (λ e. (λ q. q, λ q. q)) es

    to : any (λ e. p e.idx) es ≡ true → (j : ℕ) × (0 < stored_at j es) × (p j ≡ true)
    to h = let r = found p (passes.0 h) in (r.0, (stored_some r.0 es a).1 r.2, r.1)

    from : (j : ℕ) × (0 < stored_at j es) × (p j ≡ true) → any (λ e. p e.idx) es ≡ true
    from w = passes.1 (some-weaker (λ e q. ap p (sym q) ∙ w.2) ((stored_some w.0 es a).0 w.1))

-- ---- counts set one after the other
laid-two : (k m : ℕ) (rows : List Entry) → 2 ≤ count_at m rows + 2 ^ k
unfolding count_at
laid-two k m rows = omega (arith, one-le-pow k 2 (omega arith))

all_true : {A : Type 0} (xs : List A) → all (λ x. true) xs ≡ true
unfolding all
all_true [] = refl
all_true (x ∷ xs) = all_true xs

module _ {A : Type 0} (key : A → ℕ) (value : A → List Entry → ℕ) where
  abbrev set_all : List A → List Entry → List Entry
  set_all xs es = fold (λ x rows. set_count (key x) (value x rows) rows) xs es

  set_all-two : (xs : List A) (es : List Entry) → all two es ≡ true → all two (set_all xs es) ≡ true
  unfolding fold
  set_all-two [] es a = a
  set_all-two (x ∷ xs) es a = set_all-two xs (set_count (key x) (value x es) es) (set-two (key x) (value x es) es a)

  set_all-ascends : (xs : List A) (es : List Entry) → ascending_from 0 (map index es) ≡ true → ascending_from 0 (map index (set_all xs es)) ≡ true
  unfolding fold
  set_all-ascends [] es a = a
  set_all-ascends (x ∷ xs) es a = set_all-ascends xs (set_count (key x) (value x es) es) (set-ascends (key x) (value x es) es a)

  module _ (ok : A → Bool) (many : (x : A) → ok x ≡ true → (es : List Entry) → 2 ≤ value x es) (j : ℕ) where
    -- one more: of its own index the count, elsewhere what was there
    step : (b : Bool) (x : A) (es : List Entry) → 2 ≤ value x es → eqb j (key x) ≡ b → (0 < stored_at j (set_count (key x) (value x es) es)) ↔ ((b ≡ true) ⊎ (0 < stored_at j es))
    step true x es v q = (λ h. inl refl, λ s. rw (stored_at-set_count (key x) (value x es) es j, q, le-leb 2 (value x es) v) (omega arith))
    step false x es v q =
        let e : stored_at j (set_count (key x) (value x es) es) ≡ stored_at j es = rw (stored_at-set_count (key x) (value x es) es j, q) in
        (λ h. inr (rw e at h), λ s. elim s [ inl f ↦ absurd (false≢true f) | inr h ↦ rw e h ])

    set_all-stored : (xs : List A) (es : List Entry) → all ok xs ≡ true
        → (0 < stored_at j (set_all xs es)) ↔ ((any (λ x. eqb j (key x)) xs ≡ true) ⊎ (0 < stored_at j es))
    unfolding fold all any
    set_all-stored [] es a = (λ h. inr h, λ s. elim s [ inl e ↦ absurd (false≢true e) | inr h ↦ h ])
    set_all-stored (x ∷ xs) es a =
        let v = many x (and_left (ok x) (all ok xs) a) es in
        go (eqb j (key x)) (any (λ y. eqb j (key y)) xs) (step (eqb j (key x)) x es v refl) (set_all-stored xs (set_count (key x) (value x es) es) (and_right (ok x) (all ok xs) a))
      where
        go : {P Q R : Type 0} (b c : Bool) → Q ↔ ((b ≡ true) ⊎ R) → P ↔ ((c ≡ true) ⊎ Q) → P ↔ (((b || c) ≡ true) ⊎ R)
        go true c f g = (λ p. inl refl, λ s. g.1 (inr (f.1 (inl refl))))
        go false c f g = (
          λ p. elim (g.0 p) [ inl e ↦ inl e | inr q ↦ elim (f.0 q) [ inl e ↦ absurd (false≢true e) | inr r ↦ inr r ] ],
          λ s. elim s [ inl e ↦ g.1 (inl e) | inr r ↦ g.1 (inr (f.1 (inr r))) ],
        )

-- ---- rows, and a set's members laid on
module _ (j : ℕ) where
  pub rows-stored : (xs es : List Entry) → all two xs ≡ true → (0 < stored_at j (fold set_row xs es)) ↔ (Some (λ e. j ≡ e.idx) xs ⊎ (0 < stored_at j es))
  rows-stored xs es a =
      let r = set_all-stored (λ (e : Entry). e.idx) (λ e rows. e.count) two (λ e t rows. leb-true 2 e.count t) j xs es a in
      let some = any_some (λ (e : Entry). eqb j e.idx) (λ e. eqb-eq j e.idx) xs in
      (λ h. elim (r.0 h) [ inl e ↦ inl (some.0 e) | inr g ↦ inr g ], λ s. elim s [ inl e ↦ r.1 (inl (some.1 e)) | inr g ↦ r.1 (inr g) ])

  pub lay_bit-stored : (k : ℕ) (ms : List ℕ) (es : List Entry) → (0 < stored_at j (lay_bit k ms es)) ↔ ((elem j ms ≡ true) ⊎ (0 < stored_at j es))
  unfolding lay_bit
  lay_bit-stored k ms es = set_all-stored (λ m. m) (λ m rows. count_at m rows + 2 ^ k) (λ m. true) (λ m t rows. laid-two k m rows) j ms es (all_true ms)

pub rows-two : (xs es : List Entry) → all two es ≡ true → all two (fold set_row xs es) ≡ true
rows-two xs es a = set_all-two (λ (e : Entry). e.idx) (λ e rows. e.count) xs es a

pub lay_bit-two : (k : ℕ) (ms : List ℕ) (es : List Entry) → all two es ≡ true → all two (lay_bit k ms es) ≡ true
unfolding lay_bit
lay_bit-two k ms es a = set_all-two (λ m. m) (λ m rows. count_at m rows + 2 ^ k) ms es a

pub rows-ascend : (xs es : List Entry) → ascending_from 0 (map index es) ≡ true → ascending_from 0 (map index (fold set_row xs es)) ≡ true
rows-ascend xs es a = set_all-ascends (λ (e : Entry). e.idx) (λ e rows. e.count) xs es a

pub lay_bit-ascends : (k : ℕ) (ms : List ℕ) (es : List Entry) → ascending_from 0 (map index es) ≡ true → ascending_from 0 (map index (lay_bit k ms es)) ≡ true
unfolding lay_bit
lay_bit-ascends k ms es a = set_all-ascends (λ m. m) (λ m rows. count_at m rows + 2 ^ k) ms es a
