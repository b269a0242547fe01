-- The rows of a window pass one after the other exactly where each is right and no two have one place; and all rows are so where those of every
-- window are.
-- Assumes nothing.
use Rattle.std.specs.Prelude.{◌≡◌, Bool, ◌&&◌, ◌||◌, ℕ, ◌+◌, ◌-◌, ◌/◌, ◌≤◌, ◌<◌, length, eqb}
use Rattle.std.proofs.Math.Path.{refl, sym, ap, fun_ext}
use Rattle.std.proofs.Common.{◌∙◌, true≢false, arith, length-set, le-leb, leb-true, leb-false, eq-eqb, ne_eqb}
use Rattle.std.proofs.Math.Bool.{true, false, not, and-false, and-true, and_comm}
use mathlib.Core.List.{List, [], ◌∷◌, map}
use Rattle.std.proofs.Math.Decide.{dec_le, ℕ_discrete}
use Rattle.std.proofs.lemmas.List.{length-replicate}
use Rattle.std.proofs.Math.Dec.{leb}
use Rattle.std.proofs.lemmas.Bool.{lt-leb, not-true}
use Rattle.base.specs.Logic.{pick, all, any, keep, elem, repeated, zeros}
use Rattle.base.specs.Laws.{and_left, and_right}
use Rattle.base.specs.ListLaws.{eqb-sym}
use Rattle.base.specs.OrderLaws.{any-or, any_none, keep-both}
use Rattle.waiting_checks.specs.Marks.{is_marked, with_mark, within, passes, marks_with, clean, clean_within}
use Rattle.waiting_checks.specs.MarkLaws.{none-marked, mark-here, mark-other}

-- the rows pass, one after the other
unfoldable pub all_pass : {A : Type 0} → (A → ℕ) → (A → Bool) → ℕ → List ℕ → List A → Bool
all_pass key ok lo m [] = true
all_pass key ok lo m (x ∷ xs) = passes key ok lo m x && all_pass key ok lo (marks_with key ok lo m x) xs

-- ---- marks that say which places were seen

pub record Seen (lo : ℕ) (m seen : List ℕ) : Type 0 where
  pub long : length m ≡ 1024
  pub marks : (i : ℕ) → i < 65536 → is_marked m i ≡ elem (lo + i) seen

pub none_seen : (lo : ℕ) → Seen lo (zeros 1024) []
unfolding any
none_seen lo = record { long = length-replicate {A = ℕ} 1024 0; marks = λ i h. none-marked 1024 i }

seen_more : (lo : ℕ) (m seen : List ℕ) (k : ℕ) → Seen lo m seen → lo ≤ k → k < lo + 65536 → is_marked m (k - lo) ≡ false → Seen lo (with_mark m (k - lo)) (k ∷ seen)
unfolding with_mark any
seen_more lo m seen k s h l free =
    let w : (k - lo) / 64 < length m = omega (arith, s.long) in
    record {
      long = length-set m ((k - lo) / 64) _ ∙ s.long;
      marks = λ i g.
          elim (ℕ_discrete i (k - lo)) [
            | yes e ↦ rw (e, eq-eqb (lo + (k - lo)) k (omega arith)) (mark-here m (k - lo) free w)
            | no e ↦ rw (ne_eqb (lo + i) k (omega arith)) (mark-other m (k - lo) free w i e ∙ s.marks i g)
          ];
    }

-- ---- tests
pub within-bounds : (lo k : ℕ) → within lo k ≡ true → (lo ≤ k) × (k < lo + 65536)
unfolding within
within-bounds lo k e = (leb-true lo k (and_left _ _ e), leb-false (lo + 65536) k (not-true _ (and_right (leb lo k) _ e)))

-- some of the places are among those seen
abbrev again : List ℕ → List ℕ → Bool
again seen ks = any (λ k. elem k seen) ks

again-more : (k : ℕ) (seen ks : List ℕ) → again (k ∷ seen) ks ≡ (elem k ks || again seen ks)
unfolding any
again-more k seen ks = any-or (λ x. eqb x k) (λ x. elem x seen) ks ∙ ap (λ (b : Bool). b || again seen ks) (ap (λ (p : ℕ → Bool). any p ks) (fun_ext (λ x. eqb-sym x k)))

none-again : (ks : List ℕ) → again [] ks ≡ false
unfolding any
none-again ks = any_none ks

-- ---- a pass over the rows of a window
module _ {A : Type 0} (key : A → ℕ) (ok : A → Bool) (lo : ℕ) where
  -- the tests in another order: o the row is right, e its place was seen, a the others are right, r two of them have one place, k one has this one's, s one's was seen
  turned : (o e a r k s : Bool) → ((o && not e) && ((a && not r) && not (k || s))) ≡ (((o && a) && not (k || r)) && not (e || s))
  turned false e a r k s = refl
  turned true true a r k s = sym (and-false (a && not (k || r)))
  turned true false false r k s = refl
  turned true false true true true s = refl
  turned true false true true false s = refl
  turned true false true false true s = refl
  turned true false true false false s = refl

  -- a row of the window, before others
  module _ (m seen : List ℕ) (s : Seen lo m seen) (x : A) (xs ys : List A)
      (rest : (m' seen' : List ℕ) → Seen lo m' seen' → all_pass key ok lo m' xs ≡ (clean key ok ys && not (again seen' (map key ys))))
      (here : within lo (key x) ≡ true) where
    row_seen : is_marked m (key x - lo) ≡ elem (key x) seen
    row_seen = let b = within-bounds lo (key x) here in s.marks (key x - lo) (omega arith) ∙ ap (λ (k : ℕ). elem k seen) (omega arith)

    row-passes : (o c : Bool) → ok x ≡ o → is_marked m (key x - lo) ≡ c
        → ((o && not c) && all_pass key ok lo (pick (o && not c) (with_mark m (key x - lo)) m) xs)
        ≡ (clean key ok (x ∷ ys) && not (again seen (map key (x ∷ ys))))
    unfolding clean all repeated any
    row-passes false c e f = rw e
    row-passes true true e f =
        let g : elem (key x) seen ≡ true = sym row_seen ∙ f in
        rw (e, g) (sym (and-false (all ok ys && not (elem (key x) (map key ys) || repeated (map key ys)))))
    row-passes true false e f =
        let g : elem (key x) seen ≡ false = sym row_seen ∙ f in
        let b = within-bounds lo (key x) here in
        rw (e, g, rest (with_mark m (key x - lo)) (key x ∷ seen) (seen_more lo m seen (key x) s b.0 b.1 f), again-more (key x) seen (map key ys))
        (turned true false (all ok ys) (repeated (map key ys)) (elem (key x) (map key ys)) (again seen (map key ys)))

  window-passes : (m seen : List ℕ) (xs : List A) → Seen lo m seen
      → all_pass key ok lo m xs ≡ (clean key ok (keep (λ x. within lo (key x)) xs) && not (again seen (map key (keep (λ x. within lo (key x)) xs))))
  unfolding all_pass passes marks_with keep clean all repeated any
  window-passes m seen [] s = refl
  window-passes m seen (x ∷ xs) s = go (λ m' seen' t. window-passes m' seen' xs t) (within lo (key x)) refl
    where
      ys : List A
      ys = keep (λ y. within lo (key y)) xs

      go : ((m' seen' : List ℕ) → Seen lo m' seen' → all_pass key ok lo m' xs ≡ (clean key ok ys && not (again seen' (map key ys))))
          → (b : Bool) → within lo (key x) ≡ b
          → (pick b (ok x && not (is_marked m (key x - lo))) true && all_pass key ok lo (pick (b && pick b (ok x && not (is_marked m (key x - lo))) true) (with_mark m (key x - lo)) m) xs)
          ≡ (clean key ok (pick b (x ∷ ys) ys) && not (again seen (map key (pick b (x ∷ ys) ys))))
      go rest true e = row-passes m seen s x xs ys rest e (ok x) (is_marked m (key x - lo)) refl refl
      go rest false e = rest m seen s

  pub window-clean : (xs : List A) → all_pass key ok lo (zeros 1024) xs ≡ clean_within key ok lo xs
  unfolding clean_within
  window-clean xs =
      let ks = map key (keep (λ x. within lo (key x)) xs) in
      window-passes (zeros 1024) [] xs (none_seen lo) ∙ rw (none-again ks) (and-true _)

-- ---- all windows
module _ {A : Type 0} (key : A → ℕ) (ok : A → Bool) where
  -- a place is among those that a test of places keeps, where the test keeps it
  elem-kept : (p : ℕ → Bool) (k : ℕ) (xs : List A) → p k ≡ true → elem k (map key (keep (λ x. p (key x)) xs)) ≡ elem k (map key xs)
  unfolding keep any
  elem-kept p k [] h = refl
  elem-kept p k (x ∷ xs) h = go (p (key x)) refl (elem-kept p k xs h)
    where
      ys : List A
      ys = keep (λ y. p (key y)) xs

      go : (b : Bool) → p (key x) ≡ b → elem k (map key ys) ≡ elem k (map key xs) → elem k (map key (pick b (x ∷ ys) ys)) ≡ elem k (map key (x ∷ xs))
      go true e r = rw r
      go false e r = rw (ne_eqb k (key x) (λ q. true≢false (sym h ∙ ap p q ∙ e))) r

  -- the tests in another order: the row is among the first, or among the others
  among_first : (o e a r b s c t : Bool) → (a && not r) ≡ ((b && not s) && (c && not t)) → ((o && a) && not (e || r)) ≡ (((o && b) && not (e || s)) && (c && not t))
  among_first false e a r b s c t h = refl
  among_first true true a r b s c t h = rw (and-false a, and-false b)
  among_first true false a r b s c t h = h

  among_second : (o e a r b s c t : Bool) → (a && not r) ≡ ((b && not s) && (c && not t)) → ((o && a) && not (e || r)) ≡ ((b && not s) && ((o && c) && not (e || t)))
  among_second false e a r b s c t h = sym (and-false (b && not s))
  among_second true true a r b s c t h = rw (and-false a, and-false c) (sym (and-false (b && not s)))
  among_second true false a r b s c t h = h

  -- rows in two parts by their places
  clean-parts : (p : ℕ → Bool) (xs : List A) → clean key ok xs ≡ (clean key ok (keep (λ x. p (key x)) xs) && clean key ok (keep (λ x. not (p (key x))) xs))
  unfolding keep clean all repeated
  clean-parts p [] = refl
  clean-parts p (x ∷ xs) = go (p (key x)) refl (clean-parts p xs)
    where
      ys : List A
      ys = keep (λ y. p (key y)) xs

      zs : List A
      zs = keep (λ y. not (p (key y))) xs

      go : (b : Bool) → p (key x) ≡ b → clean key ok xs ≡ (clean key ok ys && clean key ok zs)
          → clean key ok (x ∷ xs) ≡ (clean key ok (pick b (x ∷ ys) ys) && clean key ok (pick (not b) (x ∷ zs) zs))
      go true e r =
          rw (elem-kept p (key x) xs e)
          (among_first (ok x) (elem (key x) (map key xs)) (all ok xs) (repeated (map key xs)) (all ok ys) (repeated (map key ys)) (all ok zs) (repeated (map key zs)) r)
      go false e r =
          rw (elem-kept (λ k. not (p k)) (key x) xs (ap not e))
          (among_second (ok x) (elem (key x) (map key xs)) (all ok xs) (repeated (map key xs)) (all ok ys) (repeated (map key ys)) (all ok zs) (repeated (map key zs)) r)

  -- the rows from a place on
  abbrev pub rows_from : ℕ → List A → List A
  rows_from lo xs = keep (λ x. leb lo (key x)) xs

  past : (lo k : ℕ) → (leb lo k && leb (lo + 65536) k) ≡ leb (lo + 65536) k
  past lo k =
      elim (dec_le (lo + 65536) k) [
        | yes h ↦ rw (le-leb lo k (omega arith))
        | no h ↦ rw (lt-leb (lo + 65536) k (omega arith)) (and-false (leb lo k))
      ]

  pub next-window : (lo : ℕ) (xs : List A) → clean key ok (rows_from lo xs) ≡ (clean_within key ok lo xs && clean key ok (rows_from (lo + 65536) xs))
  unfolding clean_within within
  next-window lo xs =
      clean-parts (λ k. leb (lo + 65536) k) (rows_from lo xs)
      ∙ rw (keep-both (λ x. not (leb (lo + 65536) (key x))) (λ x. leb lo (key x)) xs, keep-both (λ x. leb (lo + 65536) (key x)) (λ x. leb lo (key x)) xs, ap (λ (p : A → Bool). keep p xs) (fun_ext (λ x. past lo (key x))))
      (and_comm (clean key ok (rows_from (lo + 65536) xs)) (clean_within key ok lo xs))

  pub first-window : (xs : List A) → rows_from 0 xs ≡ xs
  unfolding keep
  first-window [] = refl
  first-window (x ∷ xs) = rw (le-leb 0 (key x) (omega arith), first-window xs)

  pub last-window : (lo : ℕ) (xs : List A) → ((x : A) → key x < lo) → clean key ok (rows_from lo xs) ≡ true
  unfolding keep clean all repeated
  last-window lo [] h = refl
  last-window lo (x ∷ xs) h = rw (lt-leb lo (key x) (h x)) (last-window lo xs h)
