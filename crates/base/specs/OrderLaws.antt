-- Lists in parts and in another order: what two tests keep, what passes for each item, and numbers that stand once.
-- Assumes nothing.
use Rattle.std.specs.Prelude.{◌≡◌, Bool, not, ◌&&◌, ◌||◌, ℕ, suc, ◌<◌, eqb}
use Rattle.std.proofs.Math.Path.{refl, ap}
use Rattle.std.proofs.Math.Bool.{true, false}
use Rattle.std.proofs.Common.{true≢false, arith, ne_eqb}
use mathlib.Core.List.{List, [], ◌∷◌, ◌++◌}
use mathlib.Core.List.Permᴰ
use mathlib.Core.List.Permᴰ.{cons as order-cons}
use mathlib.Core.List.Permᴰ.{nil as order-nil}
use mathlib.Core.List.Permᴰ.{trans as order_trans}
use mathlib.Core.List.{Permᴰ as Reordered}
use Rattle.base.specs.Logic.{pick, all, any, elem, keep, repeated, ascending_from}
use Rattle.base.specs.Laws.{and_left, and_right, ascending-head, ascending-tail}
use Rattle.base.specs.ListLaws.{or-false, Among, here, there, value-order, all_cons}

-- ---- a list in two parts
module _ {A : Type 0} where
  -- what one test keeps and what the other keeps, where exactly one of them passes
  pub two-parts : (p q ok : A → Bool) → ((x : A) → ok x ≡ true → q x ≡ not (p x)) → (xs : List A) → all ok xs ≡ true → Reordered (keep p xs ++ keep q xs) xs
  unfolding keep all
  two-parts p q ok h [] a = order-nil
  two-parts p q ok h (x ∷ xs) a = rw (h x (and_left (ok x) (all ok xs) a)) (go (p x) (two-parts p q ok h xs (and_right (ok x) (all ok xs) a)))
    where
      go : (b : Bool) → Reordered (keep p xs ++ keep q xs) xs → Reordered (pick b (x ∷ keep p xs) (keep p xs) ++ pick (not b) (x ∷ keep q xs) (keep q xs)) (x ∷ xs)
      go true r = order-cons refl r
      go false r = order_trans (Permᴰ.middle x (keep p xs) (keep q xs)) (order-cons refl r)

  pub every : (xs : List A) → all (λ x. true) xs ≡ true
  unfolding all
  every [] = refl
  every (x ∷ xs) = every xs

  -- what passes one of two tests that never pass together
  pub keep-either : (p q : A → Bool) → ((x : A) → p x ≡ true → q x ≡ false) → (xs : List A) → Reordered (keep p xs ++ keep q xs) (keep (λ x. p x || q x) xs)
  unfolding keep
  keep-either p q h [] = order-nil
  keep-either p q h (x ∷ xs) = go (p x) (q x) (h x) (keep-either p q h xs)
    where
      go : (b c : Bool) → (b ≡ true → c ≡ false) → Reordered (keep p xs ++ keep q xs) (keep (λ y. p y || q y) xs)
          → Reordered (pick b (x ∷ keep p xs) (keep p xs) ++ pick c (x ∷ keep q xs) (keep q xs)) (pick (b || c) (x ∷ keep (λ y. p y || q y) xs) (keep (λ y. p y || q y) xs))
      go true true k r = absurd (true≢false (k refl))
      go true false k r = order-cons refl r
      go false true k r = order_trans (Permᴰ.middle x (keep p xs) (keep q xs)) (order-cons refl r)
      go false false k r = r

  pub all-order : {xs ys : List A} (p : A → Bool) → Reordered xs ys → all p xs ≡ all p ys
  unfolding all
  all-order p r = value-order (all p) (λ x b. p x && b) (λ x xs. refl) (λ x y b. and-swap (p x) (p y) b) r
    where
      and-swap : (a b c : Bool) → (a && (b && c)) ≡ (b && (a && c))
      and-swap true true c = refl
      and-swap true false c = refl
      and-swap false true c = refl
      and-swap false false c = refl

-- what two tests keep, one after the other
module _ {A : Type 0} where
  pub keep-both : (p q : A → Bool) (xs : List A) → keep p (keep q xs) ≡ keep (λ x. q x && p x) xs
  unfolding keep
  keep-both p q [] = refl
  keep-both p q (x ∷ xs) = go (q x) (keep-both p q xs)
    where
      go : (b : Bool) → keep p (keep q xs) ≡ keep (λ y. q y && p y) xs
          → keep p (pick b (x ∷ keep q xs) (keep q xs)) ≡ pick (b && p x) (x ∷ keep (λ y. q y && p y) xs) (keep (λ y. q y && p y) xs)
      go true r = ap (λ (l : List A). pick (p x) (x ∷ l) l) r
      go false r = r

-- ---- tests
-- a test that passes for each item passes for all
pub all-each : {A : Type 0} (p : A → Bool) (xs : List A) → ((x : A) → Among x xs → p x ≡ true) → all p xs ≡ true
unfolding all
all-each p [] h = refl
all-each p (x ∷ xs) h = all_cons p x xs (h x (here refl)) (all-each p xs (λ y m. h y (there m)))

pub any-or : {A : Type 0} (p q : A → Bool) (xs : List A) → any (λ x. p x || q x) xs ≡ (any p xs || any q xs)
unfolding any
any-or p q [] = refl
any-or p q (x ∷ xs) = rw (any-or p q xs) (go (p x) (q x) (any p xs) (any q xs))
  where
    go : (a b c d : Bool) → ((a || b) || (c || d)) ≡ ((a || c) || (b || d))
    go true b c d = refl
    go false true true d = refl
    go false true false d = refl
    go false false c d = refl

pub any_none : {A : Type 0} (xs : List A) → any (λ x. false) xs ≡ false
unfolding any
any_none [] = refl
any_none (x ∷ xs) = any_none xs

-- ---- numbers that stand once
-- a number that is absent from a list is absent from its first part, and from ascending numbers above it
pub absent-left : (x : ℕ) (xs ys : List ℕ) → elem x (xs ++ ys) ≡ false → elem x xs ≡ false
unfolding any
absent-left x [] ys e = refl
absent-left x (y ∷ xs) ys e = let f = or-false (eqb x y) (elem x (xs ++ ys)) e in rw f.0 (absent-left x xs ys f.1)

pub absent-above : (x lo : ℕ) (xs : List ℕ) → x < lo → ascending_from lo xs ≡ true → elem x xs ≡ false
unfolding any
absent-above x lo [] l o = refl
absent-above x lo (y ∷ xs) l o =
    let m = ascending-head lo y xs o in
    rw (ne_eqb x y (omega arith)) (absent-above x (suc y) xs (omega arith) (ascending-tail lo y xs o))

pub ascending-once : (lo : ℕ) (xs : List ℕ) → ascending_from lo xs ≡ true → repeated xs ≡ false
unfolding repeated
ascending-once lo [] o = refl
ascending-once lo (x ∷ xs) o = let t = ascending-tail lo x xs o in rw (absent-above x (suc x) xs (omega arith) t) (ascending-once (suc x) xs t)

-- no number twice in the first part of a list that has none twice
pub once-left : (xs ys : List ℕ) → repeated (xs ++ ys) ≡ false → repeated xs ≡ false
unfolding repeated
once-left [] ys e = refl
once-left (x ∷ xs) ys e =
    let f = or-false (elem x (xs ++ ys)) (repeated (xs ++ ys)) e in
    rw (absent-left x xs ys f.0) (once-left xs ys f.1)
