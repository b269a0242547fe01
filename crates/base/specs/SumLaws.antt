-- Sums over lists, lists in order put together, and what is kept of a list and what is not.
-- Assumes nothing.
use Rattle.std.specs.Prelude.{◌≡◌, Bool, ◌||◌, length, leb, ltb}
use Rattle.std.proofs.Math.Path.{refl, sym, ap, ap₂}
use Rattle.std.proofs.Common.{◌∙◌, mul-zero, ltb-true, leb-true, le-leb}
use Rattle.std.proofs.Math.Bool.{true, false, not}
use mathlib.Core.List.{List, [], ◌∷◌, ◌++◌, map}
use Prim.Native.Nat.{ℕ, suc, ◌+◌, ◌-◌, ◌*◌, ◌≤◌, ◌<◌}
use native.Mathlib.Omega.{arith}
use Rattle.base.specs.Logic.{pick, all, keep, flat, sum_of, ascending_from, sorted_from}
use Rattle.base.specs.Laws.{and_left, and_right, and_both, sorted_head, sorted_tail, sorted-lower, ascending-head, ascending-tail, ascending-lower}
use Rattle.base.specs.ListLaws.{all_head, all_tail}

-- ---- neither test passes where their disjunction doesn't
pub or_left : (a b : Bool) → (a || b) ≡ false → a ≡ false
or_left true b e = e
or_left false b e = refl

pub or_right : (a b : Bool) → (a || b) ≡ false → b ≡ false
or_right true b e = let z : ◌≡◌ {A = ℕ} 0 1 = cc in absurd (omega arith)
or_right false b e = e

-- ---- lists put together
module _ {A : Type 0} where
  pub all_one : (q : A → Bool) (x : A) → q x ≡ true → all q (x ∷ []) ≡ true
  unfolding all
  all_one q x e = rw e

  pub all_map : {B : Type 0} (q : B → Bool) (f : A → B) (xs : List A) → all q (map f xs) ≡ all (λ x. q (f x)) xs
  unfolding all
  all_map q f [] = refl
  all_map q f (x ∷ xs) = rw (all_map q f xs)

  pub sum-append : (f : A → ℕ) (xs ys : List A) → sum_of f (xs ++ ys) ≡ sum_of f xs + sum_of f ys
  unfolding sum_of
  sum-append f [] ys = omega arith
  sum-append f (x ∷ xs) ys = omega (arith, sum-append f xs ys)

  pub length-sum : (xs : List A) → length xs ≡ sum_of (λ x. 1) xs
  unfolding sum_of
  length-sum [] = refl
  length-sum (x ∷ xs) = omega (arith, length-sum xs)

-- in order up to a number, and in order from there on
pub ascending-append : (lo b : ℕ) (xs ys : List ℕ) → lo ≤ b → ascending_from lo xs ≡ true → all (λ x. ltb x b) xs ≡ true → ascending_from b ys ≡ true
    → ascending_from lo (xs ++ ys) ≡ true
unfolding ascending_from all
ascending-append lo b [] ys h o l p = ascending-lower lo b ys h p
ascending-append lo b (x ∷ xs) ys h o l p =
    and_both (leb lo x) _ (and_left (leb lo x) _ o)
    (ascending-append (suc x) b xs ys (ltb-true x b (and_left _ _ l)) (and_right (leb lo x) _ o) (and_right (ltb x b) _ l) p)

pub sorted-append : (lo b : ℕ) (xs ys : List ℕ) → lo ≤ b → sorted_from lo xs ≡ true → all (λ x. leb x b) xs ≡ true → sorted_from b ys ≡ true
    → sorted_from lo (xs ++ ys) ≡ true
unfolding sorted_from all
sorted-append lo b [] ys h o l p = sorted-lower lo b ys h p
sorted-append lo b (x ∷ xs) ys h o l p =
    and_both (leb lo x) _ (and_left (leb lo x) _ o)
    (sorted-append x b xs ys (leb-true x b (and_left _ _ l)) (and_right (leb lo x) _ o) (and_right (leb x b) _ l) p)

-- ---- what is kept of a list
module _ {A : Type 0} (p : A → Bool) where
  -- the sum over what is kept and over what is not
  pub sum-keep : (f : A → ℕ) (xs : List A) → sum_of f (keep p xs) + sum_of f (keep (λ x. not (p x)) xs) ≡ sum_of f xs
  unfolding sum_of keep
  sum-keep f [] = omega arith
  sum-keep f (x ∷ xs) =
      let rest = sum-keep f xs in
      elim (p x) as (λ b. sum_of f (pick b (x ∷ keep p xs) (keep p xs)) + sum_of f (pick (not b) (x ∷ keep (λ y. not (p y)) xs) (keep (λ y. not (p y)) xs)) ≡ f x + sum_of f xs) [
        | true ↦ omega arith
        | false ↦ omega arith
      ]

  pub length-keep : (xs : List A) → length (keep p xs) + length (keep (λ x. not (p x)) xs) ≡ length xs
  length-keep xs = simp length-sum (sum-keep (λ x. 1) xs)

  pub keep-map : {B : Type 0} (g : B → A) (xs : List B) → keep p (map g xs) ≡ map g (keep (λ x. p (g x)) xs)
  unfolding keep
  keep-map g [] = refl
  keep-map g (x ∷ xs) =
      let rest = keep-map g xs in
      elim (p (g x)) as (λ b. pick b (g x ∷ keep p (map g xs)) (keep p (map g xs)) ≡ map g (pick b (x ∷ keep (λ y. p (g y)) xs) (keep (λ y. p (g y)) xs))) [
        | true ↦ ap (λ (l : List A). g x ∷ l) rest
        | false ↦ rest
      ]

  -- it stays in order
  module _ (key : A → ℕ) where
    pub keep-sorted : (lo : ℕ) (xs : List A) → sorted_from lo (map key xs) ≡ true → sorted_from lo (map key (keep p xs)) ≡ true
    unfolding sorted_from keep
    keep-sorted lo [] o = refl
    keep-sorted lo (x ∷ xs) o =
        let rest = keep-sorted (key x) xs (sorted_tail lo (key x) (map key xs) o) in
        let h = sorted_head lo (key x) (map key xs) o in
        elim (p x) as (λ b. sorted_from lo (map key (pick b (x ∷ keep p xs) (keep p xs))) ≡ true) [
          | true ↦ and_both _ _ (le-leb lo (key x) h) rest
          | false ↦ sorted-lower lo (key x) (map key (keep p xs)) h rest
        ]

-- ---- ascending numbers
pub ascending-cons : (lo x : ℕ) (xs : List ℕ) → lo ≤ x → ascending_from (suc x) xs ≡ true → ascending_from lo (x ∷ xs) ≡ true
unfolding ascending_from
ascending-cons lo x xs h a = and_both (leb lo x) (ascending_from (suc x) xs) (le-leb lo x h) a

pub ascending-left : (lo : ℕ) (xs ys : List ℕ) → ascending_from lo (xs ++ ys) ≡ true → ascending_from lo xs ≡ true
unfolding ascending_from
ascending-left lo [] ys a = refl
ascending-left lo (x ∷ xs) ys a = ascending-cons lo x xs (ascending-head lo x (xs ++ ys) a) (ascending-left (suc x) xs ys (ascending-tail lo x (xs ++ ys) a))

pub ascending-right : (lo : ℕ) (xs ys : List ℕ) → ascending_from lo (xs ++ ys) ≡ true → ascending_from lo ys ≡ true
ascending-right lo [] ys a = a
ascending-right lo (x ∷ xs) ys a =
    let h = ascending-head lo x (xs ++ ys) a in
    ascending-lower lo (suc x) ys (omega arith) (ascending-right (suc x) xs ys (ascending-tail lo x (xs ++ ys) a))

-- the same amount added to each number
pub ascending-shift : (c lo : ℕ) (xs : List ℕ) → ascending_from lo xs ≡ true → ascending_from (c + lo) (map (λ x. c + x) xs) ≡ true
unfolding ascending_from
ascending-shift c lo [] a = refl
ascending-shift c lo (x ∷ xs) a =
    let h = ascending-head lo x xs a in
    ascending-cons (c + lo) (c + x) (map (λ y. c + y) xs) (omega arith)
    (ascending-lower (suc (c + x)) (c + suc x) (map (λ y. c + y) xs) (omega arith) (ascending-shift c (suc x) xs (ascending-tail lo x xs a)))

pub ascending-unshift : (c lo : ℕ) (xs : List ℕ) → ascending_from lo (map (λ x. c + x) xs) ≡ true → ascending_from (lo - c) xs ≡ true
unfolding ascending_from
ascending-unshift c lo [] a = refl
ascending-unshift c lo (x ∷ xs) a =
    let h = ascending-head lo (c + x) (map (λ y. c + y) xs) a in
    ascending-cons (lo - c) x xs (omega arith)
    (ascending-lower (suc x) (suc (c + x) - c) xs (omega arith) (ascending-unshift c (suc (c + x)) xs (ascending-tail lo (c + x) (map (λ y. c + y) xs) a)))

-- ascending numbers of a stretch are no more than its places
pub ascending-length : (lo hi : ℕ) (xs : List ℕ) → lo ≤ hi → ascending_from lo xs ≡ true → all (λ x. ltb x hi) xs ≡ true → lo + length xs ≤ hi
ascending-length lo hi [] h a e = omega arith
ascending-length lo hi (x ∷ xs) h a e =
    let l = ascending-head lo x xs a in
    let u : x < hi = ltb-true x hi (all_head (λ y. ltb y hi) x xs e) in
    let r = ascending-length (suc x) hi xs u (ascending-tail lo x xs a) (all_tail (λ y. ltb y hi) x xs e) in
    omega arith

-- ---- sums of lists made from others
module _ {A : Type 0} where
  -- a list for each item, end to end
  pub sum_of-flat : {B : Type 0} (f : A → ℕ) (g : B → List A) (xs : List B) → sum_of f (flat g xs) ≡ sum_of (λ x. sum_of f (g x)) xs
  unfolding sum_of flat
  sum_of-flat f g [] = refl
  sum_of-flat f g (x ∷ xs) = sum-append f (g x) (flat g xs) ∙ ap (λ (n : ℕ). sum_of f (g x) + n) (sum_of-flat f g xs)

  pub sum_of-map : {B : Type 0} (f : A → ℕ) (g : B → A) (xs : List B) → sum_of f (map g xs) ≡ sum_of (λ x. f (g x)) xs
  unfolding sum_of
  sum_of-map f g [] = refl
  sum_of-map f g (x ∷ xs) = ap (λ (n : ℕ). f (g x) + n) (sum_of-map f g xs)

  -- the same number for each item, and one besides
  pub sum_of-even : (k : ℕ) (f : A → ℕ) (xs : List A) → sum_of (λ x. k + f x) xs ≡ k * length xs + sum_of f xs
  unfolding sum_of
  sum_of-even k f [] = omega arith
  sum_of-even k f (x ∷ xs) = omega (arith, sum_of-even k f xs)

  pub sum_of-times : (k : ℕ) (f : A → ℕ) (xs : List A) → sum_of (λ x. k * f x) xs ≡ k * sum_of f xs
  unfolding sum_of
  sum_of-times k f [] = sym (mul-zero k)
  sum_of-times k f (x ∷ xs) = omega (arith, sum_of-times k f xs)

  -- numbers that are the same, or no more
  pub sum_of-same : (f g : A → ℕ) → ((x : A) → f x ≡ g x) → (xs : List A) → sum_of f xs ≡ sum_of g xs
  unfolding sum_of
  sum_of-same f g h [] = refl
  sum_of-same f g h (x ∷ xs) = ap₂ ◌+◌ (h x) (sum_of-same f g h xs)

  pub sum_of-le : (f g : A → ℕ) → ((x : A) → f x ≤ g x) → (xs : List A) → sum_of f xs ≤ sum_of g xs
  unfolding sum_of
  sum_of-le f g h [] = omega arith
  sum_of-le f g h (x ∷ xs) = omega (arith, h x, sum_of-le f g h xs)
