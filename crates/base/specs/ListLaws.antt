-- Laws of the tests and choices over lists: what a test over a list says of its items, of lists end to end, and of a list in another order.
-- Assumes nothing.
use Rattle.std.specs.Prelude.{◌≡◌, ◌↔◌, ◌⊎◌, Bool, ◌&&◌, ◌||◌, ℕ, zero, suc, ◌+◌, ◌*◌, ◌≤◌, ◌<◌, take, drop, eqb}
use Rattle.std.proofs.Math.Path.{refl, sym, ap}
use Rattle.std.proofs.Common.{ap₂, ◌∙◌, inl, inr, true≢false, zero-add, add-zero, suc-add, take-append-drop}
use Rattle.std.proofs.Math.Bool.{true, false, not, and_assoc}
use Rattle.std.proofs.lemmas.Bool.{false≢true}
use mathlib.Core.List.Permᴰ
use mathlib.Core.List.{List, [], ◌∷◌, ◌++◌, map}
use mathlib.Core.List.Permᴰ.{cons as order-cons}
use mathlib.Core.List.Permᴰ.{nil as order-nil}
use mathlib.Core.List.Permᴰ.{swap as order-swap}
use mathlib.Core.List.Permᴰ.{trans as order_trans}
use mathlib.Core.List.{Permᴰ as Reordered}
use native.Mathlib.Omega.{arith}
use Rattle.std.proofs.Math.ListN.{length, length-append}
use Rattle.std.proofs.Math.Dec.{leb, ltb}
use borrow.Author.Tests.{eqb-true, eqb-false, eq-eqb, ne_eqb, leb-true, le-leb, ltb-true, lt-ltb}
use Rattle.base.specs.Logic.{pick, all, any, keep, fold, flat, from, elem, repeated, sum_of, ascending_from}
use Rattle.base.specs.Laws.{and_left, and_right, and_both, ascending-head, ascending-tail, ascending-lower}

-- ---- tests
pub or-false : (a b : Bool) → (a || b) ≡ false → (a ≡ false) × (b ≡ false)
or-false true b e = absurd (true≢false e)
or-false false b e = (refl, e)

-- a test that passes exactly where P holds fails exactly where it doesn't
pub fails-not : {P : Type 0} (b : Bool) → (b ≡ true) ↔ P → (b ≡ false) ↔ (¬ P)
fails-not true h = (λ e. absurd (true≢false e), λ n. absurd (n (h.0 refl)))
fails-not false h = (λ e p. false≢true (h.1 p), λ n. refl)

pub leb-le : (a b : ℕ) → (leb a b ≡ true) ↔ (a ≤ b)
leb-le a b = (leb-true a b, le-leb a b)

pub ltb-lt : (a b : ℕ) → (ltb a b ≡ true) ↔ (a < b)
ltb-lt a b = (ltb-true a b, lt-ltb a b)

pub eqb-eq : (a b : ℕ) → (eqb a b ≡ true) ↔ (a ≡ b)
eqb-eq a b = (eqb-true a b, eq-eqb a b)

-- one of two tests passes exactly where what one of them tests holds
pub or-either : {P Q : Type 0} (a b : Bool) → (a ≡ true) ↔ P → (b ≡ true) ↔ Q → ((a || b) ≡ true) ↔ (P ⊎ Q)
or-either true b h k = (λ e. inl (h.0 refl), λ s. refl)
or-either false b h k = (λ e. inr (k.0 e), λ s. elim s [ inl p ↦ absurd (false≢true (h.1 p)) | inr q ↦ k.1 q ])

pub eqb-sym : (a b : ℕ) → eqb a b ≡ eqb b a
eqb-sym a b = go (eqb b a) refl
  where
    go : (r : Bool) → eqb b a ≡ r → eqb a b ≡ r
    go true e = eq-eqb a b (sym (eqb-true b a e))
    go false e = ne_eqb a b (λ q. true≢false (sym (eq-eqb b a (sym q)) ∙ e))

-- ---- an item of the list has the property
pub data Some {A : Type 0} (P : A → Type 0) : List A → Type 0 where
  here : {x : A} {xs : List A} → P x → Some P (x ∷ xs)
  there : {x : A} {xs : List A} → Some P xs → Some P (x ∷ xs)

-- two items of the list, each at a place of its own, are so related
pub data Two {A : Type 0} (R : A → A → Type 0) : List A → Type 0 where
  first : {x : A} {xs : List A} → Some (R x) xs → Two R (x ∷ xs)
  later : {x : A} {xs : List A} → Two R xs → Two R (x ∷ xs)

module _ {A : Type 0} where
  some-cons : {P : A → Type 0} {x : A} {xs : List A} (b c : Bool) → (b ≡ true) ↔ P x → (c ≡ true) ↔ Some P xs → ((b || c) ≡ true) ↔ Some P (x ∷ xs)
  some-cons true c h r = (λ e. here (h.0 refl), λ s. refl)
  some-cons {P} {x} {xs} false c h r = (λ e. there (r.0 e), from)
    where
      from : Some P (x ∷ xs) → c ≡ true
      from (here y) = absurd (false≢true (h.1 y))
      from (there s) = r.1 s

  two-cons : {R : A → A → Type 0} {x : A} {xs : List A} (b c : Bool) → (b ≡ true) ↔ Some (R x) xs → (c ≡ true) ↔ Two R xs → ((b || c) ≡ true) ↔ Two R (x ∷ xs)
  two-cons true c h r = (λ e. first (h.0 refl), λ s. refl)
  two-cons {R} {x} {xs} false c h r = (λ e. later (r.0 e), from)
    where
      from : Two R (x ∷ xs) → c ≡ true
      from (first s) = absurd (false≢true (h.1 s))
      from (later t) = r.1 t

  -- a test passes for an item exactly where an item has the property that it tests
  pub any_some : {P : A → Type 0} (p : A → Bool) → ((x : A) → (p x ≡ true) ↔ P x) → (xs : List A) → (any p xs ≡ true) ↔ Some P xs
  unfolding any
  any_some p h [] = (λ e. absurd (false≢true e), λ s. elim s [ ])
  any_some p h (x ∷ xs) = some-cons (p x) (any p xs) (h x) (any_some p h xs)

  -- a number is among those that the items have
  pub elem-some : (f : A → ℕ) (x : ℕ) (xs : List A) → (elem x (map f xs) ≡ true) ↔ Some (λ y. x ≡ f y) xs
  unfolding any
  elem-some f x [] = (λ e. absurd (false≢true e), λ s. elim s [ ])
  elem-some f x (y ∷ ys) = some-cons (eqb x (f y)) (elem x (map f ys)) (eqb-eq x (f y)) (elem-some f x ys)

  -- a number stands twice exactly where two items have it
  pub repeated-two : (f : A → ℕ) (xs : List A) → (repeated (map f xs) ≡ true) ↔ Two (λ x y. f x ≡ f y) xs
  unfolding repeated
  repeated-two f [] = (λ e. absurd (false≢true e), λ s. elim s [ ])
  repeated-two f (x ∷ xs) = two-cons (elem (f x) (map f xs)) (repeated (map f xs)) (elem-some f (f x) xs) (repeated-two f xs)

  -- an item with one property has every property that follows from it
  pub some-weaker : {P Q : A → Type 0} {xs : List A} → ((x : A) → P x → Q x) → Some P xs → Some Q xs
  some-weaker h (here {x = x} p) = here (h x p)
  some-weaker h (there s) = there (some-weaker h s)

  -- x is an item of the list
  abbrev pub Among : A → List A → Type 0
  Among x xs = Some (λ y. y ≡ x) xs

  -- an item that has the property
  pub some_one : {P : A → Type 0} {xs : List A} → Some P xs → (x : A) × P x × Among x xs
  some_one (here {x = x} p) = (x, p, here refl)
  some_one (there s) = let (x, p, m) = some_one s in (x, p, there m)

  -- a test passes for no item exactly where it fails for each
  pub none_passes : (p : A → Bool) (xs : List A) → (any p xs ≡ false) ↔ ((x : A) → Among x xs → p x ≡ false)
  none_passes p xs =
      let none : (any p xs ≡ false) ↔ (¬ Some (λ x. p x ≡ true) xs) = fails-not (any p xs) (any_some p (λ x. (λ e. e, λ e. e)) xs) in (
        λ f x m. (fails-not (p x) (λ e. e, λ e. e)).1 (λ e. none.0 f (some-weaker (λ y q. ap p q ∙ e) m)),
        λ f. none.1 (λ s. let (x, e, m) = some_one s in true≢false (sym e ∙ f x m)),
      )

  -- ---- tests and choices of lists end to end
  pub all_append : (p : A → Bool) (xs ys : List A) → all p xs ≡ true → all p ys ≡ true → all p (xs ++ ys) ≡ true
  unfolding all
  all_append p [] ys a b = b
  all_append p (x ∷ xs) ys a b = and_both (p x) (all p (xs ++ ys)) (and_left (p x) (all p xs) a) (all_append p xs ys (and_right (p x) (all p xs) a) b)

  pub keep_append : (p : A → Bool) (xs ys : List A) → keep p (xs ++ ys) ≡ keep p xs ++ keep p ys
  unfolding keep
  keep_append p [] ys = refl
  keep_append p (x ∷ xs) ys = rw (keep_append p xs ys) (go (p x) (keep p xs))
    where
      go : (b : Bool) (k : List A) → pick b (x ∷ (k ++ keep p ys)) (k ++ keep p ys) ≡ pick b (x ∷ k) k ++ keep p ys
      go true k = refl
      go false k = refl

  -- ---- the items that pass a test
  pub length-keep : (p : A → Bool) (x : A) (xs : List A) → length (keep p (x ∷ xs)) ≡ pick (p x) 1 0 + length (keep p xs)
  unfolding keep
  length-keep p x xs = go (p x)
    where
      go : (b : Bool) → length (pick b (x ∷ keep p xs) (keep p xs)) ≡ pick b 1 0 + length (keep p xs)
      go true = omega arith
      go false = omega arith

  pub all-kept : (p : A → Bool) (xs : List A) → all p (keep p xs) ≡ true
  unfolding keep all
  all-kept p [] = refl
  all-kept p (x ∷ xs) = go (p x) refl (all-kept p xs)
    where
      go : (b : Bool) → p x ≡ b → all p (keep p xs) ≡ true → all p (pick b (x ∷ keep p xs) (keep p xs)) ≡ true
      go true e r = and_both (p x) (all p (keep p xs)) e r
      go false e r = r

  -- what a test's passing implies passes too
  pub all_weaker : (p q : A → Bool) → ((x : A) → q x ≡ true → p x ≡ true) → (xs : List A) → all q xs ≡ true → all p xs ≡ true
  unfolding all
  all_weaker p q h [] a = refl
  all_weaker p q h (x ∷ xs) a = and_both (p x) (all p xs) (h x (and_left (q x) (all q xs) a)) (all_weaker p q h xs (and_right (q x) (all q xs) a))

  -- what passes for every item passes for those that are kept
  pub all_keep : (p q : A → Bool) (xs : List A) → all p xs ≡ true → all p (keep q xs) ≡ true
  unfolding keep all
  all_keep p q [] h = refl
  all_keep p q (x ∷ xs) h = go (q x) (and_left (p x) (all p xs) h) (all_keep p q xs (and_right (p x) (all p xs) h))
    where
      go : (b : Bool) → p x ≡ true → all p (keep q xs) ≡ true → all p (pick b (x ∷ keep q xs) (keep q xs)) ≡ true
      go true e r = and_both (p x) (all p (keep q xs)) e r
      go false e r = r

  -- a test that every item passes, and one that no item passes
  pub keep-whole : (p q : A → Bool) → ((x : A) → q x ≡ true → p x ≡ true) → (xs : List A) → all q xs ≡ true → keep p xs ≡ xs
  unfolding keep all
  keep-whole p q h [] a = refl
  keep-whole p q h (x ∷ xs) a = rw (h x (and_left (q x) (all q xs) a)) (ap (λ (l : List A). x ∷ l) (keep-whole p q h xs (and_right (q x) (all q xs) a)))

  pub keep-empty : (p q : A → Bool) → ((x : A) → q x ≡ true → p x ≡ false) → (xs : List A) → all q xs ≡ true → keep p xs ≡ []
  unfolding keep all
  keep-empty p q h [] a = refl
  keep-empty p q h (x ∷ xs) a = rw (h x (and_left (q x) (all q xs) a)) (keep-empty p q h xs (and_right (q x) (all q xs) a))

  -- two tests keep the same in either order
  pub keep-swap : (p q : A → Bool) (xs : List A) → keep p (keep q xs) ≡ keep q (keep p xs)
  unfolding keep
  keep-swap p q [] = refl
  keep-swap p q (x ∷ xs) = go (p x) (q x) refl refl (keep-swap p q xs)
    where
      go : (b c : Bool) → p x ≡ b → q x ≡ c → keep p (keep q xs) ≡ keep q (keep p xs)
          → keep p (pick c (x ∷ keep q xs) (keep q xs)) ≡ keep q (pick b (x ∷ keep p xs) (keep p xs))
      go true true e f r = rw (e, f) (ap (λ (l : List A). x ∷ l) r)
      go true false e f r = rw f r
      go false true e f r = rw e r
      go false false e f r = r

  -- the narrower of two tests decides
  pub keep-narrow : (p q : A → Bool) → ((x : A) → p x ≡ true → q x ≡ true) → (xs : List A) → keep p (keep q xs) ≡ keep p xs
  keep-narrow p q h xs = keep-swap p q xs ∙ keep-whole q p h (keep p xs) (all-kept p xs)

  -- ---- a list gone through from the left
  -- what is read off in the end is what the steps do to what is read off
  pub fold-reads : {B C : Type 0} (f : A → B → B) (g : A → C → C) (read : B → C) → ((x : A) (b : B) → read (f x b) ≡ g x (read b))
      → (xs : List A) (b : B) → read (fold f xs b) ≡ fold g xs (read b)
  unfolding fold
  fold-reads f g read h [] b = refl
  fold-reads {C = C} f g read h (x ∷ xs) b = fold-reads f g read h xs (f x b) ∙ ap (λ (c : C). fold g xs c) (h x b)

  -- ---- the same items in another order
  -- where a list's value is made item by item, and two items may change places, their order doesn't matter
  module _ {B : Type 0} (value : List A → B) (more : A → B → B) (made : (x : A) (xs : List A) → value (x ∷ xs) ≡ more x (value xs))
      (swap : (x y : A) (b : B) → more x (more y b) ≡ more y (more x b)) where
    pub value-order : {xs ys : List A} → Reordered xs ys → value xs ≡ value ys
    value-order order-nil = refl
    value-order (order-cons {a = x} {b = y} {l₁ = xs} {l₂ = ys} e r) = made x xs ∙ ap₂ more e (value-order r) ∙ sym (made y ys)
    value-order (order-swap {a = x} {b = y} {a' = x'} {b' = y'} {l = l} e f) = cc (made x (y ∷ l), made y l, made x' (y' ∷ l), made y' l, swap x y (value l))
    value-order (order_trans r t) = value-order r ∙ value-order t

  pub any_order : {xs ys : List A} (p : A → Bool) → Reordered xs ys → any p xs ≡ any p ys
  unfolding any
  any_order p r = value-order (any p) (λ x b. p x || b) (λ x xs. refl) (λ x y b. or_swap (p x) (p y) b) r
    where
      or_swap : (a b c : Bool) → (a || (b || c)) ≡ (b || (a || c))
      or_swap true true c = refl
      or_swap true false c = refl
      or_swap false true c = refl
      or_swap false false c = refl

  pub length-order : {xs ys : List A} → Reordered xs ys → length xs ≡ length ys
  length-order r = value-order length (λ x n. suc n) (λ x xs. refl) (λ x y n. refl) r

  pub keep-order : {xs ys : List A} (p : A → Bool) → Reordered xs ys → Reordered (keep p xs) (keep p ys)
  unfolding keep
  keep-order p order-nil = order-nil
  keep-order p (order-cons {a = x} {b = y} {l₁ = xs} {l₂ = ys} e r) = rw (← ap p e) (go (p x) (keep-order p r))
    where
      go : (b : Bool) → Reordered (keep p xs) (keep p ys) → Reordered (pick b (x ∷ keep p xs) (keep p xs)) (pick b (y ∷ keep p ys) (keep p ys))
      go true s = order-cons e s
      go false s = s
  keep-order p (order-swap {a = x} {b = y} {a' = x'} {b' = y'} {l = l} e f) = rw (← ap p e, ← ap p f) (go (p x) (p y) (keep p l))
    where
      go : (b c : Bool) (k : List A) → Reordered (pick b (x ∷ pick c (y ∷ k) k) (pick c (y ∷ k) k)) (pick c (x' ∷ pick b (y' ∷ k) k) (pick b (y' ∷ k) k))
      go true true k = order-swap e f
      go true false k = order-cons e (Permᴰ.refl k)
      go false true k = order-cons f (Permᴰ.refl k)
      go false false k = Permᴰ.refl k
  keep-order p (order_trans r t) = order_trans (keep-order p r) (keep-order p t)

  -- as many items pass a test
  pub count-order : {xs ys : List A} (p : A → Bool) → Reordered xs ys → length (keep p xs) ≡ length (keep p ys)
  count-order p r = length-order (keep-order p r)

module _ {A : Type 0} where
  -- an item in front of a list may stand anywhere in it
  pub middle-order : (x : A) (xs ys : List A) → Reordered (x ∷ (xs ++ ys)) (xs ++ (x ∷ ys))
  middle-order x [] ys = Permᴰ.refl (x ∷ ys)
  middle-order x (y ∷ xs) ys = order_trans (order-swap refl refl) (order-cons refl (middle-order x xs ys))

  -- the items that fail a test, and then those that pass it
  pub split-order : (p : A → Bool) (xs : List A) → Reordered xs (keep (λ x. not (p x)) xs ++ keep p xs)
  unfolding keep
  split-order p [] = order-nil
  split-order p (x ∷ xs) = go (p x) (split-order p xs)
    where
      go : (b : Bool) → Reordered xs (keep (λ y. not (p y)) xs ++ keep p xs)
          → Reordered (x ∷ xs) (pick (not b) (x ∷ keep (λ y. not (p y)) xs) (keep (λ y. not (p y)) xs) ++ pick b (x ∷ keep p xs) (keep p xs))
      go true r = order_trans (order-cons refl r) (middle-order x (keep (λ y. not (p y)) xs) (keep p xs))
      go false r = order-cons refl r

  -- a list gone through in two parts
  pub fold-append : {B : Type 0} (f : A → B → B) (xs ys : List A) (b : B) → fold f (xs ++ ys) b ≡ fold f ys (fold f xs b)
  unfolding fold
  fold-append f [] ys b = refl
  fold-append f (x ∷ xs) ys b = fold-append f xs ys (f x b)

pub repeated-order : {xs ys : List ℕ} → Reordered xs ys → repeated xs ≡ repeated ys
unfolding repeated any
repeated-order order-nil = refl
repeated-order (order-cons {a = x} {b = y} {l₁ = xs} {l₂ = ys} e r) =
    ap₂ (λ (a b : Bool). a || b) (ap (λ (z : ℕ). elem z xs) e ∙ any_order (eqb y) r) (repeated-order r)
repeated-order (order-swap {a = x} {b = y} {a' = x'} {b' = y'} {l = l} e f) =
    ap₂ (λ (a b : ℕ). repeated (a ∷ b ∷ l)) e f ∙ rw (eqb-sym y' x') (or-square (eqb x' y') (elem y' l) (elem x' l) (repeated l))
  where
    or-square : (a b c d : Bool) → (a || b || (c || d)) ≡ (a || c || (b || d))
    or-square true b c d = refl
    or-square false true true d = refl
    or-square false true false d = refl
    or-square false false true d = refl
    or-square false false false d = refl
repeated-order (order_trans r t) = repeated-order r ∙ repeated-order t

module _ {A : Type 0} (key : A → ℕ) where
  -- steps that may change places where their keys differ come to the same in any order of items of which no two have one key
  pub fold-order : {B : Type 0} (f : A → B → B) → ((x y : A) (b : B) → (key x ≡ key y → ⊥) → f y (f x b) ≡ f x (f y b))
      → {xs ys : List A} → Reordered xs ys → repeated (map key xs) ≡ false → (b : B) → fold f xs b ≡ fold f ys b
  unfolding fold repeated any
  fold-order f swap order-nil n b = refl
  fold-order f swap (order-cons {a = x} {b = y} {l₁ = xs} {l₂ = ys} e r) n b =
      rw e (fold-order f swap r (or-false (elem (key x) (map key xs)) (repeated (map key xs)) n).1 (f y b))
  fold-order {B} f swap (order-swap {a = x} {b = y} {a' = x'} {b' = y'} {l = l} e g) n b =
      let twice = (or-false (elem (key x) (key y ∷ map key l)) (repeated (key y ∷ map key l)) n).0 in
      let differ = eqb-false (key x) (key y) (or-false (eqb (key x) (key y)) (elem (key x) (map key l)) twice).0 in
      ap (λ (c : B). fold f l c) (swap x y b differ ∙ cc)
  fold-order f swap (order_trans r t) n b =
      fold-order f swap r n b ∙ fold-order f swap t (sym (repeated-order (Permᴰ.map key r)) ∙ n) b

  -- a value that each item with the key i sets: the one item with that key leaves its own, and with none it is as before
  module _ {C : Type 0} (value : A → C) (i : ℕ) where
    pub fold-unset : (xs : List A) (c : C) → elem i (map key xs) ≡ false → fold (λ x d. pick (eqb i (key x)) (value x) d) xs c ≡ c
    unfolding fold any
    fold-unset [] c e = refl
    fold-unset (x ∷ xs) c e = let f = or-false (eqb i (key x)) (elem i (map key xs)) e in rw f.0 (fold-unset xs c f.1)

    pub fold-set : (v c : C) {xs : List A} → Some (λ x. (key x ≡ i) × (value x ≡ v)) xs → repeated (map key xs) ≡ false
        → fold (λ x d. pick (eqb i (key x)) (value x) d) xs c ≡ v
    unfolding fold repeated
    fold-set v c (here {x = x} {xs = xs} p) e =
        let alone : elem i (map key xs) ≡ false = ap (λ (k : ℕ). elem k (map key xs)) (sym p.0) ∙ (or-false (elem (key x) (map key xs)) (repeated (map key xs)) e).0 in
        rw (eq-eqb i (key x) (sym p.0)) (fold-unset xs (value x) alone ∙ p.1)
    fold-set v c (there {x = x} {xs = xs} s) e = fold-set v (pick (eqb i (key x)) (value x) c) s (or-false (elem (key x) (map key xs)) (repeated (map key xs)) e).1

  -- ---- ascending keys
  pub ascending-append : (lo hi : ℕ) (xs ys : List A) → lo ≤ hi → ascending_from lo (map key xs) ≡ true → all (λ x. ltb (key x) hi) xs ≡ true
      → ascending_from hi (map key ys) ≡ true → ascending_from lo (map key (xs ++ ys)) ≡ true
  unfolding ascending_from all
  ascending-append lo hi [] ys h a b c = ascending-lower lo hi (map key ys) h c
  ascending-append lo hi (x ∷ xs) ys h a b c =
      let below = ltb-true (key x) hi (and_left (ltb (key x) hi) (all (λ y. ltb (key y) hi) xs) b) in
      and_both (leb lo (key x)) (ascending_from (suc (key x)) (map key (xs ++ ys))) (and_left (leb lo (key x)) (ascending_from (suc (key x)) (map key xs)) a)
      (ascending-append (suc (key x)) hi xs ys below (ascending-tail lo (key x) (map key xs) a) (and_right (ltb (key x) hi) (all (λ y. ltb (key y) hi) xs) b) c)

  -- what is kept of ascending keys ascends
  pub ascending-keep : (p : A → Bool) (lo : ℕ) (xs : List A) → ascending_from lo (map key xs) ≡ true → ascending_from lo (map key (keep p xs)) ≡ true
  unfolding ascending_from keep
  ascending-keep p lo [] a = refl
  ascending-keep p lo (x ∷ xs) a = go (p x) (ascending-keep p (suc (key x)) xs (ascending-tail lo (key x) (map key xs) a))
    where
      go : (b : Bool) → ascending_from (suc (key x)) (map key (keep p xs)) ≡ true → ascending_from lo (map key (pick b (x ∷ keep p xs) (keep p xs))) ≡ true
      go true r = and_both (leb lo (key x)) (ascending_from (suc (key x)) (map key (keep p xs))) (and_left (leb lo (key x)) (ascending_from (suc (key x)) (map key xs)) a) r
      go false r = ascending-lower lo (suc (key x)) (map key (keep p xs)) (omega (arith, ascending-head lo (key x) (map key xs) a)) r

  -- ascending keys ascend from any bound that all of them reach
  pub ascending-from : (lo hi : ℕ) (xs : List A) → ascending_from lo (map key xs) ≡ true → all (λ x. leb hi (key x)) xs ≡ true → ascending_from hi (map key xs) ≡ true
  unfolding ascending_from all
  ascending-from lo hi [] a b = refl
  ascending-from lo hi (x ∷ xs) a b =
      and_both (leb hi (key x)) (ascending_from (suc (key x)) (map key xs)) (and_left (leb hi (key x)) (all (λ y. leb hi (key y)) xs) b) (ascending-tail lo (key x) (map key xs) a)

-- ---- a test that every item passes
module _ {A : Type 0} (p : A → Bool) where
  pub all_head : (x : A) (xs : List A) → all p (x ∷ xs) ≡ true → p x ≡ true
  unfolding all
  all_head x xs e = and_left (p x) (all p xs) e

  pub all_tail : (x : A) (xs : List A) → all p (x ∷ xs) ≡ true → all p xs ≡ true
  unfolding all
  all_tail x xs e = and_right (p x) (all p xs) e

  pub all_cons : (x : A) (xs : List A) → p x ≡ true → all p xs ≡ true → all p (x ∷ xs) ≡ true
  unfolding all
  all_cons x xs h e = and_both (p x) (all p xs) h e

  pub all_join : (xs ys : List A) → all p (xs ++ ys) ≡ (all p xs && all p ys)
  unfolding all
  all_join [] ys = refl
  all_join (x ∷ xs) ys = ap (λ (b : Bool). p x && b) (all_join xs ys) ∙ sym (and_assoc (p x) (all p xs) (all p ys))

  pub all_left : (xs ys : List A) → all p (xs ++ ys) ≡ true → all p xs ≡ true
  unfolding all
  all_left [] ys e = refl
  all_left (x ∷ xs) ys e = all_cons x xs (all_head x (xs ++ ys) e) (all_left xs ys (all_tail x (xs ++ ys) e))

  pub all_right : (xs ys : List A) → all p (xs ++ ys) ≡ true → all p ys ≡ true
  all_right [] ys e = e
  all_right (x ∷ xs) ys e = all_right xs ys (all_tail x (xs ++ ys) e)

  -- so do the first items, and those behind them
  pub all_take : (n : ℕ) (xs : List A) → all p xs ≡ true → all p (take n xs) ≡ true
  all_take n xs e = all_left (take n xs) (drop n xs) (rw (take-append-drop n xs) e)

  pub all_drop : (n : ℕ) (xs : List A) → all p xs ≡ true → all p (drop n xs) ≡ true
  all_drop n xs e = all_right (take n xs) (drop n xs) (rw (take-append-drop n xs) e)

  pub all-flat : {B : Type 0} (f : B → List A) → ((x : B) → all p (f x) ≡ true) → (xs : List B) → all p (flat f xs) ≡ true
  unfolding all flat
  all-flat f h [] = refl
  all-flat f h (x ∷ xs) = all_append p (f x) (flat f xs) (h x) (all-flat f h xs)

-- ---- a list for each item, end to end
module _ {A B : Type 0} (f : A → List B) where
  pub length-flat : (xs : List A) → length (flat f xs) ≡ sum_of (λ x. length (f x)) xs
  unfolding flat sum_of
  length-flat [] = refl
  length-flat (x ∷ xs) = length-append (f x) (flat f xs) ∙ ap (λ (n : ℕ). length (f x) + n) (length-flat xs)

  pub length-flat-even : (k : ℕ) → ((x : A) → length (f x) ≡ k) → (xs : List A) → length (flat f xs) ≡ k * length xs
  unfolding flat
  length-flat-even k h [] = omega arith
  length-flat-even k h (x ∷ xs) = length-append (f x) (flat f xs) ∙ omega (arith, h x, length-flat-even k h xs)

-- ---- what a map gives
module _ {A B : Type 0} (f : A → B) where
  pub among-map : {x : A} {xs : List A} → Among x xs → Among (f x) (map f xs)
  among-map (here e) = here (ap f e)
  among-map (there m) = there (among-map m)

  pub any-map : (p : B → Bool) (xs : List A) → any p (map f xs) ≡ any (λ x. p (f x)) xs
  unfolding any
  any-map p [] = refl
  any-map p (x ∷ xs) = ap (λ (b : Bool). p (f x) || b) (any-map p xs)

-- ---- numbers in a row
pub length_from : (p n : ℕ) → length (from p n) ≡ n
unfolding from
length_from p zero = refl
length_from p (suc n) = ap suc (length_from (suc p) n)

pub from-append : (p a b : ℕ) → from p (a + b) ≡ from p a ++ from (p + a) b
unfolding from
from-append p zero b = rw (zero-add b, add-zero p)
from-append p (suc a) b = rw (suc-add a b) (ap (λ (l : List ℕ). p ∷ l) (from-append (suc p) a b ∙ ap (λ (q : ℕ). from (suc p) a ++ from q b) (omega arith)))
