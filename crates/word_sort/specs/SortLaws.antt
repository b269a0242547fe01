-- A sorted list has the same numbers in order, and no other list does.
-- Assumes nothing.
use Rattle.std.specs.Prelude.{◌≡◌, Bool, true, ◌&&◌, ℕ, zero, suc, ◌+◌, ◌≤◌, ◌<◌, leb, drop, get_or}
use Rattle.std.proofs.Math.Path.{refl}
use Rattle.std.proofs.Common.{sym, ap, ◌∙◌, arith, drop-cons, add-one, leb-true, leb-false, le-leb, eq-eqb, ne_eqb}
use Rattle.std.proofs.Math.Bool.{false}
use mathlib.Core.List.Permᴰ
use mathlib.Core.List.{List, [], ◌∷◌}
use mathlib.Core.List.Permᴰ.{cons as order-cons}
use mathlib.Core.List.Permᴰ.{nil as order-nil}
use mathlib.Core.List.Permᴰ.{swap as order-swap}
use mathlib.Core.List.Permᴰ.{trans as order_trans}
use mathlib.Core.List.{Permᴰ as Reordered}
use Rattle.std.proofs.Math.ListN.{length, length-drop}
use Rattle.std.proofs.lemmas.Bool.{lt-leb}
use Rattle.base.specs.Logic.{pick, all, any, elem, repeated, sorted_from}
use Rattle.base.specs.Laws.{and_left, and_both, sorted_head, sorted_tail, sorted-lower}
use Rattle.base.specs.ListLaws.{value-order, length-order, repeated-order, all_head, all_tail, all_cons}
use Rattle.word_sort.specs.Sort.{insert, sorted}

-- ---- a number put in its place
insert-before : (x y : ℕ) (ys : List ℕ) → x ≤ y → insert x (y ∷ ys) ≡ x ∷ y ∷ ys
unfolding insert
insert-before x y ys h = rw (le-leb x y h)

insert-after : (x y : ℕ) (ys : List ℕ) → y < x → insert x (y ∷ ys) ≡ y ∷ insert x ys
unfolding insert
insert-after x y ys h = rw (lt-leb x y h)

-- two numbers may be put in in either order
insert-less : (x y : ℕ) (zs : List ℕ) → x < y → insert x (insert y zs) ≡ insert y (insert x zs)
unfolding insert
insert-less x y [] h = insert-before x y [] (omega arith) ∙ sym (insert-after y x [] h)
insert-less x y (z ∷ zs) h = go (leb y z) (leb x z) refl refl (insert-less x y zs h)
  where
    go : (a b : Bool) → leb y z ≡ a → leb x z ≡ b → insert x (insert y zs) ≡ insert y (insert x zs)
        → insert x (pick a (y ∷ z ∷ zs) (z ∷ insert y zs)) ≡ insert y (pick b (x ∷ z ∷ zs) (z ∷ insert x zs))
    go true true e f r =
        insert-before x y (z ∷ zs) (omega arith)
        ∙ ap (λ (l : List ℕ). x ∷ l) (sym (insert-before y z zs (leb-true y z e)))
        ∙ sym (insert-after y x (z ∷ zs) h)
    go true false e f r = absurd (omega (arith, leb-true y z e, leb-false x z f))
    go false true e f r =
        insert-before x z (insert y zs) (leb-true x z f)
        ∙ ap (λ (l : List ℕ). x ∷ l) (sym (insert-after y z zs (leb-false y z e)))
        ∙ sym (insert-after y x (z ∷ zs) h)
    go false false e f r =
        insert-after x z (insert y zs) (leb-false x z f)
        ∙ ap (λ (l : List ℕ). z ∷ l) r
        ∙ sym (insert-after y z (insert x zs) (leb-false y z e))

pub insert-swap : (x y : ℕ) (zs : List ℕ) → insert x (insert y zs) ≡ insert y (insert x zs)
insert-swap x y zs = go (leb x y) (leb y x) refl refl
  where
    go : (a b : Bool) → leb x y ≡ a → leb y x ≡ b → insert x (insert y zs) ≡ insert y (insert x zs)
    go true true e f =
        let same : x ≡ y = omega (arith, leb-true x y e, leb-true y x f) in
        rw same
    go true false e f = insert-less x y zs (leb-false y x f)
    go false b e f = sym (insert-less y x zs (leb-false x y e))

pub insert-order : (x : ℕ) (ys : List ℕ) → Reordered (x ∷ ys) (insert x ys)
unfolding insert
insert-order x [] = Permᴰ.refl (x ∷ [])
insert-order x (y ∷ ys) = go (leb x y) (insert-order x ys)
  where
    go : (b : Bool) → Reordered (x ∷ ys) (insert x ys) → Reordered (x ∷ y ∷ ys) (pick b (x ∷ y ∷ ys) (y ∷ insert x ys))
    go true r = Permᴰ.refl (x ∷ y ∷ ys)
    go false r = order_trans (order-swap refl refl) (order-cons refl r)

-- where every other number is no less, it goes to the front
insert-first : (x : ℕ) (ys : List ℕ) → all (leb x) ys ≡ true → insert x ys ≡ x ∷ ys
unfolding insert
insert-first x [] e = refl
insert-first x (y ∷ ys) e = insert-before x y ys (leb-true x y (all_head (leb x) y ys e))

insert-sorted : (lo x : ℕ) (ys : List ℕ) → lo ≤ x → sorted_from lo ys ≡ true → sorted_from lo (insert x ys) ≡ true
unfolding insert sorted_from
insert-sorted lo x [] h o = and_both (leb lo x) true (le-leb lo x h) refl
insert-sorted lo x (y ∷ ys) h o = go (leb x y) refl (λ k. insert-sorted y x ys k (sorted_tail lo y ys o))
  where
    go : (b : Bool) → leb x y ≡ b → (y ≤ x → sorted_from y (insert x ys) ≡ true) → sorted_from lo (pick b (x ∷ y ∷ ys) (y ∷ insert x ys)) ≡ true
    go true e r = and_both (leb lo x) (leb x y && sorted_from y ys) (le-leb lo x h) (and_both (leb x y) (sorted_from y ys) e (sorted_tail lo y ys o))
    go false e r =
        and_both (leb lo y) (sorted_from y (insert x ys)) (and_left (leb lo y) (sorted_from y ys) o) (r (omega (arith, leb-false x y e)))

insert_all : (p : ℕ → Bool) (x : ℕ) (ys : List ℕ) → p x ≡ true → all p ys ≡ true → all p (insert x ys) ≡ true
unfolding insert
insert_all p x [] h e = all_cons p x [] h e
insert_all p x (y ∷ ys) h e = go (leb x y) (insert_all p x ys h (all_tail p y ys e))
  where
    go : (b : Bool) → all p (insert x ys) ≡ true → all p (pick b (x ∷ y ∷ ys) (y ∷ insert x ys)) ≡ true
    go true r = all_cons p x (y ∷ ys) h e
    go false r = all_cons p y (insert x ys) (all_head p y ys e) r

-- ---- the sorted list has the same numbers, in order
pub sorted-reorders : (xs : List ℕ) → Reordered xs (sorted xs)
unfolding sorted
sorted-reorders [] = order-nil
sorted-reorders (x ∷ xs) = order_trans (order-cons refl (sorted-reorders xs)) (insert-order x (sorted xs))

pub sorted-sorts : (xs : List ℕ) → sorted_from 0 (sorted xs) ≡ true
unfolding sorted sorted_from
sorted-sorts [] = refl
sorted-sorts (x ∷ xs) = insert-sorted 0 x (sorted xs) (omega arith) (sorted-sorts xs)

pub length-sorted : (xs : List ℕ) → length (sorted xs) ≡ length xs
length-sorted xs = sym (length-order (sorted-reorders xs))

pub repeated-sorted : (xs : List ℕ) → repeated (sorted xs) ≡ repeated xs
repeated-sorted xs = sym (repeated-order (sorted-reorders xs))

sorted_all : (p : ℕ → Bool) (xs : List ℕ) → all p xs ≡ true → all p (sorted xs) ≡ true
unfolding sorted
sorted_all p [] e = e
sorted_all p (x ∷ xs) e = insert_all p x (sorted xs) (all_head p x xs e) (sorted_all p xs (all_tail p x xs e))

-- ---- no other list does
pub sorted-order : {xs ys : List ℕ} → Reordered xs ys → sorted xs ≡ sorted ys
unfolding sorted
sorted-order r = value-order sorted insert (λ x xs. refl) insert-swap r

-- every number of a list in order is at least its bound
pub sorted-bound : (lo : ℕ) (xs : List ℕ) → sorted_from lo xs ≡ true → all (leb lo) xs ≡ true
unfolding all
sorted-bound lo [] o = refl
sorted-bound lo (x ∷ xs) o =
    let h = sorted_head lo x xs o in
    and_both (leb lo x) (all (leb lo) xs) (le-leb lo x h) (sorted-bound lo xs (sorted-lower lo x xs h (sorted_tail lo x xs o)))

-- a list in order is sorted already
pub sorted-same : (lo : ℕ) (xs : List ℕ) → sorted_from lo xs ≡ true → sorted xs ≡ xs
unfolding sorted
sorted-same lo [] o = refl
sorted-same lo (x ∷ xs) o =
    ap (λ (l : List ℕ). insert x l) (sorted-same x xs (sorted_tail lo x xs o))
    ∙ insert-first x xs (sorted-bound x xs (sorted_tail lo x xs o))

-- two lists in order that have the same numbers are one list
pub sorted-one : {xs ys : List ℕ} → Reordered xs ys → sorted_from 0 xs ≡ true → sorted_from 0 ys ≡ true → xs ≡ ys
sorted-one {xs} {ys} r a b = sym (sorted-same 0 xs a) ∙ sorted-order r ∙ sorted-same 0 ys b

-- a number that no other is less than comes first
pub sorted-least : (x : ℕ) (xs : List ℕ) → all (leb x) xs ≡ true → sorted (x ∷ xs) ≡ x ∷ sorted xs
unfolding sorted
sorted-least x xs e = insert-first x (sorted xs) (sorted_all (leb x) xs e)

-- what is left of a list in order is in order
pub sorted-drop : (lo k : ℕ) (xs : List ℕ) → sorted_from lo xs ≡ true → sorted_from lo (drop k xs) ≡ true
sorted-drop lo zero xs o = o
sorted-drop lo (suc k) [] o = o
sorted-drop lo (suc k) (x ∷ xs) o = sorted-drop lo k xs (sorted-lower lo x xs (sorted_head lo x xs o) (sorted_tail lo x xs o))

-- ---- a number that stands twice in a list in order stands beside itself
elem-above : (x y : ℕ) (ys : List ℕ) → x < y → sorted_from y ys ≡ true → elem x ys ≡ false
unfolding any
elem-above x y [] h o = refl
elem-above x y (z ∷ zs) h o =
    let k = sorted_head y z zs o in
    rw (ne_eqb x z (λ e. omega arith)) (elem-above x z zs (omega arith) (sorted_tail y z zs o))

repeated-beside : (x y : ℕ) (ys : List ℕ) → x ≡ y → repeated (x ∷ y ∷ ys) ≡ true
unfolding repeated any
repeated-beside x y ys e = rw (eq-eqb x y e)

repeated-apart : (x y : ℕ) (ys : List ℕ) → sorted_from 0 (x ∷ y ∷ ys) ≡ true → (x ≡ y → ⊥) → repeated (x ∷ y ∷ ys) ≡ repeated (y ∷ ys)
unfolding repeated any
repeated-apart x y ys o d =
    let t = sorted_tail 0 x (y ∷ ys) o in
    let h = sorted_head x y ys t in
    let l : x < y = le-apart x y h d in
    rw (ne_eqb x y d, elem-above x y ys l (sorted_tail x y ys t))
  where
    le-apart : (a b : ℕ) → a ≤ b → (a ≡ b → ⊥) → a < b
    le-apart a b k n = go (leb (suc a) b) refl
      where
        go : (r : Bool) → leb (suc a) b ≡ r → a < b
        go true e = leb-true (suc a) b e
        go false e = absurd (n (omega (arith, leb-false (suc a) b e)))

-- ---- the neighbours at an index of a list in order
module _ (s : List ℕ) (i : ℕ) where
  neighbours : i + 1 < length s → drop i s ≡ get_or s i 0 ∷ get_or s (i + 1) 0 ∷ drop (suc (i + 1)) s
  neighbours h =
      drop-cons s i 0 (omega arith)
      ∙ ap (λ (k : ℕ). get_or s i 0 ∷ drop k s) (sym (add-one i))
      ∙ ap (λ (l : List ℕ). get_or s i 0 ∷ l) (drop-cons s (i + 1) 0 h)

  pub neighbours-equal : i + 1 < length s → get_or s i 0 ≡ get_or s (i + 1) 0 → repeated (drop i s) ≡ true
  neighbours-equal h e = rw (neighbours h) (repeated-beside (get_or s i 0) (get_or s (i + 1) 0) (drop (suc (i + 1)) s) e)

  pub neighbours-apart : sorted_from 0 s ≡ true → i + 1 < length s → (get_or s i 0 ≡ get_or s (i + 1) 0 → ⊥) → repeated (drop i s) ≡ repeated (drop (i + 1) s)
  neighbours-apart o h d =
      ap repeated (neighbours h)
      ∙ repeated-apart (get_or s i 0) (get_or s (i + 1) 0) (drop (suc (i + 1)) s) (rw (neighbours h) at (sorted-drop 0 i s o)) d
      ∙ ap repeated (sym (drop-cons s (i + 1) 0 h))

  pub neighbours-none : length s ≤ i + 1 → repeated (drop i s) ≡ false
  unfolding repeated any
  neighbours-none h = alone (drop i s) (omega (arith, length-drop i s))
    where
      alone : (l : List ℕ) → length l ≤ 1 → repeated l ≡ false
      alone [] k = refl
      alone (x ∷ []) k = refl
      alone (x ∷ y ∷ l) k = absurd (omega arith)
