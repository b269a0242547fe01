-- Two parts in order become one, a number at a time: a part of h numbers at index n, and the n - h numbers from index h on. What is merged is
-- written from index 0 on. The place that is written never passes the one that is read, so that the second part needs no copy.
-- Assumes nothing.
use Rattle.std.specs.Prelude.{◌≡◌, refl, Bool, true, false, ◌&&◌, List, [], ◌∷◌, ◌++◌, ℕ, suc, ◌+◌, ◌-◌, ◌≤◌, ◌<◌, leb, ltb, length, take, drop, get_or, set}
use Rattle.std.proofs.Common.{sym, ap, ◌∙◌, append_assoc, arith, add-one, length-set, take-append-drop, drop_of_length-le, drop-cons, drop-drop, take-suc-set, drop-set-lt, get_or-drop, get_or-take, ltb-true, ltb-false, le-leb}
use Rattle.std.proofs.Math.Seq.{append_snoc}
use Rattle.std.proofs.lemmas.List.{drop-append-le}
use Rattle.base.specs.Logic.{sorted_from}
use Rattle.base.specs.Laws.{and_left, and_right, and_both, sorted_tail}
use Rattle.base.specs.ListLaws.{middle-order, all_append}
use Rattle.slices.specs.Laws.{length_part, drop-same, get_or-same}
use Rattle.word_sort.specs.Sort.{sorted}
use Rattle.word_sort.specs.Halves.{left, right, Halves}
use Rattle.word_sort.specs.SortLaws.{sorted-order, sorted-least, sorted-bound, sorted-drop, sorted-same}

-- ---- the least of two lists in order is the first of one of them
least-left : (x : ℕ) (xs ys : List ℕ) → sorted_from 0 (x ∷ xs) ≡ true → sorted_from x ys ≡ true → sorted ((x ∷ xs) ++ ys) ≡ x ∷ sorted (xs ++ ys)
least-left x xs ys o p = sorted-least x (xs ++ ys) (all_append (leb x) xs ys (sorted-bound x xs (sorted_tail 0 x xs o)) (sorted-bound x ys p))

least-right : (y : ℕ) (xs ys : List ℕ) → sorted_from y xs ≡ true → sorted_from 0 (y ∷ ys) ≡ true → sorted (xs ++ (y ∷ ys)) ≡ y ∷ sorted (xs ++ ys)
least-right y xs ys o p =
    sym (sorted-order (middle-order y xs ys))
    ∙ sorted-least y (xs ++ ys) (all_append (leb y) xs ys (sorted-bound y xs o) (sorted-bound y ys (sorted_tail 0 y ys p)))

-- a list in order is so from any bound that its first number reaches
sorted-from : (lo x : ℕ) (xs : List ℕ) → lo ≤ x → sorted_from 0 (x ∷ xs) ≡ true → sorted_from lo (x ∷ xs) ≡ true
unfolding sorted_from
sorted-from lo x xs h o = and_both (leb lo x) (sorted_from x xs) (le-leb lo x h) (sorted_tail 0 x xs o)

sorted_none : (lo : ℕ) → sorted_from lo [] ≡ true
unfolding sorted_from
sorted_none lo = refl

-- i numbers of the first part and j of the second are merged: s was t before
pub record Merging (t : List ℕ) (h n : ℕ) (s : List ℕ) (i j : ℕ) : Type 0 where
  pub left_done : i ≤ h
  pub right_done : h + j ≤ n
  pub long : length s ≡ length t
  pub rest : drop (h + j) s ≡ drop (h + j) t
  pub merged : take (i + j) s ++ sorted (drop i (left t h n) ++ drop j (right t h n)) ≡ sorted (left t h n ++ right t h n)

module _ (t : List ℕ) (h n : ℕ) (p : Halves t h n) where
  pub merge-start : Merging t h n t 0 0
  merge-start = record { left_done = omega arith; right_done = omega arith; long = refl; rest = refl; merged = refl }

  -- the next number of each part
  module _ (s : List ℕ) (i j : ℕ) (m : Merging t h n s i j) where
    left-next : i < h → drop i (left t h n) ≡ get_or s (n + i) 0 ∷ drop (suc i) (left t h n)
    left-next k =
        let q : length (left t h n) ≡ h = length_part t n h p.fits in
        let e : get_or (left t h n) i 0 ≡ get_or t (n + i) 0 = get_or-take h (drop n t) i 0 k ∙ get_or-drop n t i 0 in
        let f : get_or t (n + i) 0 ≡ get_or s (n + i) 0 = sym (get_or-same s t (n + i) 0 (drop-same s t (h + j) (n + i) m.rest (omega arith))) in
        drop-cons (left t h n) i 0 (omega arith) ∙ ap (λ (x : ℕ). x ∷ drop (suc i) (left t h n)) (e ∙ f)

    right-next : h + j < n → drop j (right t h n) ≡ get_or s (h + j) 0 ∷ drop (suc j) (right t h n)
    right-next k =
        let q : length (right t h n) ≡ n - h = length_part t h (n - h) (omega arith) in
        let e : get_or (right t h n) j 0 ≡ get_or t (h + j) 0 = get_or-take (n - h) (drop h t) j 0 (omega arith) ∙ get_or-drop h t j 0 in
        let f : get_or t (h + j) 0 ≡ get_or s (h + j) 0 = sym (get_or-same s t (h + j) 0 m.rest) in
        drop-cons (right t h n) j 0 (omega arith) ∙ ap (λ (x : ℕ). x ∷ drop (suc j) (right t h n)) (e ∙ f)

    right_end : n ≤ h + j → drop j (right t h n) ≡ []
    right_end k = drop_of_length-le (right t h n) {i = j} (omega (arith, length_part t h (n - h) (omega arith)))

    -- what is left of the second part where its next number isn't less
    right-above : i < h → (ltb (h + j) n && ltb (get_or s (h + j) 0) (get_or s (n + i) 0)) ≡ false → sorted_from (get_or s (n + i) 0) (drop j (right t h n)) ≡ true
    right-above k e = go (ltb (h + j) n) refl e
      where
        go : (b : Bool) → ltb (h + j) n ≡ b → (b && ltb (get_or s (h + j) 0) (get_or s (n + i) 0)) ≡ false → sorted_from (get_or s (n + i) 0) (drop j (right t h n)) ≡ true
        go true a e =
            let y : ℕ = get_or s (h + j) 0 in
            let l : h + j < n = ltb-true (h + j) n a in
            rw (right-next l) (sorted-from (get_or s (n + i) 0) y (drop (suc j) (right t h n)) (ltb-false y (get_or s (n + i) 0) e) (rw (right-next l) at (sorted-drop 0 j (right t h n) p.right_sorted)))
        go false a e = rw (right_end (ltb-false (h + j) n a)) (sorted_none (get_or s (n + i) 0))

    -- the words behind what is merged of the second part
    rest-split : drop (h + j) t ≡ drop j (right t h n) ++ drop n t
    rest-split =
        let r : length (right t h n) ≡ n - h = length_part t h (n - h) (omega arith) in
        let f : h + (n - h) ≡ n = omega arith in
        sym (drop-drop j h t)
        ∙ ap (λ (l : List ℕ). drop j l) (sym (take-append-drop (n - h) (drop h t)))
        ∙ drop-append-le j (right t h n) (drop (n - h) (drop h t)) (omega arith)
        ∙ ap (λ (l : List ℕ). drop j (right t h n) ++ l) (drop-drop (n - h) h t ∙ ap (λ (k : ℕ). drop k t) f)

    -- the number that is written is the least of those that are left
    written : (x : ℕ) (zs : List ℕ) → i + j < length s → sorted (drop i (left t h n) ++ drop j (right t h n)) ≡ x ∷ zs
        → take (suc (i + j)) (set s (i + j) x) ++ zs ≡ sorted (left t h n ++ right t h n)
    written x zs k e =
        ap (λ (l : List ℕ). l ++ zs) (take-suc-set s (i + j) x k)
        ∙ append_snoc (take (i + j) s) x zs
        ∙ ap (λ (l : List ℕ). take (i + j) s ++ l) (sym e)
        ∙ m.merged

    -- a turn that takes the second part's
    pub turn-right : (r : Bool) → r ≡ (ltb (h + j) n && ltb (get_or s (h + j) 0) (get_or s (n + i) 0)) → i < h → r ≡ true
        → Merging t h n (set s (i + j) (get_or s (h + j) 0)) i (j + 1)
    turn-right r d k g =
        let e = sym d ∙ g in
        let y : ℕ = get_or s (h + j) 0 in
        let x : ℕ = get_or s (n + i) 0 in
        let a : h + j < n = ltb-true (h + j) n (and_left (ltb (h + j) n) (ltb y x) e) in
        let b : y < x = ltb-true y x (and_right (ltb (h + j) n) (ltb y x) e) in
        let xs = drop i (left t h n) in
        let ys = drop (suc j) (right t h n) in
        let o : sorted_from y xs ≡ true =
        rw (left-next k) (sorted-from y x (drop (suc i) (left t h n)) (omega arith) (rw (left-next k) at (sorted-drop 0 i (left t h n) p.left_sorted))) in
        let q : sorted_from 0 (y ∷ ys) ≡ true = rw (right-next a) at (sorted-drop 0 j (right t h n) p.right_sorted) in
        let f : i + (j + 1) ≡ suc (i + j) = omega arith in
        record {
          left_done = omega arith;
          right_done = omega arith;
          long = rw (length-set s (i + j) y) m.long;
          rest = drop-set-lt (h + (j + 1)) s (i + j) y (omega arith) ∙ drop-same s t (h + j) (h + (j + 1)) m.rest (omega arith);
          merged = rw (f, add-one j) (written y (sorted (xs ++ ys)) (omega (arith, m.long)) (rw (right-next a) (least-right y xs ys o q)));
        }

    -- a turn that takes the first part's
    pub turn-left : (r : Bool) → r ≡ (ltb (h + j) n && ltb (get_or s (h + j) 0) (get_or s (n + i) 0)) → i < h → r ≡ false
        → Merging t h n (set s (i + j) (get_or s (n + i) 0)) (i + 1) j
    turn-left r d k g =
        let e = sym d ∙ g in
        let x : ℕ = get_or s (n + i) 0 in
        let xs = drop (suc i) (left t h n) in
        let ys = drop j (right t h n) in
        let o : sorted_from 0 (x ∷ xs) ≡ true = rw (left-next k) at (sorted-drop 0 i (left t h n) p.left_sorted) in
        let f : i + 1 + j ≡ suc (i + j) = omega arith in
        record {
          left_done = omega arith;
          right_done = omega arith;
          long = rw (length-set s (i + j) x) m.long;
          rest = drop-set-lt (h + j) s (i + j) x (omega arith) ∙ m.rest;
          merged = rw (f, add-one i) (written x (sorted (xs ++ ys)) (omega (arith, m.long)) (rw (left-next k) (least-left x xs ys o (right-above k e))));
        }

    -- the first part is through: what is left of the second stands in its place
    pub merge-end : h ≤ i → s ≡ sorted (left t h n ++ right t h n) ++ drop n t
    merge-end k =
        let f : i ≡ h = omega arith in
        let r : length (right t h n) ≡ n - h = length_part t h (n - h) (omega arith) in
        let g : drop (h + j) t ≡ drop j (right t h n) ++ drop n t = rest-split in
        let e : drop h (left t h n) ≡ [] = drop_of_length-le (left t h n) {i = h} (omega (arith, length_part t n h p.fits)) in
        let w : take (h + j) s ++ sorted (drop j (right t h n)) ≡ sorted (left t h n ++ right t h n) = rw (f, e) at m.merged in
        let z : sorted (drop j (right t h n)) ≡ drop j (right t h n) = sorted-same 0 (drop j (right t h n)) (sorted-drop 0 j (right t h n) p.right_sorted) in
        sym (take-append-drop (h + j) s)
        ∙ ap (λ (l : List ℕ). take (h + j) s ++ l) (m.rest ∙ g)
        ∙ sym (append_assoc (take (h + j) s) (drop j (right t h n)) (drop n t))
        ∙ ap (λ (l : List ℕ). l ++ drop n t) (ap (λ (l : List ℕ). take (h + j) s ++ l) (sym z) ∙ w)
