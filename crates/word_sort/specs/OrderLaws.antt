-- What the library's sort leaves is the sorted list: it swaps numbers until they are in order.
-- Assumes nothing.
use Rattle.std.specs.Prelude.{◌≡◌, refl, true, List, [], ◌∷◌, ◌++◌, ℕ, zero, suc, ◌+◌, ◌≤◌, ◌<◌, leb, length, take, drop, get_or, set}
use Rattle.std.specs.List.Sorted.{IsPermutation, IsSorted, IsNonDecreasing}
use Rattle.std.specs.Ordering.{nat_cmp}
use Rattle.std.proofs.Common.{sym, ap, ap₂, ◌∙◌, append-nil, zero-le, arith, le-leb, length-append, length-drop, drop_of_length-le, take_at, take_all, length-take-le}
use Rattle.std.proofs.Math.Seq.{paste}
use Rattle.std.proofs.lemmas.List.{length-replicate}
use Rattle.std.proofs.lemmas.List.Edits.{swap_is}
use Rattle.std.proofs.lemmas.List.Sorted.{IsPermutation-keeps, IsNonDecreasingBy-from_sort}
use mathlib.Core.List.Permᴰ
use mathlib.Core.List.Permᴰ.{cons as order-cons}
use mathlib.Core.List.Permᴰ.{swap as order-swap}
use mathlib.Core.List.Permᴰ.{trans as order_trans}
use mathlib.Core.List.{Permᴰ as Reordered}
use Rattle.base.specs.Logic.{sorted_from, zeros}
use Rattle.base.specs.Laws.{and_both}
use Rattle.word_sort.specs.Sort.{sorted}
use Rattle.word_sort.specs.SortLaws.{sorted-order, sorted-same, length-sorted}

-- ---- a swap reorders
front-swap : (x : ℕ) (xs : List ℕ) (k d : ℕ) → k < length xs → Reordered (x ∷ xs) (get_or xs k d ∷ set xs k x)
front-swap x [] k d l = absurd (omega arith)
front-swap x (y ∷ ys) zero d l = order-swap refl refl
front-swap x (y ∷ ys) (suc k) d l =
    order_trans (order-swap refl refl) (order_trans (order-cons refl (front-swap x ys k d (omega arith))) (order-swap refl refl))

swap-reorders : (xs : List ℕ) (i j d : ℕ) → i < length xs → j < length xs → Reordered xs (set (set xs i (get_or xs j d)) j (get_or xs i d))
swap-reorders [] i j d l m = absurd (omega arith)
swap-reorders (x ∷ xs) zero zero d l m = Permᴰ.refl (x ∷ xs)
swap-reorders (x ∷ xs) zero (suc j) d l m = front-swap x xs j d (omega arith)
swap-reorders (x ∷ xs) (suc i) zero d l m = front-swap x xs i d (omega arith)
swap-reorders (x ∷ xs) (suc i) (suc j) d l m = order-cons refl (swap-reorders xs i j d (omega arith) (omega arith))

pub swaps-reorder : (xs ys : List ℕ) → IsPermutation xs ys → Reordered xs ys
swaps-reorder xs ys p =
    IsPermutation-keeps xs (λ (l : List ℕ). Reordered xs l) (Permᴰ.refl xs)
    (λ l i j a b r. order_trans r (rw (← swap_is l i j 0 a b) (swap-reorders l i j 0 a b))) ys p

-- ---- numbers that do not fall are in order
pub in-order : (lo : ℕ) (xs : List ℕ) → ((k : ℕ) → k < length xs → lo ≤ get_or xs k 0) → IsNonDecreasing xs → sorted_from lo xs ≡ true
unfolding sorted_from
in-order lo [] low up = refl
in-order lo (x ∷ xs) low up =
    and_both (leb lo x) (sorted_from x xs) (le-leb lo x (low 0 (omega arith)))
    (in-order x xs (λ k l. up 0 (suc k) 0 zero-le (omega arith)) (λ i j d a b. up (suc i) (suc j) d (omega arith) (omega arith)))

-- ---- so what was sorted is the sorted list
pub sorted_is : (xs ys : List ℕ) → IsPermutation xs ys → IsSorted nat_cmp ys → ys ≡ sorted xs
sorted_is xs ys p o =
    sym (sorted-order (swaps-reorder xs ys p) ∙ sorted-same 0 ys (in-order 0 ys (λ k l. zero-le) (IsNonDecreasingBy-from_sort (λ x. x) ys o)))

-- in the front half of a list, with zeros behind it
pub sorted-zeroed : (t u v : List ℕ) (n : ℕ) → length t ≡ n + n → IsPermutation (take n t) u → IsSorted nat_cmp u
    → v ≡ paste (u ++ drop n t) n (zeros n) n → v ≡ sorted (take n t) ++ zeros n
sorted-zeroed t u v n h p o e =
    let q : u ≡ sorted (take n t) = sorted_is (take n t) u p o in
    let l : length u ≡ n = ap (λ (xs : List ℕ). length xs) q ∙ length-sorted (take n t) ∙ length-take-le n t (omega arith) in
    let d : drop (n + n) (u ++ drop n t) ≡ [] = drop_of_length-le (u ++ drop n t) {i = n + n} (simp (length-append, length-drop) (omega arith)) in
    e
    ∙ ap₂ (λ (a b : List ℕ). (a ++ take n (zeros n)) ++ b) (take_at u (drop n t) n l ∙ q) d
    ∙ append-nil (sorted (take n t) ++ take n (zeros n))
    ∙ ap (λ (a : List ℕ). sorted (take n t) ++ a) (take_all n (zeros n) (omega (arith, length-replicate {A = ℕ} n 0)))
