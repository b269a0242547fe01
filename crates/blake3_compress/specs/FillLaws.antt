-- Arrays that a loop fills.
-- Assumes nothing.
use Rattle.std.specs.Prelude.{◌≡◌, ℕ, zero, suc, ◌+◌, ◌≤◌, List, [], ◌∷◌, ◌++◌, map, length, take, drop, slice_set, refl}
use Rattle.std.proofs.Common.{sym, ap, ◌∙◌, zero-add, add-one, arith, append_assoc, append-nil, take_all, drop-cons}
use Rattle.std.proofs.lemmas.List.{length-map, map-append, set_at}
use Rattle.base.specs.Logic.{from, zeros}
use Rattle.base.specs.ListLaws.{length_from, from-append}
use Rattle.blake3_compress.specs.Spec.{at}

-- the first k items are what f gives
unfoldable pub filled : (ℕ → ℕ) → ℕ → List ℕ → List ℕ
filled f zero t = t
filled f (suc k) t = slice_set (filled f k t) k (f k)

pub filled_more : (f : ℕ → ℕ) (k : ℕ) (z : List ℕ) {t : List ℕ} {x : ℕ} → t ≡ filled f k z → x ≡ f k → slice_set t k x ≡ filled f (k + 1) z
unfolding filled
filled_more f k z p q = rw add-one (cc)

-- n items from place i, one by one
pub items : (xs : List ℕ) (i n : ℕ) → i + n ≤ length xs → map (at xs) (from i n) ≡ take n (drop i xs)
unfolding from
items xs i zero h = refl
items xs i (suc n) h =
    rw (drop-cons xs i 0 (omega arith)) (ap (λ (t : List ℕ). at xs i ∷ t) (items xs (suc i) n (omega arith)))

-- eight words, one by one
pub eight : (ws : List ℕ) → length ws ≡ 8 → map (at ws) (from 0 8) ≡ ws
eight ws h = items ws 0 8 (omega arith) ∙ take_all 8 ws (omega arith)

-- the first k of k + m zeros, filled
filled-part : (f : ℕ → ℕ) (k m : ℕ) → filled f k (zeros (k + m)) ≡ map f (from 0 k) ++ zeros m
unfolding filled from
filled-part f zero m = ap zeros (zero-add m)
filled-part f (suc k) m =
    let p = map f (from 0 k) in
    let e : suc k + m ≡ k + suc m = omega arith in
    let n : length p ≡ k = length-map (from 0 k) f ∙ length_from 0 k in
    let s : from 0 (suc k) ≡ from 0 k ++ from (0 + k) 1 = ap (from 0) (sym (add-one k)) ∙ from-append 0 k 1 in
    let w : map f (from 0 (suc k)) ≡ p ++ f k ∷ [] = ap (map f) (s ∙ ap (λ (j : ℕ). from 0 k ++ j ∷ []) (zero-add k)) ∙ map-append f (from 0 k) (k ∷ []) in
    ap (λ (j : ℕ). slice_set (filled f k (zeros j)) k (f k)) e
    ∙ ap (λ (t : List ℕ). slice_set t k (f k)) (filled-part f k (suc m))
    ∙ set_at p 0 (zeros m) (f k) k n
    ∙ sym (append_assoc p (f k ∷ []) (zeros m))
    ∙ ap (λ (u : List ℕ). u ++ zeros m) (sym w)

-- n zeros, all filled
pub filled-all : (f : ℕ → ℕ) (k n : ℕ) {t : List ℕ} → k ≡ n → t ≡ filled f k (zeros n) → t ≡ map f (from 0 n)
filled-all f k n {t} p e =
    let z : n ≡ n + 0 = omega arith in
    e ∙ ap (λ (j : ℕ). filled f j (zeros n)) p ∙ ap (λ (j : ℕ). filled f n (zeros j)) z ∙ filled-part f n 0 ∙ append-nil _
