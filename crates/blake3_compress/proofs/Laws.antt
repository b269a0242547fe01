-- Laws that the proofs cite.
-- Assumes nothing.
use Rattle.std.proofs.Common.{◌≡◌, ℕ, zero, suc, ◌+◌, ◌/◌, ◌%◌, ◌^◌, ◌<◌, Bool, true, ◌&&◌, eqb, ltb, List, [], ◌∷◌, ◌++◌, map, length, get_or, set, sym, refl, ap, ◌∙◌, arith, ltb-true, eqb-true}
use lib.Bits.{bit_xor}
use Rattle.base.specs.Logic.{all, from, fold, zeros}
use Rattle.base.specs.Laws.{and_left, and_right}
use Rattle.blake3_compress.specs.Spec.{at, wrap_add, rotr, mix, g, columns, diagonals, round, schedule, scheduled, rounds, iv, start, compress}
use Rattle.blake3_compress.specs.FillLaws.{filled, filled_more, eight}

-- ---- rounds

-- the four stores of half a quarter round
pub four-stores : (a b c d x n k : ℕ) (v : List ℕ) {s sx rd sc rb : ℕ}
    → s ≡ wrap_add (at v a) (at v b) → sx ≡ wrap_add s x
    → (let va = set v a sx in rd ≡ rotr (bit_xor (at va d) (at va a)) n)
    → (let vd = set (set v a sx) d rd in sc ≡ wrap_add (at vd c) (at vd d))
    → (let vc = set (set (set v a sx) d rd) c sc in rb ≡ rotr (bit_xor (at vc b) (at vc c)) k)
    → set (set (set (set v a sx) d rd) c sc) b rb ≡ mix a b c d x n k v
unfolding mix
four-stores a b c d x n k v p q r s t = cc

-- the two halves of a quarter round
pub two-halves : (a b c d x y : ℕ) (v : List ℕ) {u w : List ℕ} → u ≡ mix a b c d x 16 12 v → w ≡ mix a b c d y 8 7 u → w ≡ g a b c d x y v
unfolding g
two-halves a b c d x y v p q = q ∙ ap (mix a b c d y 8 7) p

-- the four quarter rounds of half a round
pub four-columns : (w : ℕ → ℕ) (v : List ℕ) {w0 w1 w2 w3 w4 w5 w6 w7 : ℕ} {v0 v1 v2 v3 : List ℕ}
    → w0 ≡ w 0 → w1 ≡ w 1 → v0 ≡ g 0 4 8 12 w0 w1 v
    → w2 ≡ w 2 → w3 ≡ w 3 → v1 ≡ g 1 5 9 13 w2 w3 v0
    → w4 ≡ w 4 → w5 ≡ w 5 → v2 ≡ g 2 6 10 14 w4 w5 v1
    → w6 ≡ w 6 → w7 ≡ w 7 → v3 ≡ g 3 7 11 15 w6 w7 v2
    → v3 ≡ columns w v
unfolding columns
four-columns w v a b p c d q e f r h i s = cc

pub four-diagonals : (w : ℕ → ℕ) (v : List ℕ) {w0 w1 w2 w3 w4 w5 w6 w7 : ℕ} {v0 v1 v2 v3 : List ℕ}
    → w0 ≡ w 8 → w1 ≡ w 9 → v0 ≡ g 0 5 10 15 w0 w1 v
    → w2 ≡ w 10 → w3 ≡ w 11 → v1 ≡ g 1 6 11 12 w2 w3 v0
    → w4 ≡ w 12 → w5 ≡ w 13 → v2 ≡ g 2 7 8 13 w4 w5 v1
    → w6 ≡ w 14 → w7 ≡ w 15 → v3 ≡ g 3 4 9 14 w6 w7 v2
    → v3 ≡ diagonals w v
unfolding diagonals
four-diagonals w v a b p c d q e f r h i s = cc

-- the halves of the seven rounds, one after the other
pub seven-rounds : (m v : List ℕ) {a0 b0 a1 b1 a2 b2 a3 b3 a4 b4 a5 b5 a6 b6 : List ℕ}
    → a0 ≡ columns (scheduled m 0) v → b0 ≡ diagonals (scheduled m 0) a0
    → a1 ≡ columns (scheduled m 1) b0 → b1 ≡ diagonals (scheduled m 1) a1
    → a2 ≡ columns (scheduled m 2) b1 → b2 ≡ diagonals (scheduled m 2) a2
    → a3 ≡ columns (scheduled m 3) b2 → b3 ≡ diagonals (scheduled m 3) a3
    → a4 ≡ columns (scheduled m 4) b3 → b4 ≡ diagonals (scheduled m 4) a4
    → a5 ≡ columns (scheduled m 5) b4 → b5 ≡ diagonals (scheduled m 5) a5
    → a6 ≡ columns (scheduled m 6) b5 → b6 ≡ diagonals (scheduled m 6) a6
    → b6 ≡ rounds m v
unfolding rounds fold from round
seven-rounds m v c0 d0 c1 d1 c2 d2 c3 d3 c4 d4 c5 d5 c6 d6 = cc

-- each entry of the schedule is the place of a word: one computed test
below : (b : ℕ) (xs : List ℕ) → all (λ x. ltb x b) xs ≡ true → (i : ℕ) → i < length xs → get_or xs i 0 < b
unfolding all
below b [] e i h = absurd (omega arith)
below b (x ∷ xs) e zero h = ltb-true x b (and_left (ltb x b) (all (λ y. ltb y b) xs) e)
below b (x ∷ xs) e (suc i) h = below b xs (and_right (ltb x b) (all (λ y. ltb y b) xs) e) i (omega arith)

row : (rows : List (List ℕ)) (p : List ℕ → Bool) → all p rows ≡ true → (r : ℕ) → r < length rows → p (get_or rows r []) ≡ true
unfolding all
row [] p e r h = absurd (omega arith)
row (x ∷ xs) p e zero h = and_left (p x) (all p xs) e
row (x ∷ xs) p e (suc r) h = row xs p (and_right (p x) (all p xs) e) r (omega arith)

-- the rows are of sixteen entries, each below 16
fits : List ℕ → Bool
fits xs = eqb (length xs) 16 && all (λ x. ltb x 16) xs

pub entry : {t : List (List ℕ)} → t ≡ schedule → (r i : ℕ) → r < 7 → i < 16 → get_or (get_or t r []) i 0 < 16
unfolding schedule fits all
entry {t} e r i p q =
    let w = row schedule fits refl r p in
    let xs = get_or schedule r [] in
    let n = eqb-true (length xs) 16 (and_left (eqb (length xs) 16) (all (λ x. ltb x 16) xs) w) in
    rw e (below 16 xs (and_right (eqb (length xs) 16) (all (λ x. ltb x 16) xs) w) i (omega arith))

-- ---- compression

pub start-stored : (cv : List ℕ) (counter len flags : ℕ) {v : List ℕ} → length cv ≡ 8 → v ≡ cv ++ iv
    → set (set (set (set v 12 (counter % 2 ^ 32)) 13 (counter / 2 ^ 32)) 14 len) 15 flags ≡ start cv counter len flags
unfolding start iv from
start-stored cv counter len flags h e =
    let w = eight cv h in
    ap (λ (v : List ℕ). set (set (set (set v 12 (counter % 2 ^ 32)) 13 (counter / 2 ^ 32)) 14 len) 15 flags) (e ∙ ap (λ (u : List ℕ). u ++ iv) (sym w))
    ∙ ap (λ (u : List ℕ). start u counter len flags) w

-- the word at i of a state's first half, xor that of its second
unfoldable pub halves : List ℕ → ℕ → ℕ
halves v i = bit_xor (at v i) (at v (i + 8))

pub halves-more : (v : List ℕ) (k : ℕ) {t : List ℕ} → t ≡ filled (halves v) k (zeros 8)
    → set t k (bit_xor (at v k) (at v (k + 8))) ≡ filled (halves v) (k + 1) (zeros 8)
unfolding halves
halves-more v k e = filled_more (halves v) k (zeros 8) e refl

pub compressed : (cv m : List ℕ) (counter len flags : ℕ) {s v r : List ℕ} → s ≡ start cv counter len flags → v ≡ rounds m s
    → r ≡ map (halves v) (from 0 8) → r ≡ compress cv m counter len flags
unfolding compress halves
compressed cv m counter len flags p q e = e ∙ ap (λ (v : List ℕ). map (halves v) (from 0 8)) (q ∙ ap (rounds m) p)
