-- Items as a record has them: what is read of bytes is written as it stood; and bytes laid end to end.
-- Assumes nothing.
use Rattle.std.specs.Prelude.{◌≡◌, refl, false, ℕ, zero, suc, ◌+◌, ◌*◌, ◌≤◌, length, take, drop, ltb}
use Rattle.std.proofs.Common.{sym, ◌∙◌, mul-suc, arith, length-append, length-drop, ltb-false}
use Rattle.std.proofs.Math.Path.{ap}
use mathlib.Core.List.{List, [], ◌∷◌, ◌++◌, append_assoc, reverse, reverse-reverse}
use Rattle.std.proofs.lemmas.List.{length-reverse}
use Rattle.std.proofs.Math.Seq.{paste, take-add, take-length}
use Rattle.std.proofs.lemmas.List.Edits.{length-paste}
use Rattle.base.specs.Logic.{any, flat, sum_of, overlay}
use Rattle.base.specs.Bytes.{digits, number}
use Rattle.base.specs.Laws.{digits_number}
use Rattle.base.specs.ListLaws.{or-false}
use Rattle.slices.specs.Laws.{length_part, paste-append, paste-prepend, paste-start, part-paste}
use Rattle.slices.specs.NumberLaws.{digits-unle}
use Rattle.cell_nursery.specs.Entries.{Entry, cell_bytes, hash_bytes, insert_bytes}
use Rattle.cell_nursery.proofs.ItemLaws as items
use Rattle.cell_nursery.proofs.ItemLaws.{length-inserts}
use Rattle.slices.specs.ByteLaws.{all-reverse, U8, u8-drop, u8-part}
use Rattle.delta_items.specs.Walk.{hash_in, cell_len, cell_in, insert_in, insert_len, inserts_in, long_cell, hashes_in}
use Rattle.delta_items.specs.WalkLaws.{cell-length}
use Rattle.delta_items.specs.WalkLaws.{length-inserts as counted}
use Rattle.record_write.specs.Laid.{laid_at}

-- ---- items

pub hash-bytes : (bs : List ℕ) → U8 bs → 32 ≤ length bs → hash_bytes (hash_in bs) ≡ take 32 bs
hash-bytes bs b h =
    let x : List ℕ = take 32 bs in
    let l : length (reverse x) ≡ 32 = length-reverse x ∙ length_part bs 0 32 (omega arith) in
    let d : digits 256 (length (reverse x)) (number 256 (reverse x)) ≡ reverse x = digits_number 256 (reverse x) (all-reverse (λ y. ltb y 256) x (u8-part 0 32 bs b)) in
    let e : digits 256 32 (number 256 (reverse x)) ≡ reverse x = ap (λ (k : ℕ). digits 256 k (number 256 (reverse x))) (sym l) ∙ d in
    ap reverse e ∙ reverse-reverse x

pub hashes-bytes : (m : ℕ) (bs : List ℕ) → U8 bs → 32 * m ≤ length bs → flat hash_bytes (hashes_in m bs) ≡ take (32 * m) bs
unfolding flat hashes_in
hashes-bytes zero bs b h = refl
hashes-bytes (suc m) bs b h =
    let s = mul-suc 32 m in
    let l = length-drop 32 bs in
    let e : 32 * suc m ≡ 32 + 32 * m = omega arith in
    rw (e, hash-bytes bs b (omega arith), hashes-bytes m (drop 32 bs) (u8-drop 32 bs b) (omega arith), take-add 32 (32 * m) bs)

module _ (w : ℕ) (bs : List ℕ) (whole : insert_len w bs ≤ length bs) where
  pub insert-bytes : U8 bs → insert_bytes (insert_in w bs) ≡ take 44 bs ++ (digits 256 2 (cell_len w bs) ++ cell_in w bs)
  unfolding insert_bytes insert_in
  insert-bytes b =
      rw (
        hash-bytes bs b (omega arith),
        digits-unle bs 32 8 (omega arith) b,
        digits-unle bs 40 4 (omega arith) b,
        cell-length w bs whole,
        ← take-add 32 8 bs,
        ← take-add 40 4 bs,
        append_assoc (take 44 bs) (digits 256 2 (cell_len w bs)) (cell_in w bs),
      )

  pub length-insert : length (insert_bytes (insert_in w bs)) ≡ 46 + cell_len w bs
  unfolding insert_in
  length-insert = items.length-insert (insert_in w bs) ∙ ap (λ (k : ℕ). 46 + k) (cell-length w bs whole)

pub length-insert-list : (w n : ℕ) (bs : List ℕ) → length (flat insert_bytes (inserts_in w n bs)) ≡ 46 * n + cell_bytes (inserts_in w n bs)
length-insert-list w n bs = length-inserts (inserts_in w n bs) ∙ ap (λ (k : ℕ). 46 * k + cell_bytes (inserts_in w n bs)) (counted w n bs)

-- cells that are each within the limit
pub few-cells : (es : List Entry) → long_cell es ≡ false → cell_bytes es ≤ 65535 * length es
unfolding any cell_bytes sum_of
few-cells [] e = omega arith
few-cells (x ∷ es) e =
    let p = or-false (ltb 65535 (length x.cell)) (long_cell es) e in
    omega (arith, ltb-false 65535 (length x.cell) p.0, few-cells es p.1, mul-suc 65535 (length es))

-- ---- bytes laid end to end

pub length-laid : (t : List ℕ) (at : ℕ) (x : List ℕ) → at + length x ≤ length t → length (laid_at t at x) ≡ length t
length-laid t at x h = length-paste t at x (length x) h (omega arith)

pub laid-append : (t : List ℕ) (at : ℕ) (x y : List ℕ) (m : ℕ) → length x ≡ m → at ≤ length t → laid_at (laid_at t at x) (at + m) y ≡ laid_at t at (x ++ y)
laid-append t at x y m e h = rw (← e) (paste-append t at x y (length x) (length y) refl refl h ∙ rw (length-append x y))

-- three of them
pub laid-three : (t : List ℕ) (at : ℕ) (x y z : List ℕ) (j k : ℕ) → length x ≡ j → length y ≡ k → at + (j + k) ≤ length t
    → laid_at (laid_at (laid_at t at x) (at + j) y) (at + j + k) z ≡ laid_at t at (x ++ (y ++ z))
laid-three t at x y z j k p q h =
    let l = length-laid t at x (omega arith) in
    laid-append (laid_at t at x) (at + j) y z k q (omega arith) ∙ laid-append t at x (y ++ z) j p (omega arith)

-- 32 bytes laid before others, and what stands behind them
pub laid-front : (t x y : List ℕ) → length x ≡ 32 → 32 ≤ length t → laid_at (laid_at t 32 y) 0 x ≡ overlay (x ++ y) t
laid-front t x y e h =
    ap (λ (k : ℕ). paste (laid_at t 32 y) 0 x k) e
    ∙ paste-prepend t 0 x y 32 (length y) e refl (omega arith)
    ∙ paste-start t (x ++ y) (32 + length y) (rw (length-append x y, e))

pub laid-part : (t : List ℕ) (at : ℕ) (x : List ℕ) (k : ℕ) → length x ≡ k → at ≤ length t → take k (drop at (laid_at t at x)) ≡ x
laid-part t at x k e h = rw (← e) (part-paste t at x (length x) h (omega arith) ∙ take-length x)
