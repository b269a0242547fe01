-- The library's bytes of a number are its digits to the base 256, and what it reads from bytes is the number that they spell.
-- Assumes nothing.
use Rattle.std.specs.Prelude.{◌≡◌, refl, List, [], ◌∷◌, ◌++◌, ℕ, ◌+◌, ◌-◌, ◌≤◌, length, get_or, take, drop}
use Rattle.std.specs.Int.{to_le_bytes, to_be_bytes, from_le_bytes, from_be_bytes, w16, w32, w64}
use Rattle.std.specs.Array.{IsWholeChunk}
use Rattle.std.proofs.Common.{ap, ◌∙◌, arith}
use Rattle.std.proofs.Math.Nat.{div-div-eq-div-mul}
use Rattle.std.proofs.Math.Seq.{paste}
use Rattle.base.specs.Bytes.{digits, number, le16, le32, le64, be64, unle, unbe}
use Rattle.slices.specs.Laws.{part-split, paste-lent}
use Rattle.slices.specs.NumberLaws.{part-two}

-- ---- bytes that are written

pub le-two : (x : ℕ) → to_le_bytes w16 x ≡ le16 x
unfolding digits
le-two x = refl

pub le-four : (x : ℕ) → to_le_bytes w32 x ≡ le32 x
unfolding digits
le-four x = simp div-div-eq-div-mul

pub le-eight : (x : ℕ) → to_le_bytes w64 x ≡ le64 x
unfolding digits
le-eight x = simp div-div-eq-div-mul

pub be-eight : (x : ℕ) → to_be_bytes w64 x ≡ be64 x
unfolding digits
be-eight x = simp div-div-eq-div-mul

-- a part of a list up to e is put back as other items
pub put-back : (t xs ys : List ℕ) (at e n : ℕ) → e - at ≡ n → xs ≡ ys → length ys ≡ n → take at t ++ (xs ++ drop (e - at) (drop at t)) ≡ paste t at ys n
put-back t xs ys at e n p q l = rw (p, q) (paste-lent t at ys n l)

-- ---- bytes that are read

-- the part from `at` up to e, as an array of n bytes
pub part-whole : (s bs : List ℕ) (at e n : ℕ) → e - at ≡ n → IsWholeChunk (take (e - at) (drop at s)) bs n → bs ≡ take n (drop at s)
part-whole s bs at e n p w = w.same ∙ ap (λ (k : ℕ). take k (drop at s)) p

module _ (s : List ℕ) (at : ℕ) where
  pub unle-two : at + 2 ≤ length s → from_le_bytes w16 (take 2 (drop at s)) ≡ unle (take 2 (drop at s))
  unfolding number
  unle-two h = rw (part-two s at h) (omega arith)

  part-four : at + 4 ≤ length s → take 4 (drop at s) ≡ get_or s at 0 ∷ get_or s (at + 1) 0 ∷ get_or s (at + 2) 0 ∷ get_or s (at + 3) 0 ∷ []
  part-four h =
      let e : at + 2 + 1 ≡ at + 3 = omega arith in
      rw (part-split s at 2 2, part-two s at (omega arith), part-two s (at + 2) (omega arith), e)

  pub unle-four : at + 4 ≤ length s → from_le_bytes w32 (take 4 (drop at s)) ≡ unle (take 4 (drop at s))
  unfolding number
  unle-four h = rw (part-four h) (omega arith)

module _ (s : List ℕ) (at : ℕ) (h : at + 8 ≤ length s) where
  part-eight : take 8 (drop at s) ≡ get_or s at 0 ∷ get_or s (at + 1) 0 ∷ get_or s (at + 2) 0 ∷ get_or s (at + 3) 0 ∷ get_or s (at + 4) 0 ∷ get_or s (at + 5) 0 ∷ get_or s (at + 6) 0 ∷ get_or s (at + 7) 0 ∷ []
  part-eight =
      let e : at + 4 + 1 ≡ at + 5 = omega arith in
      let f : at + 4 + 2 ≡ at + 6 = omega arith in
      let g : at + 4 + 3 ≡ at + 7 = omega arith in
      rw (part-split s at 4 4, part-four s at (omega arith), part-four s (at + 4) (omega arith), e, f, g)

  pub unle-eight : from_le_bytes w64 (take 8 (drop at s)) ≡ unle (take 8 (drop at s))
  unfolding number
  unle-eight = rw part-eight (omega arith)

  pub unbe-eight : from_be_bytes w64 (take 8 (drop at s)) ≡ unbe (take 8 (drop at s))
  unfolding number
  unbe-eight = rw part-eight (omega arith)
