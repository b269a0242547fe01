-- Lists of bytes: their parts, the other way round, and the numbers that they spell.
-- Assumes nothing.
use Rattle.std.specs.Prelude.{◌≡◌, refl, Bool, true, ℕ, ◌+◌, ◌^◌, ◌≤◌, ◌<◌, length, take, drop, get_or, ltb}
use mathlib.Core.List.{List, [], ◌∷◌, reverse, reverse-cons}
use Rattle.std.proofs.lemmas.List.{length-reverse}
use Rattle.std.proofs.Common.{get_or-drop, length-take-le}
use Rattle.base.specs.Logic.{all}
use Rattle.base.specs.Bytes.{unle, unbe}
use Rattle.base.specs.Laws.{and_left, and_right}
use Rattle.base.specs.ListLaws.{all_append, all_take, all_drop}
use Rattle.base.specs.SumLaws.{all_one}
use Rattle.base.specs.NumberLaws.{number-below}
use Rattle.slices.specs.Laws.{length_part}
use Rattle.slices.specs.NumberLaws.{all-below}

-- what passes for each passes for each the other way round
pub all-reverse : {A : Type 0} (p : A → Bool) (xs : List A) → all p xs ≡ true → all p (reverse xs) ≡ true
unfolding all
all-reverse p [] e = refl
all-reverse p (x ∷ xs) e = rw (reverse-cons x xs) (all_append p (reverse xs) (x ∷ []) (all-reverse p xs (and_right (p x) (all p xs) e)) (all_one p x (and_left (p x) (all p xs) e)))

-- each is a byte, as of a lent slice
abbrev pub U8 : List ℕ → Type 0
U8 s = (i : ℕ) → get_or s i 0 < 256

pub u8-drop : (n : ℕ) (s : List ℕ) → U8 s → U8 (drop n s)
u8-drop n s u i = rw (get_or-drop n s i 0) (u (n + i))

-- the same as a test, of all and of a part
pub u8-bytes : (s : List ℕ) → U8 s → all (λ b. ltb b 256) s ≡ true
u8-bytes s u = all-below 256 s (λ i l. u i)

pub u8-part : (at k : ℕ) (s : List ℕ) → U8 s → all (λ b. ltb b 256) (take k (drop at s)) ≡ true
u8-part at k s u = all_take (λ b. ltb b 256) k (drop at s) (all_drop (λ b. ltb b 256) at s (u8-bytes s u))

-- the number that k bytes spell is below 256 ^ k, and so is a hash's
pub part-below : (at k : ℕ) (s : List ℕ) → U8 s → at + k ≤ length s → unle (take k (drop at s)) < 256 ^ k
part-below at k s u h = rw (length_part s at k h) at (number-below 256 (take k (drop at s)) (u8-part at k s u))

pub hash-below : (s : List ℕ) → U8 s → 32 ≤ length s → unbe (take 32 s) < 256 ^ 32
hash-below s u h =
    rw (length-reverse (take 32 s), length-take-le 32 s h) at (number-below 256 (reverse (take 32 s)) (all-reverse (λ x. ltb x 256) (take 32 s) (u8-part 0 32 s u)))
