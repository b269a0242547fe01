-- The keys of a table's rows, and the place of a key among them.
-- Assumes nothing.
use Rattle.std.specs.Prelude.{ℕ, zero, suc, ◌^◌, List, [], ◌∷◌, get_or, drop, ltb}
use Rattle.base.specs.Logic.{pick}
use Rattle.base.specs.Bytes.{number}

-- the key of a row of words: its first word, or its first four as one number, the highest word first
abbrev pub first_word : List ℕ → ℕ
first_word t = get_or t 0 0

unfoldable pub first_four : List ℕ → ℕ
first_four t = number (2 ^ 64) (get_or t 3 0 ∷ get_or t 2 0 ∷ get_or t 1 0 ∷ get_or t 0 0 ∷ [])

-- the keys of the first n rows of w words
unfoldable pub keys : (List ℕ → ℕ) → ℕ → ℕ → List ℕ → List ℕ
keys key w zero t = []
keys key w (suc n) t = key t ∷ keys key w n (drop w t)

-- how many keys stand before the first that is not below i
unfoldable pub place : ℕ → List ℕ → ℕ
place i [] = 0
place i (k ∷ ks) = pick (ltb k i) (suc (place i ks)) 0
