-- A lent table of words: rows of one width at its front, then zeros. It is a function of its rows and of its own length.
-- Assumes nothing.
use Rattle.std.specs.Prelude.{◌≡◌, ℕ, zero, suc, ◌-◌, ◌*◌, ◌≤◌, Bool, ◌&&◌, List, [], ◌∷◌, ◌++◌, length, drop, leb}
use Rattle.base.specs.Logic.{flat, zeros, all_zero}

-- the coding of a row: how many words it has, which, and the row that the first words of a list spell
pub record Coding (E : Type 0) : Type 0 where
  pub width : ℕ
  pub enc : E → List ℕ
  pub dec : List ℕ → E

module _ {E : Type 0} (c : Coding E) where
  -- the first n rows of a table
  unfoldable pub rows_of : ℕ → List ℕ → List E
  rows_of zero t = []
  rows_of (suc n) t = c.dec t ∷ rows_of n (drop c.width t)

  -- the canonical table of len words: the rows, then zeros
  unfoldable pub table_of : ℕ → List E → List ℕ
  table_of len es = flat c.enc es ++ zeros (len - length es * c.width)

-- the table has room for n rows of w words, and nothing but zeros stands behind them
unfoldable pub holds_rows : ℕ → ℕ → List ℕ → Bool
holds_rows w n t = leb (n * w) (length t) && all_zero (drop (n * w) t)

-- the same as facts
pub record Laid (w n : ℕ) (t : List ℕ) : Type 0 where
  pub fits : n * w ≤ length t
  pub rest : drop (n * w) t ≡ zeros (length t - n * w)
