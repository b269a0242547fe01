-- A row that a search may not find.
-- Assumes nothing.
use Rattle.std.specs.Prelude.{ℕ, cond, ltb, Option, Some, None}

-- row k of n rows, or none where they end before it
abbrev pub row_in : ℕ → ℕ → Option ℕ
row_in n k = cond (ltb k n) (Some k) None
