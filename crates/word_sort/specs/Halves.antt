-- Two parts of a slice, each in order, that are to become one.
-- Assumes nothing.
use Rattle.std.specs.Prelude.{◌≡◌, true, List, ℕ, ◌+◌, ◌-◌, ◌≤◌, length, take, drop}
use Rattle.base.specs.Logic.{sorted_from}

-- the h numbers from index n on
abbrev pub left : List ℕ → ℕ → ℕ → List ℕ
left s h n = take h (drop n s)

-- the n - h numbers from index h on
abbrev pub right : List ℕ → ℕ → ℕ → List ℕ
right s h n = take (n - h) (drop h s)

-- both stand in the list, each in order
pub record Halves (s : List ℕ) (h n : ℕ) : Type 0 where
  pub half : h ≤ n
  pub fits : n + h ≤ length s
  pub left_sorted : sorted_from 0 (left s h n) ≡ true
  pub right_sorted : sorted_from 0 (right s h n) ≡ true
