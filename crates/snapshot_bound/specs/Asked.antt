-- What the program that writes the longest snapshot makes of its standard input.
-- Assumes nothing.
use Rattle.std.specs.Prelude.{ℕ, ◌+◌, ◌-◌, ◌*◌, Bool, ◌&&◌, List, [], ◌∷◌, length, leb, eqb}
use Rattle.std.proofs.Math.Option.{Option, none, some}
use Rattle.base.specs.Logic.{pick, all}
use Rattle.base.specs.Maybe.{◌>>◌, ensure, maybe}
use Rattle.snapshot.specs.Write.{snapshot_bytes}
use Rattle.snapshot_bound.specs.Bound.{worst}

-- a decimal digit, 0 to 9
abbrev pub digit : ℕ → Bool
digit b = leb 48 b && leb b 57

-- the bytes without a line feed at their end
unfoldable pub unended : List ℕ → List ℕ
unended [] = []
unended (b ∷ []) = pick (eqb b 10) [] (b ∷ [])
unended (b ∷ c ∷ bs) = b ∷ unended (c ∷ bs)

-- the number that digits spell behind those of n
unfoldable pub decimal : ℕ → List ℕ → ℕ
decimal n [] = n
decimal n (b ∷ bs) = decimal (10 * n + (b - 48)) bs

-- the most stored counts that may be asked for
abbrev pub most : ℕ
most = 200

-- the number that bytes spell behind the digits of n, where all are digits and it is not too large
unfoldable pub spelled : ℕ → List ℕ → Option ℕ
spelled n bs = ensure (all digit bs && leb (decimal n bs) most) >> some (decimal n bs)

-- one to three digits with at most one line feed behind them, and nothing else
unfoldable pub asked : List ℕ → Option ℕ
asked bs = let ds = unended bs in ensure (leb 1 (length ds) && leb (length ds) 3) >> spelled 0 ds

-- the longest snapshot of as many stored counts, or nothing
unfoldable pub answered : List ℕ → List ℕ
answered bs = maybe [] (λ n. snapshot_bytes (worst n)) (asked bs)
