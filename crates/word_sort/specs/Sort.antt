-- Numbers in order.
-- Assumes nothing.
use Rattle.std.specs.Prelude.{ℕ, List, [], ◌∷◌, leb}
use Rattle.base.specs.Logic.{pick}

-- the number goes before the first that is no less
unfoldable pub insert : ℕ → List ℕ → List ℕ
insert x [] = x ∷ []
insert x (y ∷ ys) = pick (leb x y) (x ∷ y ∷ ys) (y ∷ insert x ys)

-- the numbers, least first
unfoldable pub sorted : List ℕ → List ℕ
sorted [] = []
sorted (x ∷ xs) = insert x (sorted xs)
