-- What an input asks for, as the code says it.
-- Assumes nothing.
use Rattle.std.specs.Prelude.{ℕ, Option as CodeOption, Some, None}
use Rattle.std.proofs.Math.Option.{Option, none, some}

unfoldable pub number_of : Option ℕ → CodeOption ℕ
number_of none = None
number_of (some n) = Some n
