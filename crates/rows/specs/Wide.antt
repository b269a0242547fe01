-- Keys of four words.
-- Assumes nothing.
use Rattle.std.specs.Prelude.{ℕ, ◌^◌, [], ◌∷◌}
use Rattle.base.specs.Bytes.{number}
use Rattle.rows.specs.declared.Wide.{Wide}

-- the number that four words spell, the highest first
unfoldable pub key_of : Wide → ℕ
key_of k = number (2 ^ 64) (k.3 ∷ k.2 ∷ k.1 ∷ k.0 ∷ [])
