-- `blake3::without_key` meets its contract. By evaluation.
-- Assumes nothing.
use mathlib.Core.Path.{refl}
use Rattle.blake3_compress.specs.Spec.{iv}
use Rattle.blake3.specs.Mode.{start_of}
use Rattle.blake3.proofs.without_key.Goals as goal

pub returns : goal.returns
unfolding start_of iv
returns c = refl
