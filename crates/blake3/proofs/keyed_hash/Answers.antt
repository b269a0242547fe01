-- `blake3::keyed_hash` meets its contract. A start under a key is that of keyed mode.
-- Assumes nothing.
use mathlib.Core.Path.{ap, ◌∙◌}
use mathlib.Core.List.{List}
use mathlib.Core.Bool.{true}
use Prim.Native.Nat.{ℕ}
use Rattle.blake3.specs.Mode.{mode_of, hash_by}
use Rattle.blake3.specs.ModeLaws.{started}
use Rattle.blake3.proofs.keyed_hash.Goals as goal

pub returns : goal.returns
unfolding hash_by
returns c =
    let a = c.args in
    c.hash_from.ensures ∙ ap (λ (h : List ℕ → List ℕ). h a.s.now) (started (mode_of true a.key.now) c.under_key.ensures)
