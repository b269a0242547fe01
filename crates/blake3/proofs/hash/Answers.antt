-- `blake3::hash` meets its contract. A start without a key is that of hash mode.
-- Assumes nothing.
use mathlib.Core.Path.{ap, ◌∙◌}
use mathlib.Core.List.{List}
use Prim.Native.Nat.{ℕ}
use Rattle.blake3.specs.Mode.{unkeyed, hash_by}
use Rattle.blake3.specs.ModeLaws.{started}
use Rattle.blake3.proofs.hash.Goals as goal

pub returns : goal.returns
unfolding hash_by
returns c = c.hash_from.ensures ∙ ap (λ (h : List ℕ → List ℕ). h c.args.s.now) (started unkeyed c.without_key.ensures)
