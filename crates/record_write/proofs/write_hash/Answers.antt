-- `record_write::write_hash`. The hash is laid over the front.
-- Assumes nothing.
use mathlib.Core.Path.{ap, ◌∙◌}
use mathlib.Core.List.{List}
use Prim.Native.Nat.{ℕ}
use Rattle.record_write.specs.Laid.{laid_at}
use Rattle.record_write.proofs.write_hash.Goals as goal

pub returns : goal.returns
returns c =
    let out : List ℕ = c.args.out.now in
    c.copy_at.ensures ∙ ap (λ (l : List ℕ). laid_at out 0 l) c.hash_from-h.ensures
