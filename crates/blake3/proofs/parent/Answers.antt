-- `blake3::parent` meets its contract. The block is the two chaining values.
-- Assumes nothing.
use mathlib.Core.Path.{ap, ◌∙◌}
use Prim.Native.Nat.{ℕ}
use Rattle.blake3.specs.Spec.{parent_of}
use Rattle.blake3.proofs.Laws.{of-children}
use Rattle.blake3.proofs.parent.Goals as goal

pub returns : goal.returns
returns c =
    let a = c.args in
    of-children a.start.words c.flags-flags.result a.root a.l a.r c.joined-m.ensures c.compress.ensures
    ∙ ap (λ (n : ℕ). parent_of a.start.words n a.root a.l a.r) c.flags-flags.ensures.0
