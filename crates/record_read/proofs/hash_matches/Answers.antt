-- `record_read::hash_matches`. The part that is hashed is the length and the payload.
-- Assumes nothing.
use mathlib.Core.Path.{ap, ◌∙◌}
use mathlib.Core.List.{List}
use Prim.Native.Nat.{ℕ, ◌+◌}
use native.Mathlib.Omega.{arith}
use lib.ListN.{take}
use Rattle.base.specs.Logic.{eqb_list}
use Rattle.blake3.specs.Mode.{hash_from}
use Rattle.slices.specs.Laws.{part-lent}
use Rattle.record_read.proofs.hash_matches.Goals as goal

pub returns : goal.returns
returns c =
    let a = c.args in
    let s : List ℕ = a.s.now in
    let h = c.hash_from-h.ensures in
    c.equal.ensures ∙ ap (λ (l : List ℕ). eqb_list l (take 32 s)) (h ∙ ap (hash_from a.start) (part-lent s 32 (40 + a.n) (8 + a.n) (omega arith)))
