-- `journal_convert::seal`. Length and payload behind the place of the hash, then the hash of what stands there.
-- Assumes nothing.
use mathlib.Core.Path.{◌∙◌}
use native.Mathlib.Omega.{arith}
use Rattle.blake3.specs.Spec.{hash}
use Rattle.blake3.specs.Equations.{length-hash}
use Rattle.journal_convert.specs.PutLaws.{sealed-put}
use Rattle.journal_convert.proofs.seal.Goals as goal

pub returns : goal.returns
returns c =
    let a = c.args in
    c.copy_at-2.ensures
    ∙ sealed-put hash length-hash a.p.now a.out.now a.at (omega arith) _ _ _ c.write_le64.ensures c.copy_at.ensures c.hash-h.ensures
