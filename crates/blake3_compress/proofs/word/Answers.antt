-- `blake3_compress::word` meets its contract. An entry of the schedule is the place of a word.
-- Assumes nothing.
use Rattle.std.proofs.Common.{ℕ, List, [], get_or, ap}
use Rattle.blake3_compress.specs.Spec.{scheduled}
use Rattle.blake3_compress.proofs.word.Goals as goal

pub returns : goal.returns
unfolding scheduled
returns c =
    let a = c.args in
    ap (λ (t : List (List ℕ)). get_or a.m.now (get_or (get_or t a.r []) a.i 0) 0) c.requires.0
