-- `blake3_compress::g` meets its contract. Two halves, one after the other.
-- Assumes nothing.
use Rattle.blake3_compress.proofs.Laws.{two-halves}
use Rattle.blake3_compress.proofs.g.Goals as goal

pub returns : goal.returns
returns c =
    let a = c.args in
    two-halves a.a a.b a.c a.d a.x a.y a.v.now c.mix.ensures c.mix-2.ensures
