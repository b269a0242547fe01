-- `blake3_compress::mix` meets its contract. The four stores are those of the definition.
-- Assumes nothing.
use Rattle.blake3_compress.proofs.Laws.{four-stores}
use Rattle.blake3_compress.proofs.mix.Goals as goal

pub returns : goal.returns
returns c =
    let a = c.args in
    four-stores a.a a.b a.c a.d a.x a.n a.k a.v.now
    c.wrapping_add_u32.ensures.value c.wrapping_add_u32-2.ensures.value c.rotr.ensures c.wrapping_add_u32-3.ensures.value c.rotr-2.ensures
