-- `blake3_compress::joined` meets its contract. The second copy goes behind the first, and leaves nothing of the zeros.
-- Assumes nothing.
use Rattle.std.proofs.Common.{◌≡◌, length, arith, append-nil}
use Rattle.std.proofs.lemmas.List.{take_at, drop_at}
use Rattle.base.specs.Logic.{zeros}
use Rattle.blake3_compress.proofs.joined.Goals as goal

pub returns : goal.returns
returns c =
    let a = c.args in
    let n : length a.l ≡ 8 = omega arith in
    let f = c.copy_from_slice.ensures.after in
    rw (f, c.copy_from_slice-2.ensures.after, take_at a.l (zeros 8) 8 n, drop_at a.l (zeros 8) 8 n, append-nil)
