-- `blake3_compress::start` meets its contract. Four stores over the eight words and the constants.
-- Assumes nothing.
use Rattle.std.proofs.Common.{arith}
use Rattle.blake3_compress.specs.Spec.{iv}
use Rattle.blake3_compress.proofs.Laws.{start-stored}
use Rattle.blake3_compress.proofs.start.Goals as goal

pub returns : goal.returns
unfolding iv
returns c =
    let a = c.args in
    start-stored a.cv a.counter a.block_len a.flags (omega arith) c.joined-v.ensures
