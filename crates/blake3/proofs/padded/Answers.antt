-- `blake3::padded` meets its contract. The bytes lie over as many zeros.
-- Assumes nothing.
use Rattle.blake3.proofs.Laws.{padded-over}
use Rattle.blake3.proofs.padded.Goals as goal

pub returns : goal.returns
returns c = padded-over c.args.s.now c.copy_from_slice.ensures.after
