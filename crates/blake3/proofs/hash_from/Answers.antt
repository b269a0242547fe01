-- `blake3::hash_from` meets its contract. The bytes of the root.
-- Assumes nothing.
use Rattle.blake3.specs.Mode.{flags_of, hash_from}
use Rattle.blake3.proofs.Laws.{hashed}
use Rattle.blake3.proofs.hash_from.Goals as goal

pub returns : goal.returns
unfolding hash_from
returns c =
    let a = c.args in
    hashed a.start.words (flags_of a.start) a.s.now c.tree.ensures c.bytes.ensures
