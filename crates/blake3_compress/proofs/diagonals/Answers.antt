-- `blake3_compress::diagonals` meets its contract. Four quarter rounds, with the words that `word` gives.
-- Assumes nothing.
use Rattle.std.proofs.Common.{arith}
use Rattle.blake3_compress.specs.Spec.{scheduled}
use Rattle.blake3_compress.proofs.Laws.{four-diagonals}
use Rattle.blake3_compress.proofs.diagonals.Goals as goal

pub word-requires-8 : goal.word-requires-8
word-requires-8 c =
    let p = c.requires in
    (p.0, p.1, omega arith)

pub returns : goal.returns
returns c =
    let a = c.args in
    four-diagonals (scheduled a.m.now a.r) a.v.now
    c.word.ensures c.word-2.ensures c.g.ensures
    c.word-3.ensures c.word-4.ensures c.g-2.ensures
    c.word-5.ensures c.word-6.ensures c.g-3.ensures
    c.word-7.ensures c.word-8.ensures c.g-4.ensures
