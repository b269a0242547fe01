-- `blake3_compress::rounds` meets its contract. Fourteen halves, one after the other.
-- Assumes nothing.
use Rattle.blake3_compress.proofs.Laws.{seven-rounds}
use Rattle.blake3_compress.proofs.rounds.Goals as goal

pub returns : goal.returns
returns c =
    let a = c.args in
    seven-rounds a.m.now a.v.now
    c.columns.ensures c.diagonals.ensures
    c.columns-2.ensures c.diagonals-2.ensures
    c.columns-3.ensures c.diagonals-3.ensures
    c.columns-4.ensures c.diagonals-4.ensures
    c.columns-5.ensures c.diagonals-5.ensures
    c.columns-6.ensures c.diagonals-6.ensures
    c.columns-7.ensures c.diagonals-7.ensures
