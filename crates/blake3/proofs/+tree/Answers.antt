-- `blake3::tree` meets its contract. The measure is the length. Each part is shorter, and its first chunk's counter fits.
use Rattle.blake3.specs.Mode.{flags_of}
use Rattle.blake3.proofs.Laws.{chunk-tree, parent-tree}
use Rattle.blake3.proofs.+tree.Goals as goal

pub returns-then-s-le1024 : goal.returns-then-s-le1024
returns-then-s-le1024 t c =
    let a = c.args in
    chunk-tree a.start.words (flags_of a.start) a.root a.counter a.s.now c.if-s-le1024.true c.chunk.ensures

pub returns : goal.returns
returns t c =
    let a = c.args in
    parent-tree a.start.words (flags_of a.start) a.root a.counter a.s.now
    c.if-s-le1024.false c.left_len-k.ensures.0 c.tree-l.ensures c.tree-r.ensures c.parent.ensures
