-- `delta_items::cell_len`. By the width of the length.
-- Assumes nothing.
use lib.Seq.{drop-drop}
use Rattle.delta_items.proofs.cell_len.Goals as goal

pub returns-then-wide : goal.returns-then-wide
returns-then-wide c =
    let a = c.args in
    rw (c.if-wide.true, drop-drop 44 a.at a.items.now) c.read_le32.ensures

pub returns : goal.returns
returns c =
    let a = c.args in
    rw (c.if-wide.false, drop-drop 44 a.at a.items.now) c.read_le16.ensures
