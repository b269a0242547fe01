-- `delta_items::born_at`. The place is in the part that the insert starts.
-- Assumes nothing.
use lib.Seq.{drop-drop}
use Rattle.delta_items.proofs.born_at.Goals as goal

pub returns : goal.returns
returns c =
    let a = c.args in
    rw (drop-drop 40 a.at a.items.now) c.read_le32.ensures
