-- `box_items::line_of`.
-- Assumes nothing.
use Rattle.box_items.proofs.line_of.Goals as goal

pub returns : goal.returns
returns c = rw c.answer_number.ensures
