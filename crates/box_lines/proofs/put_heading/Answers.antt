-- `box_lines::put_heading`.
-- Assumes nothing.
use Rattle.box_lines.specs.Lines.{heading}
use Rattle.box_lines.proofs.put_heading.Goals as goal

pub returns : goal.returns
unfolding heading
returns c = c.put.ensures
