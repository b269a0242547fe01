-- `box_lines::put_line`.
-- Assumes nothing.
use Rattle.box_lines.specs.LineLaws.{line-put}
use Rattle.box_lines.proofs.put_line.Goals as goal

pub returns : goal.returns
returns c =
    line-put c.args.l _ _ _ _ _ _ c.put_field-a.ensures c.put_field-b.ensures c.put_field-c.ensures c.put_field-d.ensures c.put_field.ensures
