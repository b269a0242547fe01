-- `box_lines::body_len`.
-- Assumes nothing.
use mathlib.Core.Path.{sym, ◌∙◌}
use native.Mathlib.Omega.{arith}
use Rattle.box_lines.specs.LineLaws.{len_short, len-there}
use Rattle.box_lines.proofs.body_len.Goals as goal

pub returns-then-bytes-lt6 : goal.returns-then-bytes-lt6
returns-then-bytes-lt6 c = sym (len_short _ (omega arith))

pub returns : goal.returns
returns c = c.read_le32.ensures ∙ sym (len-there _ (omega arith))
