-- `box_lines::kind_of`.
-- Assumes nothing.
use mathlib.Core.Path.{sym, ◌∙◌}
use native.Mathlib.Omega.{arith}
use Rattle.box_lines.specs.LineLaws.{kind-short, kind-there}
use Rattle.box_lines.proofs.kind_of.Goals as goal

pub returns-then-bytes-lt6 : goal.returns-then-bytes-lt6
returns-then-bytes-lt6 c = omega (arith, kind-short c.args.bytes.now (omega arith))

pub returns : goal.returns
returns c = c.read_le16.ensures ∙ sym (kind-there _ (omega arith))
