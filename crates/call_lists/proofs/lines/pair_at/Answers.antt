-- `call_lists::lines::pair_at`.
-- Assumes nothing.
use Rattle.std.proofs.Common.{◌∙◌}
use Rattle.call_lists.specs.Laws.{pair-here}
use Rattle.call_lists.proofs.lines.pair_at.Goals as goal

pub returns : goal.returns
returns c =
    (c.pair.ensures.0 ∙ pair-here c.args.text.now c.args.n c.requires, c.pair.ensures.1)
