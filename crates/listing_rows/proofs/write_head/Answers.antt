-- `listing_rows::write_head` meets its contract: two pastes side by side.
-- Assumes nothing.
use Rattle.cell_nursery.proofs.OutputLaws.{head-written}
use Rattle.rows.specs.Wide.{key_of}
use mathlib.Core.Path.{◌∙◌}
use Rattle.listing_rows.proofs.write_head.Goals as goal

pub returns : goal.returns
returns c =
    c.write_le64.ensures
    ∙ head-written c.args.out.now c.write_wide.new.out c.args.es.now c.args.at c.args.k (key_of c.wide_at.result) c.requires.1 c.wide_at.ensures c.write_wide.ensures
