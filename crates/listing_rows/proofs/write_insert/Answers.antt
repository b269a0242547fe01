-- `listing_rows::write_insert` meets its contract: three pastes side by side.
-- Assumes nothing.
use Rattle.cell_nursery.proofs.OutputLaws.{insert-written}
use mathlib.Core.Path.{◌∙◌}
use native.Mathlib.Omega.{arith}
use Rattle.listing_rows.proofs.write_insert.Goals as goal

pub returns : goal.returns
returns c =
    c.write_tail.ensures
    ∙ insert-written c.args.es.now c.args.cs.now c.args.k c.requires.0 c.args.out.now c.write_head.new.out c.write_le32.new.out c.args.at (omega arith) c.write_head.ensures c.write_le32.ensures
