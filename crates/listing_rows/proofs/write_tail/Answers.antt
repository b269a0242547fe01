-- `listing_rows::write_tail` meets its contract: two pastes side by side.
-- Assumes nothing.
use lib.ListN.{get_or}
use Rattle.cell_nursery.proofs.OutputLaws.{tail_written}
use mathlib.Core.Path.{refl, ◌∙◌}
use Prim.Native.Nat.{◌+◌, ◌*◌}
use native.Mathlib.Omega.{arith}
use Rattle.listing_rows.proofs.write_tail.Goals as goal

pub returns : goal.returns
returns c =
    let es = c.args.es.now in
    let k = c.args.k in
    c.copy_at.ensures
    ∙ tail_written es c.args.cs.now k c.requires.0 c.args.out.now c.write_le16.new.out c.args.at (get_or es (k * 8 + 6) 0) (get_or es (k * 8 + 6) 0 + get_or es (k * 8 + 7) 0) (omega arith) refl refl c.write_le16.ensures
