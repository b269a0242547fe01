use Rattle.rows.proofs.MoveLaws as moves
use Rattle.nursery_rows.proofs.cells.remove_cell.Goals as goal

pub returns : goal.returns
returns c =
    rw (c.fill.ensures, c.move_within.ensures)
    (moves.remove-row c.args.t.now c.args.place c.args.end c.args.len c.requires.0 c.requires.1)
