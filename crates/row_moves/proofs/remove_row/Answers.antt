use Rattle.rows.proofs.MoveLaws as moves
use Rattle.row_moves.proofs.remove_row.Goals as goal

pub returns : goal.returns
returns c =
    rw (c.fill.ensures, c.move_within.ensures)
    (moves.remove-row c.args.t.now c.args.at c.args.end c.args.w c.requires.0 c.requires.1)
