use Rattle.rows.proofs.MoveLaws as moves
use Rattle.row_moves.proofs.insert_row.Goals as goal

pub returns : goal.returns
returns c =
    rw (c.copy_at.ensures, c.move_within.ensures)
    (moves.insert-row c.args.t.now c.args.row.now c.args.at c.args.end c.requires.0 c.requires.1)
