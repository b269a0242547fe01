-- `nursery_checks::rounds_hold` meets its contract. The invariant: the test of all rows is that of the rows from i on, none below lo.
-- Assumes nothing.
use lib.ListN.{drop}
use Rattle.cell_nursery.specs.Layout.{waiting_row}
use Rattle.rows.specs.Table.{rows_of}
use Rattle.cell_nursery.specs.Rows.{rounds_hold}
use mathlib.Core.Path.{◌≡◌}
use Rattle.nursery_checks.proofs.rounds_hold.Given as goal

abbrev pub invariant-loop-i : goal.invariant-loop-i
invariant-loop-i l = (rounds_hold 0 (rows_of waiting_row l.n l.t) ≡ rounds_hold l.lo (drop l.i (rows_of waiting_row l.n l.t)))
