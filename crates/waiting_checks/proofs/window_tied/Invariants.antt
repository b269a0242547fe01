-- `waiting_checks::window_tied` meets its contract. The invariant: all rows pass from no marks exactly where those from row j on pass from the marks so far.
-- Assumes nothing.
use mathlib.Core.Path.{◌≡◌}
use lib.ListN.{drop}
use Rattle.base.specs.Logic.{zeros}
use Rattle.rows.specs.Table.{rows_of}
use Rattle.cell_nursery.specs.Layout.{waiting_row}
use Rattle.waiting_checks.specs.Marks.{place_of, names_at}
use Rattle.waiting_checks.specs.WindowLaws.{all_pass}
use Rattle.waiting_checks.proofs.window_tied.Given as goal

abbrev pub invariant-loop-j : goal.invariant-loop-j
invariant-loop-j l =
    all_pass (place_of l.r l.es) (names_at l.r l.es) l.lo (zeros 1024) (rows_of waiting_row l.r.waiting l.ws) ≡ all_pass (place_of l.r l.es) (names_at l.r l.es) l.lo l.marks (drop l.j (rows_of waiting_row l.r.waiting l.ws))
