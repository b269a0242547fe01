-- `waiting_checks::tied` meets its contract. The invariant: all rows are right and apart exactly where those of the windows from `lo` on are.
-- Assumes nothing.
use mathlib.Core.Path.{◌≡◌}
use Prim.Native.Nat.{suc, ◌-◌}
use Rattle.rows.specs.Table.{rows_of}
use Rattle.cell_nursery.specs.Layout.{waiting_row}
use Rattle.waiting_checks.specs.Marks.{clean, place_of, names_at}
use Rattle.waiting_checks.specs.WindowLaws.{rows_from}
use Rattle.waiting_checks.proofs.tied.Given as goal

abbrev pub invariant-loop-lo : goal.invariant-loop-lo
invariant-loop-lo l =
    clean (place_of l.r l.es) (names_at l.r l.es) (rows_of waiting_row l.r.waiting l.ws) ≡ clean (place_of l.r l.es) (names_at l.r l.es) (rows_from (place_of l.r l.es) (names_at l.r l.es) l.lo (rows_of waiting_row l.r.waiting l.ws))

abbrev pub decreases-loop-lo : goal.decreases-loop-lo
decreases-loop-lo l = suc l.r.entries - l.lo
