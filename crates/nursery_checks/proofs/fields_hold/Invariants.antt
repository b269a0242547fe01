-- `nursery_checks::fields_hold` meets its contract. The invariant: the test of all rows is that of the rows from i on, the cells from `place` on.
-- Assumes nothing.
use lib.ListN.{drop}
use Rattle.cell_nursery.specs.Layout.{entry_row}
use Rattle.rows.specs.Table.{rows_of}
use Rattle.cell_nursery.specs.Rows.{fields_hold}
use mathlib.Core.Path.{◌≡◌}
use Prim.Native.Nat.{◌≤◌}
use Rattle.nursery_checks.proofs.fields_hold.Given as goal

abbrev pub invariant-loop-i : goal.invariant-loop-i
invariant-loop-i l = (l.place ≤ l.bytes) × (fields_hold 0 l.bytes (rows_of entry_row l.n l.t) ≡ fields_hold l.place l.bytes (drop l.i (rows_of entry_row l.n l.t)))
