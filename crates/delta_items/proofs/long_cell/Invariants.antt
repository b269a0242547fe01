-- `delta_items::long_cell`. The invariant: a cell of all inserts is over the limit exactly where one of those from insert `counter` on is.
-- Assumes nothing.
use mathlib.Core.Path.{◌≡◌}
use Rattle.cell_nursery.specs.Calls.{length_width}
use Rattle.delta_items.specs.Walk.{inserts_in, inserts_len, inserts_from, long_cell}
use Rattle.delta_items.specs.WalkLaws.{Left}
use Rattle.delta_items.proofs.long_cell.Given as goal

abbrev pub invariant-loop : goal.invariant-loop
invariant-loop l = (Left (length_width l.wide) l.inserts l.counter l.at (inserts_len (length_width l.wide) l.inserts l.items) l.items) × (long_cell (inserts_from (length_width l.wide) l.inserts l.counter l.at l.items) ≡ long_cell (inserts_in (length_width l.wide) l.inserts l.items))
