-- `delta_items::inserts_end`. The invariant: where all inserts end is where those from insert `counter` on do.
-- Assumes nothing.
use mathlib.Core.Path.{◌≡◌}
use Prim.Native.Nat.{◌≤◌}
use lib.ListN.{length}
use Rattle.cell_nursery.specs.Calls.{length_width}
use Rattle.delta_items.specs.Walk.{inserts_end, end_from}
use Rattle.delta_items.proofs.inserts_end.Given as goal

abbrev pub invariant-loop : goal.invariant-loop
invariant-loop l = (l.at ≤ length l.items) × (end_from (length_width l.wide) l.inserts l.counter l.at l.items ≡ inserts_end (length_width l.wide) l.inserts l.items)
