-- `drain_rows::rows_fit` meets its contract. The invariant: what is left and the bytes of the first i rows make the room.
-- Assumes nothing.
use lib.ListN.{length, take}
use Rattle.cell_nursery.specs.Rows.{handed_out}
use Rattle.cell_nursery.specs.Layout.{entries_of, waiting_of}
use Rattle.base.specs.Logic.{flat}
use mathlib.Core.Path.{◌≡◌}
use Prim.Native.Nat.{◌+◌}
use Rattle.drain_rows.proofs.rows_fit.Given as goal

abbrev pub invariant-loop-i : goal.invariant-loop-i
invariant-loop-i l = (l.left + length (flat (handed_out (entries_of l.r.entries l.es l.cs)) (take l.i (take l.k (waiting_of l.r.waiting l.ws)))) ≡ l.room)
