-- `drain_rows::write_rows` meets its contract. The invariant: the bytes of the first i rows stand at the start.
-- Assumes nothing.
use Rattle.cell_nursery.specs.Rows.{handed_out}
use Rattle.cell_nursery.specs.Layout.{entries_of, waiting_of}
use Rattle.base.specs.Logic.{flat}
use lib.Seq.{paste}
use lib.ListN.{length, take}
use mathlib.Core.Path.{◌≡◌}
use Rattle.drain_rows.proofs.write_rows.Given as goal

abbrev pub invariant-loop-i : goal.invariant-loop-i
invariant-loop-i l = (l.at ≡ length (flat (handed_out (entries_of l.r.entries l.es l.cs)) (take l.i (take l.k (waiting_of l.r.waiting l.ws))))) × (l.out ≡ paste l.initial.out 0 (flat (handed_out (entries_of l.r.entries l.es l.cs)) (take l.i (take l.k (waiting_of l.r.waiting l.ws)))) l.at) × (length l.out ≡ length l.initial.out)
