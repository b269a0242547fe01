-- `listing_rows::write_listing` meets its contract. The invariant: the bytes of the first i entries stand at the start.
-- Assumes nothing.
use lib.ListN.{length, take}
use lib.Seq.{paste}
use Rattle.cell_nursery.specs.Layout.{entries_of}
use Rattle.cell_nursery.specs.Entries.{insert_bytes}
use Rattle.base.specs.Logic.{flat}
use mathlib.Core.Path.{◌≡◌}
use Rattle.listing_rows.proofs.write_listing.Given as goal

abbrev pub invariant-loop-i : goal.invariant-loop-i
invariant-loop-i l = (l.at ≡ length (flat insert_bytes (take l.i (entries_of l.i-end l.es l.cs)))) × (l.out ≡ paste l.initial.out 0 (flat insert_bytes (take l.i (entries_of l.i-end l.es l.cs))) l.at) × (length l.out ≡ length l.initial.out)
