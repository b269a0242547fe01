-- What the snapshot and the listing of a box are, given an output long enough: the bytes of the states that the box holds.
-- Assumes nothing.
use Rattle.std.specs.Prelude.{◌≡◌, List, ℕ, length}
use Rattle.std.proofs.Math.Path.{ap}
use Rattle.std.proofs.Common.{arith}
use Rattle.std.proofs.lemmas.List.{length-replicate}
use Rattle.base.specs.Logic.{zeros}
use Rattle.base.specs.Answers.{taken}
use Rattle.base.specs.Output.{written}
use Rattle.counters.specs.declared.ShrinkSettings.{ShrinkSettings}
use Rattle.counters.specs.Counts as counts
use Rattle.counters.specs.Layout.{state_of}
use Rattle.counters.specs.Calls.{on_state}
use Rattle.snapshot.specs.Write.{snapshot_bytes}
use Rattle.snapshot.specs.Calls.{serialize_call}
use Rattle.cell_nursery.specs.Entries as entries
use Rattle.cell_nursery.specs.Drain.{listing_bytes}
use Rattle.cell_nursery.specs.Layout as nursery
use Rattle.cell_nursery.specs.Layout.{entries_of}
use Rattle.cell_nursery.specs.Calls.{listing_call}
use Rattle.node_box.specs.Box.{Box, given, snapshot_of, listing_of}
use Rattle.node_box.proofs.OutputLaws.{written-whole}
use Rattle.demand3.specs.CountersHeld.{CountersHeld, counters-hold, counters-state}
use Rattle.demand3.specs.NurseryHeld.{NurseryHeld, nursery-state, entries-hold, cells-hold}

given-zeros : (bs : List ℕ) → given (written (zeros (length bs)) (taken bs)) ≡ bs
given-zeros bs = (written-whole (taken bs) (zeros (length bs)) (rw (length-replicate {A = ℕ} (length bs) 0) (omega arith))).0

module _ {g : ShrinkSettings} {len : ℕ} {s : counts.State} (b : Box) (h : CountersHeld g len b.counters b.counts s) where
  pub snapshot-is : snapshot_of b ≡ snapshot_bytes s
  unfolding snapshot_of serialize_call on_state
  snapshot-is = rw (counters-hold h, counters-state h) (given-zeros (snapshot_bytes s))

module _ {delay le lw lc : ℕ} {s : entries.State} (b : Box) (h : NurseryHeld delay le lw lc b.nursery b.entries b.waiting b.cells s) where
  pub entries-are : entries_of b.nursery.entries b.entries b.cells ≡ s.entries
  unfolding nursery.state_of
  entries-are = ap (λ (x : entries.State). x.entries) (nursery-state h)

  pub listing-is : listing_of b ≡ listing_bytes s.entries
  unfolding listing_of listing_call
  listing-is = rw (nursery-state h, entries-are, entries-hold h, cells-hold h) (given-zeros (listing_bytes s.entries))
