-- `nursery_listing::snapshot_entries_held` meets its contract: the length by the record, then the bytes.
-- Assumes nothing.
use Rattle.cell_nursery.proofs.OutputLaws.{listing_full, listing-done}
use Rattle.cell_nursery.proofs.LayoutLaws.{entries-held, cells-held}
use native.Mathlib.Omega.{arith}
use Rattle.nursery_listing.proofs.snapshot_entries_held.Goals as goal
use Rattle.nursery_listing.proofs.snapshot_entries_held.Goals.{then-out-n-via-then-out-n as rows, then-out-n-via-else-out-n+then-out-n-2 as cells}

pub returns-then-out-n : goal.returns-then-out-n
returns-then-out-n c =
    let a = c.args in
    let full = listing_full a.r a.es.now a.cs.now a.out.now (entries-held a.r a.es.now c.requires.0) (cells-held a.r a.cs.now c.requires.1) c.requires.0 c.requires.1 in
    elim c.then-out-n.branch [
      | rows w ↦ full (omega arith)
      | cells w ↦ full (omega arith)
    ]

pub write_listing-requires : goal.write_listing-requires
write_listing-requires c =
    let a = c.args in
    (entries-held a.r a.es.now c.requires.0, cells-held a.r a.cs.now c.requires.1, omega arith)

pub returns : goal.returns
returns c =
    let a = c.args in
    rw c.write_listing.ensures (listing-done a.r a.es.now a.cs.now a.out.now (entries-held a.r a.es.now c.requires.0) (cells-held a.r a.cs.now c.requires.1) c.requires.0 c.requires.1 (omega arith))
