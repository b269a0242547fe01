-- `nursery_listing::snapshot_entries` meets its contract: the checks, then the listing.
-- Assumes nothing.
use Rattle.cell_nursery.proofs.OutputLaws.{listing-not-entries, listing-not-cells}
use mathlib.Core.Path.{sym, ◌∙◌}
use Rattle.nursery_listing.proofs.snapshot_entries.Goals as goal
use Rattle.nursery_listing.proofs.snapshot_entries.Goals.{then-not-holds_entries-via-then-not-holds_entries as entries, then-not-holds_entries-via-else-not-holds_entries+then-not-holds_cells as cells}

pub returns-then-not-holds_entries : goal.returns-then-not-holds_entries
returns-then-not-holds_entries c =
    let a = c.args in
    elim c.then-not-holds_entries.branch [
      | entries w ↦ listing-not-entries a.r a.es.now a.cs.now a.out.now (sym c.holds_entries.ensures ∙ w.if-not-holds_entries.true)
      | cells w ↦ listing-not-cells a.r a.es.now a.cs.now a.out.now (sym c.holds_entries.ensures ∙ w.if-not-holds_entries.false) (sym w.holds_cells.ensures ∙ w.if-not-holds_cells.true)
    ]

pub snapshot_entries_held-requires : goal.snapshot_entries_held-requires
snapshot_entries_held-requires c = (sym c.holds_entries.ensures ∙ c.if-not-holds_entries.false, sym c.holds_cells.ensures ∙ c.if-not-holds_cells.false)

pub returns : goal.returns
returns c = c.snapshot_entries_held.ensures
