-- `nursery_lookup::get_data` meets its contract: the checks, then the search.
-- Assumes nothing.
use Rattle.cell_nursery.proofs.SearchLaws.{data-not-entries, data-not-cells}
use Rattle.base.specs.Bytes.{unbe}
use mathlib.Core.Path.{sym, ◌∙◌}
use Rattle.nursery_lookup.proofs.get_data.Goals as goal
use Rattle.nursery_lookup.proofs.get_data.Goals.{then-not-holds_entries-via-then-not-holds_entries as entries, then-not-holds_entries-via-else-not-holds_entries+then-not-holds_cells as cells}

pub returns-then-not-holds_entries : goal.returns-then-not-holds_entries
returns-then-not-holds_entries c =
    let a = c.args in
    elim c.then-not-holds_entries.branch [
      | entries w ↦ data-not-entries a.r a.es.now a.cs.now (unbe a.hash) (sym c.holds_entries.ensures ∙ w.if-not-holds_entries.true)
      | cells w ↦ data-not-cells a.r a.es.now a.cs.now (unbe a.hash) (sym c.holds_entries.ensures ∙ w.if-not-holds_entries.false) (sym w.holds_cells.ensures ∙ w.if-not-holds_cells.true)
    ]

pub get_data_held-requires : goal.get_data_held-requires
get_data_held-requires c = (sym c.holds_entries.ensures ∙ c.if-not-holds_entries.false, sym c.holds_cells.ensures ∙ c.if-not-holds_cells.false)

pub returns : goal.returns
returns c = c.get_data_held.ensures
