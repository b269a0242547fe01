-- `nursery_lookup::get_idx` meets its contract: the check, then the search.
-- Assumes nothing.
use Rattle.cell_nursery.proofs.SearchLaws.{get-broken}
use Rattle.base.specs.Bytes.{unbe}
use mathlib.Core.Path.{sym, ◌∙◌}
use Rattle.nursery_lookup.proofs.get_idx.Goals as goal

pub returns-then-not-holds_entries : goal.returns-then-not-holds_entries
returns-then-not-holds_entries c = get-broken c.args.r c.args.es.now (unbe c.args.hash) (sym c.holds_entries.ensures ∙ c.if-not-holds_entries.true)

pub get_idx_held-requires : goal.get_idx_held-requires
get_idx_held-requires c = (sym c.holds_entries.ensures ∙ c.if-not-holds_entries.false)

pub returns : goal.returns
returns c = c.get_idx_held.ensures
