-- `nursery_drain::drain_promotable` meets its contract: the check, then draining.
-- Assumes nothing.
use Rattle.cell_nursery.proofs.PrefixLaws.{drain-broken}
use mathlib.Core.Path.{sym, ◌∙◌}
use Rattle.nursery_drain.proofs.drain_promotable.Goals as goal

pub returns-then-not-holds : goal.returns-then-not-holds
returns-then-not-holds c = let a = c.args in drain-broken a.round a.r a.es.now a.ws.now a.cs.now a.out.now (sym c.holds.ensures ∙ c.if-not-holds.true)

pub drain_promotable_held-requires : goal.drain_promotable_held-requires
drain_promotable_held-requires c = sym c.holds.ensures ∙ c.if-not-holds.false

pub returns : goal.returns
returns c = c.drain_promotable_held.ensures
