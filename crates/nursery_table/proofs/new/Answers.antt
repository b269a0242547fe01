-- `nursery_table::new` meets its contract: the delay is judged, then three tables are filled with zeros.
-- Assumes nothing.
use Rattle.cell_nursery.proofs.CheckLaws.{new-zeros}
use Rattle.cell_nursery.proofs.SettingLaws.{new-bad}
use mathlib.Core.Path.{sym, ◌∙◌}
use Rattle.nursery_table.proofs.new.Goals as goal

pub returns-then-not-delay_in_range : goal.returns-then-not-delay_in_range
returns-then-not-delay_in_range c =
    let a = c.args in
    sym (new-bad a.delay a.es.now a.ws.now a.cs.now (sym c.delay_in_range.ensures ∙ c.if-not-delay_in_range.true))

pub returns : goal.returns
returns c =
    let a = c.args in
    rw (c.fill-3.ensures.after (λ y h. h), c.fill-2.ensures.after (λ y h. h), c.fill.ensures.after (λ y h. h))
    (new-zeros a.delay (sym c.delay_in_range.ensures ∙ c.if-not-delay_in_range.false) a.es.now a.ws.now a.cs.now)
