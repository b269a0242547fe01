-- `nursery_checks::holds_waiting` meets its contract: test after test.
-- Assumes nothing.
use Rattle.cell_nursery.proofs.CheckLaws.{waiting-not-laid, waiting-by-rounds}
use Rattle.rows.proofs.TableLaws.{holds-laid}
use mathlib.Core.Path.{sym, ◌∙◌}
use Rattle.nursery_checks.proofs.holds_waiting.Goals as goal

pub rounds_hold-requires : goal.rounds_hold-requires
rounds_hold-requires c = let a = c.args in (holds-laid 5 a.r.waiting a.ws.now (sym c.if-holds_rows.ensures)).fits

pub returns-then-holds_rows : goal.returns-then-holds_rows
returns-then-holds_rows c =
    let a = c.args in
    c.rounds_hold.ensures ∙ waiting-by-rounds a.r a.ws.now (sym c.if-holds_rows.ensures)

pub returns-else-holds_rows : goal.returns-else-holds_rows
returns-else-holds_rows c = let a = c.args in c.if-holds_rows.false ∙ waiting-not-laid a.r a.ws.now (sym c.if-holds_rows.ensures)
