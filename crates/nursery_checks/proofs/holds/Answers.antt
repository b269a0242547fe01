-- `nursery_checks::holds` meets its contract: test after test.
-- Assumes nothing.
use Rattle.cell_nursery.proofs.CheckLaws.{holds-not-entries, holds-not-waiting, holds-not-cells, holds-narrow, holds-tied}
use Rattle.cell_nursery.proofs.LayoutLaws.{entries-held, waiting-held}
use Rattle.cell_nursery.specs.Layout.{holds_entries, holds_waiting}
use mathlib.Core.Bool.{true}
use mathlib.Core.Path.{◌≡◌}
use native.Mathlib.Omega.{arith}
use Rattle.nursery_checks.proofs.holds.Goals as goal

pub tied-requires : goal.tied-requires
tied-requires c =
    let a = c.args in
    let e : holds_entries a.r a.es.now ≡ true = grind (arith, c.if-holds_entries.branch, c.if-holds_waiting.branch, c.if-holds_cells.branch) in
    let w : holds_waiting a.r a.ws.now ≡ true = grind (arith, c.if-holds_entries.branch, c.if-holds_waiting.branch, c.if-holds_cells.branch) in
    (entries-held a.r a.es.now e, waiting-held a.r a.ws.now w)

pub returns-then-r-ws : goal.returns-then-r-ws
returns-then-r-ws c =
    let a = c.args in
    grind (arith, c.if-holds_entries.branch, c.if-holds_waiting.branch, c.if-holds_cells.branch, c.tied.ensures a.cs.now, holds-tied a.r a.es.now a.ws.now a.cs.now)

pub returns-else-r-ws : goal.returns-else-r-ws
returns-else-r-ws c =
    let a = c.args in
    grind (arith, c.if-holds_entries.branch, c.if-holds_waiting.branch, c.if-holds_cells.branch, holds-not-entries a.r a.es.now a.ws.now a.cs.now, holds-not-waiting a.r a.es.now a.ws.now a.cs.now, holds-not-cells a.r a.es.now a.ws.now a.cs.now, holds-narrow a.r a.es.now a.ws.now a.cs.now)
