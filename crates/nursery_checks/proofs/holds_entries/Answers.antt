-- `nursery_checks::holds_entries` meets its contract: test after test, the delay first.
-- Assumes nothing.
use Rattle.cell_nursery.proofs.CheckLaws.{entries-bad-delay, entries-not-laid, entries-not-ascending, entries-by-fields}
use Rattle.rows.proofs.TableLaws.{holds-laid}
use Rattle.rows.specs.Table.{holds_rows}
use mathlib.Core.Bool.{true}
use mathlib.Core.Path.{◌≡◌}
use native.Mathlib.Omega.{arith}
use Rattle.nursery_checks.proofs.holds_entries.Goals as goal

pub ascend-requires : goal.ascend-requires
ascend-requires c =
    let a = c.args in
    let laid : holds_rows 8 a.r.entries a.es.now ≡ true = grind (arith, c.if-delay_in_range.branch) in
    (omega arith, (holds-laid 8 a.r.entries a.es.now laid).fits)

pub fields_hold-requires : goal.fields_hold-requires
fields_hold-requires c =
    let a = c.args in
    let laid : holds_rows 8 a.r.entries a.es.now ≡ true = grind (arith, c.if-delay_in_range.branch, c.if-holds_rows.branch) in
    (holds-laid 8 a.r.entries a.es.now laid).fits

pub returns-then-ascend : goal.returns-then-ascend
returns-then-ascend c =
    let a = c.args in
    grind (arith, c.if-delay_in_range.branch, c.if-holds_rows.branch, entries-by-fields a.r a.es.now)

pub returns-else-ascend : goal.returns-else-ascend
returns-else-ascend c =
    let a = c.args in
    grind (arith, c.if-delay_in_range.branch, c.if-holds_rows.branch, entries-bad-delay a.r a.es.now, entries-not-laid a.r a.es.now, entries-not-ascending a.r a.es.now)
