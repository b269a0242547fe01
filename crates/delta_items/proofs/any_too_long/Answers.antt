-- `delta_items::any_too_long`. The three tests, one after another.
-- Assumes nothing.
use mathlib.Core.Path.{sym, ◌∙◌}
use native.Mathlib.Omega.{arith}
use borrow.Author.Tests.{lt-ltb, le-ltb}
use Rattle.base.specs.Logic.{max32}
use Rattle.cell_nursery.specs.Calls.{length_width}
use Rattle.delta_items.specs.WalkLaws.{fit-inserts, too-long}
use Rattle.delta_items.proofs.any_too_long.Goals as goal

pub long_cell-requires : goal.long_cell-requires
long_cell-requires c =
    let a = c.args in
    fit-inserts (length_width a.wide) a.inserts a.removes a.items.now c.requires

pub returns-then-long_cell : goal.returns-then-long_cell
returns-then-long_cell c =
    let a = c.args in
    let w = length_width a.wide in
    rw (too-long w a.inserts a.removes a.items.now, sym c.long_cell.ensures ∙ c.if-long_cell.true)

pub returns-then-inserts-gt4294967295 : goal.returns-then-inserts-gt4294967295
returns-then-inserts-gt4294967295 c =
    let a = c.args in
    let w = length_width a.wide in
    rw (too-long w a.inserts a.removes a.items.now, sym c.long_cell.ensures ∙ c.if-long_cell.false, lt-ltb max32 a.inserts (omega arith))

pub returns-else-inserts-gt4294967295 : goal.returns-else-inserts-gt4294967295
returns-else-inserts-gt4294967295 c =
    let a = c.args in
    let w = length_width a.wide in
    rw (too-long w a.inserts a.removes a.items.now, sym c.long_cell.ensures ∙ c.if-long_cell.false, le-ltb max32 a.inserts (omega arith))
