-- `delta_items::removes_at`. What the inserts leave is held against the removes by division, so that any number of them may be stated.
-- Assumes nothing.
use mathlib.Core.Path.{sym, ◌∙◌}
use native.Mathlib.Omega.{arith}
use Rattle.cell_nursery.specs.Calls.{length_width}
use Rattle.delta_items.specs.WalkLaws.{removes-none, removes-over, removes-after, end-inside}
use Rattle.delta_items.proofs.removes_at.Goals as goal

pub returns-in_err-at : goal.returns-in_err-at
returns-in_err-at c =
    let a = c.args in
    c.from_residual.ensures ∙ sym (removes-none (length_width a.wide) a.inserts a.removes a.items.now (sym c.in_err-at.ensures))

pub overflow_sub-room : goal.overflow_sub-room
overflow_sub-room c =
    let a = c.args in
    end-inside (length_width a.wide) a.inserts a.removes a.items.now c.in_ok-at.at (sym c.in_ok-at.ensures)

pub returns-then-room-removes : goal.returns-then-room-removes
returns-then-room-removes c =
    let a = c.args in
    sym (removes-over (length_width a.wide) a.inserts a.removes a.items.now c.in_ok-at.at (sym c.in_ok-at.ensures) (omega arith))

pub returns : goal.returns
returns c =
    let a = c.args in
    sym (removes-after (length_width a.wide) a.inserts a.removes a.items.now c.in_ok-at.at (sym c.in_ok-at.ensures) (omega arith))
