-- `box_items::run_allocate`.
-- Assumes nothing.
use native.Mathlib.Omega.{arith}
use Rattle.std.specs.Prelude.{refl}
use Rattle.box_items.specs.Items.{bad_item, allocate_item}
use Rattle.box_items.specs.ItemLaws.{allocate-bad, bad-ran, allocate-ran}
use Rattle.box_items.proofs.run_allocate.Goals as goal

pub returns-then-body-ne0 : goal.returns-then-body-ne0
returns-then-body-ne0 c = λ t es ws cs.
    let a = c.args in
    bad-ran a.counters a.nursery t es ws cs (bad_item a.counters a.nursery) (allocate_item a.body.now) refl (allocate-bad a.body.now (λ e. omega arith))

pub returns-in-Ok : goal.returns-in-Ok
returns-in-Ok c = λ t es ws cs.
    let a = c.args in
    allocate-ran a.counters a.nursery t es ws cs a.body.now _ c.in-Ok.ensures (omega arith)

pub returns-in-Err : goal.returns-in-Err
returns-in-Err c = λ t es ws cs.
    let a = c.args in
    allocate-ran a.counters a.nursery t es ws cs a.body.now _ c.in-Err.ensures (omega arith)
