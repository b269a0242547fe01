-- `box_items::run_drain`.
-- Assumes nothing.
use native.Mathlib.Omega.{arith}
use Rattle.std.specs.Prelude.{refl}
use Rattle.box_items.specs.Items.{bad_item, drain_item}
use Rattle.box_items.specs.ItemLaws.{drain-bad, bad-ran, drain-ran}
use Rattle.box_items.proofs.run_drain.Goals as goal

pub returns-then-body-ne4 : goal.returns-then-body-ne4
returns-then-body-ne4 c = λ t.
    let a = c.args in
    bad-ran a.counters a.nursery t a.es.now a.ws.now a.cs.now (bad_item a.counters a.nursery) (drain_item a.body.now) refl (drain-bad a.body.now (λ e. omega arith))

pub returns-in-Ok : goal.returns-in-Ok
returns-in-Ok c = λ t.
    let a = c.args in
    let r = c.read_le32-round in
    drain-ran a.counters a.nursery t a.es.now a.ws.now a.cs.now a.body.now r.result _ _ _ c.in-Ok.ensures (omega arith) r.ensures

pub returns-in-Err : goal.returns-in-Err
returns-in-Err c = λ t.
    let a = c.args in
    let r = c.read_le32-round in
    drain-ran a.counters a.nursery t a.es.now a.ws.now a.cs.now a.body.now r.result _ _ _ c.in-Err.ensures (omega arith) r.ensures
