-- `box_items::run_delta`.
-- Assumes nothing.
use native.Mathlib.Omega.{arith}
use Rattle.std.specs.Prelude.{refl}
use mathlib.Core.Path.{sym, ◌∙◌}
use Rattle.box_items.specs.Items.{bad_item, delta_item}
use Rattle.box_items.specs.ItemLaws.{delta-short, delta-past, bad-ran, delta-ran}
use Rattle.box_items.proofs.run_delta.Goals as goal

pub returns-then-body-lt16 : goal.returns-then-body-lt16
returns-then-body-lt16 c = λ t.
    let a = c.args in
    bad-ran a.counters a.nursery t a.es.now a.ws.now a.cs.now (bad_item a.counters a.nursery) (delta_item a.body.now) refl (delta-short a.body.now (omega arith))

pub returns-then-not-items_fill : goal.returns-then-not-items_fill
returns-then-not-items_fill c = λ t.
    let a = c.args in
    let i = c.read_le32-inserts in
    let r = c.read_le32-removes in
    let past = delta-past a.body.now (omega arith) i.result r.result i.ensures r.ensures (sym c.items_fill.ensures ∙ c.if-not-items_fill.true) in
    bad-ran a.counters a.nursery t a.es.now a.ws.now a.cs.now (bad_item a.counters a.nursery) (delta_item a.body.now) refl past

pub returns-in-Ok : goal.returns-in-Ok
returns-in-Ok c = λ t.
    let a = c.args in
    let i = c.read_le32-inserts in
    let r = c.read_le32-removes in
    let fit = sym c.items_fill.ensures ∙ c.if-not-items_fill.false in
    delta-ran a.counters a.nursery t a.es.now a.ws.now a.cs.now a.body.now i.result r.result _ _ _ _ c.in-Ok.ensures (omega arith) i.ensures r.ensures fit

pub returns-in-Err : goal.returns-in-Err
returns-in-Err c = λ t.
    let a = c.args in
    let i = c.read_le32-inserts in
    let r = c.read_le32-removes in
    let fit = sym c.items_fill.ensures ∙ c.if-not-items_fill.false in
    delta-ran a.counters a.nursery t a.es.now a.ws.now a.cs.now a.body.now i.result r.result _ _ _ _ c.in-Err.ensures (omega arith) i.ensures r.ensures fit
