-- `box_items::run_item`: each way out by its kind.
-- Assumes nothing.
use native.Mathlib.Omega.{arith}
use Rattle.std.specs.Prelude.{refl}
use mathlib.Core.Path.{sym, ap, ◌∙◌}
use mathlib.Core.Option.{Option}
use Rattle.node_box.specs.Box.{Call}
use Rattle.box_items.specs.Items.{bad_item, call_of, box_of, ran}
use Rattle.box_items.specs.ItemLaws.{call_long, call-allocate, call-batch, call-delta, call-drain, call-other, bad-ran}
use Rattle.box_items.proofs.run_item.Goals as goal

pub returns-then-body-gt32768 : goal.returns-then-body-gt32768
returns-then-body-gt32768 c =
    let a = c.args in
    bad-ran a.counters a.nursery a.t.now a.es.now a.ws.now a.cs.now (bad_item a.counters a.nursery) (call_of a.kind a.body.now) refl (call_long a.kind a.body.now (omega arith))

pub returns-in-1 : goal.returns-in-1
returns-in-1 c =
    let a = c.args in
    let b = box_of a.counters a.t.now a.nursery a.es.now a.ws.now a.cs.now in
    c.run_allocate.ensures a.t.now a.es.now a.ws.now a.cs.now ∙ ap (λ (x : Option Call). ran b x) (sym (call-allocate a.kind a.body.now (omega arith) (omega arith)))

pub returns-in-2 : goal.returns-in-2
returns-in-2 c =
    let a = c.args in
    let b = box_of a.counters a.t.now a.nursery a.es.now a.ws.now a.cs.now in
    c.run_batch.ensures a.es.now a.ws.now a.cs.now ∙ ap (λ (x : Option Call). ran b x) (sym (call-batch a.kind a.body.now (omega arith) (omega arith)))

pub returns-in-3 : goal.returns-in-3
returns-in-3 c =
    let a = c.args in
    let b = box_of a.counters a.t.now a.nursery a.es.now a.ws.now a.cs.now in
    c.run_delta.ensures a.t.now ∙ ap (λ (x : Option Call). ran b x) (sym (call-delta a.kind a.body.now (omega arith) (omega arith)))

pub returns-in-4 : goal.returns-in-4
returns-in-4 c =
    let a = c.args in
    let b = box_of a.counters a.t.now a.nursery a.es.now a.ws.now a.cs.now in
    c.run_drain.ensures a.t.now ∙ ap (λ (x : Option Call). ran b x) (sym (call-drain a.kind a.body.now (omega arith) (omega arith)))

pub returns-in_default : goal.returns-in_default
returns-in_default c =
    let a = c.args in
    bad-ran a.counters a.nursery a.t.now a.es.now a.ws.now a.cs.now (bad_item a.counters a.nursery) (call_of a.kind a.body.now) refl
    (call-other a.kind a.body.now (omega arith) (λ e. omega arith) (λ e. omega arith) (λ e. omega arith) (λ e. omega arith))
