-- `box_items::run_bytes`: each way out by what is there of the item.
-- Assumes nothing.
use native.Mathlib.Omega.{arith}
use Rattle.std.specs.Prelude.{refl}
use mathlib.Core.Path.{◌∙◌}
use Rattle.box_items.specs.Items.{bad_item, box_of, item_call}
use Rattle.box_items.specs.ItemLaws.{bad-ran}
use Rattle.box_items.specs.RunLaws.{item-short, item-cut, item-lent}
use Rattle.box_items.proofs.run_bytes.Goals as goal

pub returns-then-bytes-lt6 : goal.returns-then-bytes-lt6
returns-then-bytes-lt6 c =
    let a = c.args in
    bad-ran a.counters a.nursery a.t.now a.es.now a.ws.now a.cs.now (bad_item a.counters a.nursery) (item_call a.bytes.now) refl (item-short a.bytes.now (omega arith))

pub returns-then-bytes-len : goal.returns-then-bytes-len
returns-then-bytes-len c =
    let a = c.args in
    let l = c.body_len-len.ensures in
    bad-ran a.counters a.nursery a.t.now a.es.now a.ws.now a.cs.now (bad_item a.counters a.nursery) (item_call a.bytes.now) refl (item-cut a.bytes.now (omega arith) (omega arith))

pub returns : goal.returns
returns c =
    let a = c.args in
    let k = c.kind_of-kind in
    let l = c.body_len-len in
    let b = box_of a.counters a.t.now a.nursery a.es.now a.ws.now a.cs.now in
    c.run_item.ensures ∙ item-lent a.bytes.now b k.result l.result k.ensures l.ensures (omega arith) (omega arith)
