-- `box_items::run_next`.
-- Assumes nothing.
use Rattle.box_items.specs.Items.{box_of}
use Rattle.box_items.specs.RunLaws.{item-turn}
use Rattle.box_items.proofs.run_next.Goals as goal

pub returns-in_default : goal.returns-in_default
returns-in_default c =
    let a = c.args in
    let b = box_of a.counters a.t.now a.nursery a.es.now a.ws.now a.cs.now in
    item-turn a.bytes.now b a.place c.kind_of-kind.result c.line_of.result _ _ _ _ _ c.in_default.ensures c.kind_of-kind.ensures c.line_of.ensures

pub returns : goal.returns
returns c =
    let a = c.args in
    let b = box_of a.counters a.t.now a.nursery a.es.now a.ws.now a.cs.now in
    item-turn a.bytes.now b a.place c.kind_of-kind.result c.line_of-2.result _ _ _ _ _ c.in-Some.ensures c.kind_of-kind.ensures c.line_of-2.ensures
