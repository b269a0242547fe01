-- `box_run::fresh`.
-- Assumes nothing.
use Rattle.counters.specs.Maintenance.{standard}
use Rattle.box_run.specs.TextLaws.{counters-made, nursery-made, fresh-made}
use Rattle.box_run.proofs.fresh.Goals as goal

pub unwrap-counters-requires : goal.unwrap-counters-requires
unfolding standard
unwrap-counters-requires c = counters-made c.new.result c.args.t.now _ c.new.ensures

pub unwrap-nursery-requires : goal.unwrap-nursery-requires
unwrap-nursery-requires c =
    let a = c.args in
    nursery-made c.new-2.result a.es.now a.ws.now a.cs.now _ _ _ c.new-2.ensures

pub returns : goal.returns
unfolding standard
returns c =
    let a = c.args in
    fresh-made _ _ a.t.now a.es.now a.ws.now a.cs.now _ _ _ _ (rw c.unwrap-counters.ensures at c.new.ensures) (rw c.unwrap-nursery.ensures at c.new-2.ensures)
