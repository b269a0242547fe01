-- `counter_apply::apply_kept`.
-- Assumes nothing.
use native.Mathlib.Omega.{arith}
use Rattle.counters.specs.Batch.{kept}
use Rattle.counters.specs.Steps.{transitions}
use Rattle.counters.proofs.JudgeLaws.{total-within}
use Rattle.counter_steps.specs.KeptLaws.{first-order, second-order, second_fits, record-after, table-after}
use Rattle.counter_apply.specs.RoomLaws.{judged-stand}
use Rattle.counter_apply.proofs.apply_kept.Goals as goal

pub overflow_add-live : goal.overflow_add-live
overflow_add-live g c =
    omega (arith, c.tally.ensures, (total-within c.args.c.live_cells (kept (transitions (g.B.Transitions.words c.args.b))) c.requires.total).0)

pub overflow_sub-live : goal.overflow_sub-live
overflow_sub-live g c =
    omega (arith, c.tally-2.ensures, c.tally.ensures, (total-within c.args.c.live_cells (kept (transitions (g.B.Transitions.words c.args.b))) c.requires.total).1)

pub drop_rows-freed-requires : goal.drop_rows-freed-requires
drop_rows-freed-requires g c =
    record { in_order = first-order c.args.c c.args.t.now (g.B.Transitions.words c.args.b) c.requires; t_value = judged-stand c.args.c c.args.t.now (g.B.Transitions.words c.args.b) c.requires }

pub put_rows-stored-requires : goal.put_rows-stored-requires
put_rows-stored-requires g c =
    let f = c.drop_rows-freed in
    record { in_order = second-order c.args.c c.args.t.now (g.B.Transitions.words c.args.b) c.requires f.result _ f.ensures.0 f.ensures.1; t_in_bounds = second_fits c.args.c c.args.t.now (g.B.Transitions.words c.args.b) c.requires f.result _ f.ensures.0 f.ensures.1 }

pub returns : goal.returns
returns g c =
    let p = c.put_rows-stored in
    let f = c.drop_rows-freed in
    let m = c.maintained_by-maintenance in
    let d = c.tally-2 in
    let a = c.tally in (
      record-after c.args.c c.args.t.now (g.B.Transitions.words c.args.b) c.requires f.result _ f.ensures.0 f.ensures.1 _ p.result m.result (rw (a.ensures, d.ensures)) m.ensures p.ensures.0,
      table-after c.args.c c.args.t.now (g.B.Transitions.words c.args.b) c.requires f.result _ f.ensures.0 f.ensures.1 _ p.ensures.1,
    )
