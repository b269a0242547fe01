-- `counter_records::turn`.
-- Assumes nothing.
use Rattle.std.proofs.Common.{ap, ◌∙◌}
use Rattle.counter_walk.specs.Returned.{as_phase, as_walk}
use Rattle.counter_walk.specs.TurnLaws.{ready-look, ready-again, ready-free, ready-store, turn-looks, turn-asks, turn-frees, turn-stores, turn-ends}
use Rattle.counter_records.proofs.turn.Goals as goal

pub look-requires : goal.look-requires
look-requires c =
    let a = c.args in
    let r = ready-look a.t.now (as_walk a.s) a.idx a.old a.new (ap as_phase c.in-Look.is) c.requires in
    record { in_order = r.order; births_bound = r.sums }

pub ask_again-requires : goal.ask_again-requires
ask_again-requires c =
    let a = c.args in
    (ready-again a.t.now (as_walk a.s) a.idx a.old a.new (ap as_phase c.in-Again.is) c.requires).sums

pub returns-in-Look : goal.returns-in-Look
returns-in-Look c =
    let a = c.args in
    let e = turn-looks a.t.now (as_walk a.s) a.idx a.old a.new (ap as_phase c.in-Look.is) in
    (c.look.ensures ∙ e.0, e.1)

pub returns-in-Again : goal.returns-in-Again
returns-in-Again c =
    let a = c.args in
    let e = turn-asks a.t.now (as_walk a.s) a.idx a.old a.new (ap as_phase c.in-Again.is) in
    (c.ask_again.ensures ∙ e.0, e.1)

pub returns-in-Free : goal.returns-in-Free
returns-in-Free c =
    let a = c.args in
    let e = turn-frees a.t.now (as_walk a.s) a.idx a.old a.new (ap as_phase c.in-Free.is) in
    (c.apply.ensures.0 ∙ e.0, c.apply.ensures.1 ∙ e.1)

pub returns-in-Store : goal.returns-in-Store
returns-in-Store c =
    let a = c.args in
    let e = turn-stores a.t.now (as_walk a.s) a.idx a.old a.new (ap as_phase c.in-Store.is) in
    (c.apply-in-Store.ensures.0 ∙ e.0, c.apply-in-Store.ensures.1 ∙ e.1)

pub returns-in-End : goal.returns-in-End
returns-in-End c =
    let a = c.args in
    turn-ends a.t.now (as_walk a.s) a.idx a.old a.new (ap as_phase c.in-End.is)

pub apply-requires : goal.apply-requires
apply-requires c =
    let a = c.args in
    let r = ready-free a.t.now (as_walk a.s) a.idx a.old a.new (ap as_phase c.in-Free.is) c.requires in
    record { in_order = r.order; t_in_bounds = r.fits; at_bound = r.place }

pub apply-requires-in-Store : goal.apply-requires-in-Store
apply-requires-in-Store c =
    let a = c.args in
    let r = ready-store a.t.now (as_walk a.s) a.idx a.old a.new (ap as_phase c.in-Store.is) c.requires in
    record { in_order = r.order; t_in_bounds = r.fits; at_bound = r.place }
