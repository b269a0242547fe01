use Rattle.std.specs.Prelude.{◌+◌}
use Rattle.std.proofs.Common.{ap, ◌∙◌}
use Rattle.counter_steps.specs.Steps.{stores}
use Rattle.counter_walk.specs.Held.{Walk, Store, End}
use Rattle.counter_walk.specs.Returned.{as_phase, as_walk}
use Rattle.counter_walk.specs.Walk.{moved}
use Rattle.counter_walk.specs.TurnLaws.{applies-on, applied-all, applies-others, applied-table}
use Rattle.counter_walk.proofs.apply.Goals as goal

pub returns-then-s : goal.returns-then-s
returns-then-s c =
    let a = c.args in
    let s = as_walk a.s in
    (c.moved_to.ensures ∙ ap (λ (w : Walk). moved w (as_phase a.s.phase) (a.s.at + 1)) c.with_rows-next.ensures ∙ applies-on a.t.now s a.idx a.old a.new (stores a.pass) c.apply_one-rows.result c.apply_one-rows.ensures.0 c.if-s.true, c.apply_one-rows.ensures.1 ∙ applied-table a.t.now s a.idx a.old a.new (stores a.pass))

pub returns-in-Free : goal.returns-in-Free
returns-in-Free c =
    let a = c.args in
    let s = as_walk a.s in
    (c.moved_to-in-Free.ensures ∙ ap (λ (w : Walk). moved w Store 0) c.with_rows-next.ensures ∙ applies-others a.t.now s a.idx a.old a.new (stores a.pass) c.apply_one-rows.result c.apply_one-rows.ensures.0 c.if-s.false (ap stores c.in-Free.is), c.apply_one-rows.ensures.1 ∙ applied-table a.t.now s a.idx a.old a.new (stores a.pass))

pub returns-in-Store : goal.returns-in-Store
returns-in-Store c =
    let a = c.args in
    let s = as_walk a.s in
    (c.moved_to-in-Store.ensures ∙ ap (λ (w : Walk). moved w End (a.s.at + 1)) c.with_rows-next.ensures ∙ applied-all a.t.now s a.idx a.old a.new (stores a.pass) c.apply_one-rows.result c.apply_one-rows.ensures.0 c.if-s.false (ap stores c.in-Store.is), c.apply_one-rows.ensures.1 ∙ applied-table a.t.now s a.idx a.old a.new (stores a.pass))
