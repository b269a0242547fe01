use Rattle.std.specs.Prelude.{◌<◌, ◌/◌, ◌^◌, length}
use Rattle.std.proofs.Common.{refl, sym, subst, ap, arith, ◌∙◌}
use Rattle.base.specs.declared.Refusal.TheVariants.{Broken}
use Rattle.counter_walk.specs.Held.{Walk}
use Rattle.counter_walk.specs.Walk.{ended, on_to}
use Rattle.counter_walk.specs.TurnLaws.{begins-broken, begins, few-rows}
use Rattle.counter_walk.proofs.begin.Goals as goal

pub returns-then-not-holds : goal.returns-then-not-holds
returns-then-not-holds c =
    let a = c.args in
    (c.ended.ensures ∙ ap (λ (w : Walk). ended w Broken) c.start-s.ensures ∙ begins-broken a.c a.t.now a.len (sym c.holds.ensures ∙ c.if-not-holds.true), refl)

-- the first walk has no sums, and the rows of the record that is lent
pub on_to-requires : goal.on_to-requires
on_to-requires c =
    let a = c.args in
    let few = few-rows a.c a.t.now a.len (sym c.holds.ensures ∙ c.if-not-holds.false) c.requires in
    subst (λ (w : Walk). (w.sums.rises < 2 ^ 62) × (w.sums.falls < 2 ^ 62) × (w.counters.stored < 2 ^ 62)) (sym c.start-s.ensures) (omega arith, omega arith, few)

pub returns : goal.returns
returns c =
    let a = c.args in
    (c.on_to.ensures ∙ ap (λ (w : Walk). on_to (length a.t.now / 2) w 0) c.start-s.ensures ∙ begins a.c a.t.now a.len (sym c.holds.ensures ∙ c.if-not-holds.false), refl)
