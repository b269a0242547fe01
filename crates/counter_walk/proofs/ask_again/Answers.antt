use Rattle.std.specs.Prelude.{◌≡◌, Bool, ◌&&◌, ◌||◌, eqb}
use Rattle.std.proofs.Common.{ap, sym, ◌∙◌}
use Rattle.counters.specs.Batch.{changes}
use Rattle.counters.specs.Steps.{transition}
use Rattle.counter_walk.specs.Returned.{as_walk}
use Rattle.counter_walk.specs.TurnLaws.{asks-on, asked-all}
use Rattle.counter_walk.proofs.ask_again.Goals as goal
use Rattle.counter_walk.proofs.ask_again.Goals.{then-s, else-s}

pub returns-then-s-2 : goal.returns-then-s-2
returns-then-s-2 c =
    let a = c.args in
    let named = changes (transition a.idx a.old a.new) && eqb a.s.seek a.idx in
    let e : c.if-s.repeated ≡ (a.s.repeated || named) =
    elim c.if-s.branch [
      | then-s w ↦ w.repeated-is ∙ w.if-s.true ∙ sym (ap (λ (r : Bool). r || named) w.if-s.true)
      | else-s w ↦ w.repeated-is ∙ w.is_named-repeated.ensures ∙ sym (ap (λ (r : Bool). r || named) w.if-s.false)
    ] in
    asks-on a.t.now (as_walk a.s) a.idx a.old a.new c.if-s.repeated e c.if-s-2.true

pub returns : goal.returns
returns c =
    let a = c.args in
    let named = changes (transition a.idx a.old a.new) && eqb a.s.seek a.idx in
    let e : c.if-s.repeated ≡ (a.s.repeated || named) =
    elim c.if-s.branch [
      | then-s w ↦ w.repeated-is ∙ w.if-s.true ∙ sym (ap (λ (r : Bool). r || named) w.if-s.true)
      | else-s w ↦ w.repeated-is ∙ w.is_named-repeated.ensures ∙ sym (ap (λ (r : Bool). r || named) w.if-s.false)
    ] in
    c.on_to.ensures ∙ asked-all a.t.now (as_walk a.s) a.idx a.old a.new c.if-s.repeated e c.if-s-2.false
