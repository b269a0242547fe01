use Rattle.std.specs.Prelude.{◌/◌, length}
use Rattle.std.proofs.Common.{◌∙◌}
use Rattle.counter_walk.specs.Returned.{as_walk}
use Rattle.counter_walk.specs.TurnLaws.{goes_on, goes-to-tests}
use Rattle.counter_walk.proofs.on_to.Goals as goal

pub returns-then-i-s : goal.returns-then-i-s
returns-then-i-s c =
    let a = c.args in
    c.moved_to.ensures ∙ goes_on (length a.t.now / 2) (as_walk a.s) a.i c.if-i-s.true

pub returns : goal.returns
returns c =
    let a = c.args in
    c.judged.ensures ∙ goes-to-tests (length a.t.now / 2) (as_walk a.s) a.i c.if-i-s.false
