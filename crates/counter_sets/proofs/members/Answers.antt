use Rattle.counters.proofs.MaintenanceLaws.{member-next, other-next, members-end}
use mathlib.Core.Path.{sym, ◌∙◌}
use native.Mathlib.Omega.{arith}
use Rattle.counter_sets.proofs.members.Goals as goal
use Rattle.counter_sets.proofs.members.Goals.{else-in_set, then-in_set}

pub loop-i-preserved : goal.loop-i-preserved
loop-i-preserved c =
    let l = c.loop-i in
    let a = c.args in
    let e = c.in_set.ensures in
    elim c.if-in_set.branch [ then-in_set w ↦ omega (arith, member-next a.k a.n a.t.now l.i (omega arith) (sym e ∙ w.if-in_set.true)) | else-in_set w ↦ omega (arith, other-next a.k a.n a.t.now l.i (omega arith) (sym e ∙ w.if-in_set.false)) ]

pub returns : goal.returns
returns c =
    let l = c.loop-i in
    let a = c.args in
    omega (arith, members-end a.k a.n a.t.now l.i (omega arith) (omega arith))
