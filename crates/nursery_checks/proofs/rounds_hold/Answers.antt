-- `nursery_checks::rounds_hold` meets its contract. The invariant: the test of all rows is that of the rows from i on, none below lo.
use Rattle.cell_nursery.proofs.CheckLaws.{rounds-back, rounds-late, rounds-next, rounds-end}
use mathlib.Core.Path.{sym, ◌∙◌}
use native.Mathlib.Omega.{arith}
use Rattle.nursery_checks.proofs.rounds_hold.Goals as goal
use Rattle.nursery_checks.proofs.rounds_hold.Goals.{then-born-lo-via-then-born-lo as back, then-born-lo-via-else-born-lo+then-born-ge4294967296 as late}

pub returns-then-born-lo : goal.returns-then-born-lo
returns-then-born-lo c =
    let l = c.loop-i in
    let a = c.args in
    elim c.then-born-lo.branch [
      | back w ↦ sym (l.invariant ∙ rounds-back a.n a.t.now l.i l.lo (omega arith) w.if-born-lo.true)
      | late w ↦ sym (l.invariant ∙ rounds-late a.n a.t.now l.i l.lo (omega arith) w.if-born-lo.false w.if-born-ge4294967296.true)
    ]

pub loop-i-preserved : goal.loop-i-preserved
loop-i-preserved c =
    let l = c.loop-i in
    let a = c.args in
    l.invariant ∙ rounds-next a.n a.t.now l.i l.lo (omega arith) c.if-born-lo.false c.if-born-ge4294967296.false

pub returns : goal.returns
returns c =
    let l = c.loop-i in
    let a = c.args in
    sym (l.invariant ∙ rounds-end a.n a.t.now l.i l.lo (omega arith))
