-- `slices::equal`. The invariant: the answer so far and the comparison of what is left give the answer.
use Rattle.std.proofs.Common.{sym, arith}
use Rattle.slices.specs.Laws.{eqb_list-lengths}
use Rattle.slices.specs.Turns.{equal-turn, equal-end}
use Rattle.slices.proofs.equal.Goals as goal

pub returns-then-a-b : goal.returns-then-a-b
returns-then-a-b c = sym (eqb_list-lengths _ _ c.if-a-b.true)

pub loop-i-preserved : goal.loop-i-preserved
loop-i-preserved c =
    let l = c.loop-i in
    equal-turn l.same c.args.a.now c.args.b.now l.i l.invariant (omega arith) (omega arith)

pub returns : goal.returns
returns c =
    let l = c.loop-i in
    equal-end l.same c.args.a.now c.args.b.now l.i l.invariant (omega arith) (omega arith)
