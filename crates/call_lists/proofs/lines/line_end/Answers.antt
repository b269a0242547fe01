-- `call_lists::lines::line_end`.
-- Assumes nothing.
use Rattle.std.proofs.Common.{◌≡◌, sym, ◌∙◌, length, arith, rules}
use Rattle.call_lists.specs.Laws.{line-here, line_on, line-last}
use Rattle.call_lists.proofs.lines.line_end.Goals as goal

pub returns-then-s-i-eq10 : goal.returns-then-s-i-eq10
returns-then-s-i-eq10 c =
    let l = c.loop-i in
    (search rules, search rules, line-here c.args.s.now l.i (omega arith) c.if-s-i-eq10.true ∙ l.invariant)

pub loop-i-preserved : goal.loop-i-preserved
loop-i-preserved c =
    let l = c.loop-i in
    line_on c.args.s.now l.i (omega arith) c.if-s-i-eq10.false ∙ l.invariant

pub returns : goal.returns
returns c =
    let l = c.loop-i in
    let e : l.i ≡ length c.args.s.now = omega arith in
    (search rules, search rules, sym e ∙ line-last c.args.s.now l.i (omega arith) ∙ l.invariant)
