-- `call_lists::answers::put_words`.
-- Assumes nothing.
use Rattle.std.proofs.Common.{arith, rules}
use Rattle.call_lists.specs.Laws.{words-turn, words-cut, words-end}
use Rattle.call_lists.proofs.answers.put_words.Goals as goal

pub returns-in_err-to : goal.returns-in_err-to
returns-in_err-to c =
    let l = c.loop-w in
    rw c.from_residual.ensures (words-cut c.args.words.now l.w-index _ _ _ l.invariant.1 c.in_err-to.ensures (omega arith))

pub loop-w-preserved : goal.loop-w-preserved
loop-w-preserved c =
    let l = c.loop-w in
    (search rules, words-turn c.args.words.now l.w-index _ _ _ l.invariant.1 c.in_ok-to.ensures (omega arith))

pub returns : goal.returns
returns c = let l = c.loop-w in words-end c.args.words.now l.w-index _ _ l.invariant.1 (omega arith)
