-- `word_sort::has_repeat`. The invariant: a word stands twice exactly where one does among those that are left.
use Rattle.std.proofs.Common.{◌≡◌, sym, ◌∙◌, ◌-◌, ◌+◌, arith}
use Rattle.word_sort.specs.SortLaws.{neighbours-equal, neighbours-apart, neighbours-none}
use Rattle.word_sort.proofs.has_repeat.Goals as goal

pub returns-then-s-i : goal.returns-then-s-i
returns-then-s-i c =
    let l = c.loop-i in
    let k : l.i - 1 + 1 ≡ l.i = omega arith in
    sym (l.invariant ∙ neighbours-equal c.args.s.now (l.i - 1) (omega arith) (rw k c.if-s-i.true))

pub loop-i-preserved : goal.loop-i-preserved
loop-i-preserved c =
    let l = c.loop-i in
    let k : l.i - 1 + 1 ≡ l.i + 1 - 1 = omega arith in
    let e : l.i - 1 + 1 ≡ l.i = omega arith in
    l.invariant ∙ rw k at (neighbours-apart c.args.s.now (l.i - 1) c.requires (omega arith) (rw e c.if-s-i.false))

pub returns : goal.returns
returns c =
    let l = c.loop-i in
    sym (l.invariant ∙ neighbours-none c.args.s.now (l.i - 1) (omega arith))
