use mathlib.Core.Path.{sym, ◌∙◌}
use Prim.Native.Nat.{suc}
use native.Mathlib.Omega.{arith}
use native.Mathlib.Numerals.{add-one}
use lib.ListN.{drop}
use Rattle.rows.specs.Table.{rows_of}
use Rattle.counters.specs.Layout.{count_row}
use Rattle.counters.specs.Batch.{false_old}
use Rattle.counters.specs.Steps.{transitions}
use Rattle.counters.proofs.StepLaws.{no-transition, any-passed, any-decided, any_none}
use Rattle.lent_batches.proofs.LentLaws.{met}
use Rattle.counter_checks.proofs.any_false_old.Goals as goal

pub returns-then-is_false_old : goal.returns-then-is_false_old
returns-then-is_false_old g c =
    let l = c.loop-i in
    let a = c.args in
    let ws = g.B.Transitions.words a.b in
    let x = c.at.result in
    let r = drop (suc l.i) (transitions ws) in
    sym (l.invariant ∙ rw (met ws l.i x c.at.ensures (omega arith)) (any-decided x r (false_old (rows_of count_row a.n a.t.now)) (sym c.is_false_old.ensures ∙ c.if-is_false_old.true)))

pub loop-i-preserved : goal.loop-i-preserved
loop-i-preserved g c =
    let l = c.loop-i in
    let a = c.args in
    let ws = g.B.Transitions.words a.b in
    let x = c.at.result in
    let r = drop (suc l.i) (transitions ws) in
    rw add-one (l.invariant ∙ rw (met ws l.i x c.at.ensures (omega arith)) (any-passed x r (false_old (rows_of count_row a.n a.t.now)) (sym c.is_false_old.ensures ∙ c.if-is_false_old.false)))

pub returns : goal.returns
returns g c =
    let l = c.loop-i in
    let a = c.args in
    let ws = g.B.Transitions.words a.b in
    sym (l.invariant ∙ rw (no-transition ws l.i (omega arith) (omega arith)) (any_none (false_old (rows_of count_row a.n a.t.now))))
