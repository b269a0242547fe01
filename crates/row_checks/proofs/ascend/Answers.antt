-- `row_checks::ascend`. Each key that is below the next leaves the test to those behind; one that isn't ends it.
use Rattle.std.proofs.Common.{◌≡◌, sym, ◌∙◌, ◌+◌, ◌-◌, arith, ltb-true, ltb-false}
use Rattle.rows.specs.Keys.{keys}
use Rattle.rows.proofs.KeyLaws.{length-keys, ascend-start, ascend-end}
use Rattle.rows.proofs.SearchLaws.{neighbours-ascend, neighbours-stop}
use Rattle.row_checks.proofs.ascend.Goals as goal

pub loop-i-init : goal.loop-i-init
loop-i-init g c = ascend-start (keys g.K.RowKey.spelt c.args.w c.args.n c.args.t.now)

pub returns-then-not-is_below : goal.returns-then-not-is_below
returns-then-not-is_below g c =
    let a = c.args in
    let l = c.loop-i in
    let r = g.K.RowKey in
    let b = ltb-false (r.number c.read.result) (r.number c.read-in-loop-i.result) (rw c.is_below.ensures at c.if-not-is_below.true) in
    sym (l.invariant ∙ neighbours-stop r.spelt a.w a.n a.t.now l.i (omega arith) (omega arith) (omega (arith, b, c.read.ensures, c.read-in-loop-i.ensures)))

pub loop-i-preserved : goal.loop-i-preserved
loop-i-preserved g c =
    let a = c.args in
    let l = c.loop-i in
    let r = g.K.RowKey in
    let b = ltb-true (r.number c.read.result) (r.number c.read-in-loop-i.result) (rw c.is_below.ensures at c.if-not-is_below.false) in
    let e : l.i + 1 - 1 ≡ l.i = omega arith in
    l.invariant ∙ rw e (neighbours-ascend r.spelt a.w a.n a.t.now l.i (omega arith) (omega arith) (omega (arith, b, c.read.ensures, c.read-in-loop-i.ensures)))

pub returns : goal.returns
returns g c =
    let a = c.args in
    let l = c.loop-i in
    let r = g.K.RowKey in
    sym (l.invariant ∙ ascend-end (keys r.spelt a.w a.n a.t.now) (l.i - 1) (omega (arith, length-keys r.spelt a.w a.n a.t.now)))
