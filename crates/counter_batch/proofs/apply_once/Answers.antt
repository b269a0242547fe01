-- `counter_batch::apply_once`: a test after the other, each with what the earlier ones left.
-- Assumes nothing.
use mathlib.Core.Path.{sym, ◌∙◌}
use native.Mathlib.Omega.{arith}
use borrow.Author.Rules.{rules}
use Rattle.counters.proofs.RowLaws.{in_order}
use Rattle.counters.proofs.StepLaws.{total_left}
use Rattle.counters.proofs.JudgeLaws.{judge-false-old, judge-off-total, judge-full, judge-few, judge-taken, judged, room-test, room-asks, few-test, total_of}
use Rattle.counters.specs.Batch.{kept}
use Rattle.counters.specs.Steps.{transitions}
use Rattle.counter_batch.proofs.apply_once.Goals as goal

pub any_false_old-requires : goal.any_false_old-requires
any_false_old-requires g c =
    in_order c.args.c c.args.t.now c.requires.0

pub returns-then-any_false_old : goal.returns-then-any_false_old
returns-then-any_false_old g c =
    let a = c.args in
    let ws = g.B.Transitions.words a.b in
    let p = c.requires in
    let o = sym c.any_false_old.ensures ∙ c.if-any_false_old.true in
    judge-false-old a.c a.t.now ws p.0 p.1 p.2 p.3 o

pub returns-then-off_total : goal.returns-then-off_total
returns-then-off_total g c =
    let a = c.args in
    let ws = g.B.Transitions.words a.b in
    let p = c.requires in
    let o = sym c.any_false_old.ensures ∙ c.if-any_false_old.false in
    let x = c.tally-births in
    let y = c.tally-deaths in
    let q = sym (c.off_total.ensures ∙ total_of a.c.live_cells (kept (transitions ws)) x.result y.result x.ensures y.ensures) ∙ c.if-off_total.true in
    judge-off-total a.c a.t.now ws p.0 p.1 p.2 p.3 o q

pub exceeds-requires : goal.exceeds-requires
exceeds-requires g c =
    let a = c.args in
    let ws = g.B.Transitions.words a.b in
    let p = c.requires in
    let o = sym c.any_false_old.ensures ∙ c.if-any_false_old.false in
    let z = c.tally-rises in
    let w = c.tally-falls in
    room-asks a.c a.t.now ws p.0 p.1 p.2 p.3 o z.result w.result z.ensures w.ensures (search rules) p.4

pub returns-then-exceeds : goal.returns-then-exceeds
returns-then-exceeds g c =
    let a = c.args in
    let ws = g.B.Transitions.words a.b in
    let p = c.requires in
    let o = sym c.any_false_old.ensures ∙ c.if-any_false_old.false in
    let x = c.tally-births in
    let y = c.tally-deaths in
    let q = sym (c.off_total.ensures ∙ total_of a.c.live_cells (kept (transitions ws)) x.result y.result x.ensures y.ensures) ∙ c.if-off_total.false in
    let z = c.tally-rises in
    let w = c.tally-falls in
    let r = sym (c.exceeds.ensures ∙ room-test a.c a.t.now ws p.0 p.1 p.2 p.3 o z.result w.result z.ensures w.ensures) ∙ c.if-exceeds.true in
    judge-full a.c a.t.now ws p.0 p.1 p.2 p.3 o q r

pub few_cells-requires : goal.few_cells-requires
few_cells-requires g c =
    let a = c.args in
    let ws = g.B.Transitions.words a.b in
    let p = c.requires in
    let o = sym c.any_false_old.ensures ∙ c.if-any_false_old.false in
    let x = c.tally-births in
    let y = c.tally-deaths in
    let z = c.tally-rises in
    let w = c.tally-falls in
    let n = total_left a.c.live_cells x.result y.result (sym c.off_total.ensures ∙ c.if-off_total.false) in
    (omega (arith, n.0), omega (arith, n.1), (room-asks a.c a.t.now ws p.0 p.1 p.2 p.3 o z.result w.result z.ensures w.ensures (search rules) p.4).0)

pub returns-then-few_cells : goal.returns-then-few_cells
returns-then-few_cells g c =
    let a = c.args in
    let ws = g.B.Transitions.words a.b in
    let p = c.requires in
    let o = sym c.any_false_old.ensures ∙ c.if-any_false_old.false in
    let x = c.tally-births in
    let y = c.tally-deaths in
    let q = sym (c.off_total.ensures ∙ total_of a.c.live_cells (kept (transitions ws)) x.result y.result x.ensures y.ensures) ∙ c.if-off_total.false in
    let z = c.tally-rises in
    let w = c.tally-falls in
    let r = sym (c.exceeds.ensures ∙ room-test a.c a.t.now ws p.0 p.1 p.2 p.3 o z.result w.result z.ensures w.ensures) ∙ c.if-exceeds.false in
    let m = sym (c.few_cells.ensures ∙ few-test a.c a.t.now ws p.0 p.1 p.2 p.3 o q x.result y.result z.result w.result x.ensures y.ensures z.ensures w.ensures) ∙ c.if-few_cells.true in
    judge-few a.c a.t.now ws p.0 p.1 p.2 p.3 o q r m

pub apply_kept-requires : goal.apply_kept-requires
apply_kept-requires g c =
    let a = c.args in
    let ws = g.B.Transitions.words a.b in
    let p = c.requires in
    let o = sym c.any_false_old.ensures ∙ c.if-any_false_old.false in
    let x = c.tally-births in
    let y = c.tally-deaths in
    let q = sym (c.off_total.ensures ∙ total_of a.c.live_cells (kept (transitions ws)) x.result y.result x.ensures y.ensures) ∙ c.if-off_total.false in
    let z = c.tally-rises in
    let w = c.tally-falls in
    let r = sym (c.exceeds.ensures ∙ room-test a.c a.t.now ws p.0 p.1 p.2 p.3 o z.result w.result z.ensures w.ensures) ∙ c.if-exceeds.false in
    judged a.c a.t.now ws p.0 p.1 p.2 p.3 o q r

pub returns : goal.returns
returns g c =
    let a = c.args in
    let ws = g.B.Transitions.words a.b in
    let p = c.requires in
    let o = sym c.any_false_old.ensures ∙ c.if-any_false_old.false in
    let x = c.tally-births in
    let y = c.tally-deaths in
    let q = sym (c.off_total.ensures ∙ total_of a.c.live_cells (kept (transitions ws)) x.result y.result x.ensures y.ensures) ∙ c.if-off_total.false in
    let z = c.tally-rises in
    let w = c.tally-falls in
    let r = sym (c.exceeds.ensures ∙ room-test a.c a.t.now ws p.0 p.1 p.2 p.3 o z.result w.result z.ensures w.ensures) ∙ c.if-exceeds.false in
    let m = sym (c.few_cells.ensures ∙ few-test a.c a.t.now ws p.0 p.1 p.2 p.3 o q x.result y.result z.result w.result x.ensures y.ensures z.ensures w.ensures) ∙ c.if-few_cells.false in
    let k = c.apply_kept in
    rw (k.ensures.0, k.ensures.1) (judge-taken a.c a.t.now ws p.0 p.1 p.2 p.3 o q r m)
