-- `counter_walk::judged`: a test after the other.
-- Assumes nothing.
use Rattle.std.specs.Prelude.{◌/◌, length}
use Rattle.std.proofs.Common.{sym, ◌∙◌}
use Rattle.counter_walk.specs.Returned.{as_walk}
use Rattle.counter_walk.specs.TurnLaws.{unallocated-ends, repeated-ends, false-old-ends, off-total-ends, full-ends, few-ends, passes}
use Rattle.counter_walk.proofs.judged.Goals as goal

pub returns-then-sums : goal.returns-then-sums
returns-then-sums c =
    let s = as_walk c.args.s in
    c.ended.ensures ∙ unallocated-ends (length c.args.t.now / 2) s c.if-sums.true

pub returns-then-s : goal.returns-then-s
returns-then-s c =
    let s = as_walk c.args.s in
    c.ended-then-s.ensures ∙ repeated-ends (length c.args.t.now / 2) s c.if-sums.false c.if-s.true

pub returns-then-sums-2 : goal.returns-then-sums-2
returns-then-sums-2 c =
    let s = as_walk c.args.s in
    c.ended-then-sums-2.ensures ∙ false-old-ends (length c.args.t.now / 2) s c.if-sums.false c.if-s.false c.if-sums-2.true

pub returns-then-off_total : goal.returns-then-off_total
returns-then-off_total c =
    let s = as_walk c.args.s in
    c.ended-then-off_total.ensures ∙ off-total-ends (length c.args.t.now / 2) s c.if-sums.false c.if-s.false c.if-sums-2.false (sym c.off_total.ensures ∙ c.if-off_total.true)

pub returns-then-t-sums : goal.returns-then-t-sums
returns-then-t-sums c =
    let s = as_walk c.args.s in
    c.ended-then-t-sums.ensures ∙ full-ends (length c.args.t.now / 2) s c.if-sums.false c.if-s.false c.if-sums-2.false (sym c.off_total.ensures ∙ c.if-off_total.false) c.if-t-sums.true

pub returns-then-few_cells : goal.returns-then-few_cells
returns-then-few_cells c =
    let s = as_walk c.args.s in
    c.ended-then-few_cells.ensures ∙ few-ends (length c.args.t.now / 2) s c.if-sums.false c.if-s.false c.if-sums-2.false (sym c.off_total.ensures ∙ c.if-off_total.false) c.if-t-sums.false (sym c.few_cells.ensures ∙ c.if-few_cells.true)

pub returns : goal.returns
returns c =
    let s = as_walk c.args.s in
    c.accepted.ensures ∙ passes (length c.args.t.now / 2) s c.if-sums.false c.if-s.false c.if-sums-2.false (sym c.off_total.ensures ∙ c.if-off_total.false) c.if-t-sums.false (sym c.few_cells.ensures ∙ c.if-few_cells.false)
