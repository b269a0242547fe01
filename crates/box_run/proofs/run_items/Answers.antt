-- `box_run::run_items`. The invariant: what is left to print, put behind what was printed, gives what is wanted.
use mathlib.Core.Path.{refl}
use native.Mathlib.Omega.{arith}
use borrow.Author.Rules.{rules}
use borrow.Author.Tests.{not-true, not-false}
use Rattle.box_lines.specs.Lines.{output}
use Rattle.box_items.specs.Items.{box_of}
use Rattle.box_run.specs.TextLaws.{text-end, text-bad, text-place, text-good}
use Rattle.box_run.proofs.run_items.Goals as goal

pub loop-at-init : goal.loop-at-init
loop-at-init c = (refl, omega arith, omega arith, refl)

pub shape_of-out-then-not-n : goal.shape_of-out-then-not-n
shape_of-out-then-not-n c = omega (arith, c.loop-at.invariant.3)

pub returns-then-not-n : goal.returns-then-not-n
returns-then-not-n c =
    let a = c.args in
    let l = c.loop-at in
    let n = c.run_next-n in
    let below = c.loop-at-test.true in
    let b = box_of l.counters l.t l.nursery l.es l.ws l.cs in
    text-bad b l.place l.at a.input.now (output l.printed l.out) _ _ n.result _ _ _ _ l.invariant.0 below n.ensures c.put_line-more.ensures (not-true _ c.if-not-n.true)

pub overflow_add-place : goal.overflow_add-place
overflow_add-place c = omega (arith, c.loop-at-test.true, c.loop-at.invariant.1, c.well_formed)

pub slice_bounds-body_len-count : goal.slice_bounds-body_len-count
slice_bounds-body_len-count c = omega (arith, c.loop-at-test.true)

pub slice_bounds-body_len-start : goal.slice_bounds-body_len-start
slice_bounds-body_len-start c = omega (arith, c.loop-at-test.true)

pub overflow_add-at : goal.overflow_add-at
overflow_add-at c =
    let a = c.args in
    let l = c.loop-at in
    let n = c.run_next-n in
    let below = c.loop-at-test.true in
    let b = box_of l.counters l.t l.nursery l.es l.ws l.cs in
    let q = text-place b l.place l.at a.input.now (output l.printed l.out) _ _ n.result _ _ _ _ l.invariant.0 below n.ensures c.put_line-more.ensures (not-false _ c.if-not-n.false) c.body_len.result c.body_len.ensures in
    omega (arith, c.well_formed)

pub overflow_add-at-in-loop-at : goal.overflow_add-at-in-loop-at
overflow_add-at-in-loop-at c =
    let a = c.args in
    let l = c.loop-at in
    let n = c.run_next-n in
    let below = c.loop-at-test.true in
    let b = box_of l.counters l.t l.nursery l.es l.ws l.cs in
    let q = text-place b l.place l.at a.input.now (output l.printed l.out) _ _ n.result _ _ _ _ l.invariant.0 below n.ensures c.put_line-more.ensures (not-false _ c.if-not-n.false) c.body_len.result c.body_len.ensures in
    omega (arith, c.well_formed)

pub loop-at-smaller : goal.loop-at-smaller
loop-at-smaller c =
    let a = c.args in
    let l = c.loop-at in
    let n = c.run_next-n in
    let below = c.loop-at-test.true in
    let b = box_of l.counters l.t l.nursery l.es l.ws l.cs in
    let q = text-place b l.place l.at a.input.now (output l.printed l.out) _ _ n.result _ _ _ _ l.invariant.0 below n.ensures c.put_line-more.ensures (not-false _ c.if-not-n.false) c.body_len.result c.body_len.ensures in
    omega arith

pub loop-at-preserved : goal.loop-at-preserved
loop-at-preserved c =
    let a = c.args in
    let l = c.loop-at in
    let n = c.run_next-n in
    let below = c.loop-at-test.true in
    let b = box_of l.counters l.t l.nursery l.es l.ws l.cs in
    let good = (not-false _ c.if-not-n.false) in
    let q = text-place b l.place l.at a.input.now (output l.printed l.out) _ _ n.result _ _ _ _ l.invariant.0 below n.ensures c.put_line-more.ensures good c.body_len.result c.body_len.ensures in
    let i = l.invariant.1 in
    (text-good b l.place l.at a.input.now (output l.printed l.out) _ _ n.result _ _ _ _ l.invariant.0 below n.ensures c.put_line-more.ensures good c.body_len.result c.body_len.ensures, omega arith, omega arith, search rules)

pub returns : goal.returns
returns c =
    let l = c.loop-at in
    text-end _ l.place l.at c.args.input.now (output l.printed l.out) _ l.invariant.0 (omega arith)
