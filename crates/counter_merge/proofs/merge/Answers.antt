use mathlib.Core.Path.{◌∙◌}
use native.Mathlib.Omega.{arith}
use Rattle.counter_merge.specs.MergeLaws.{aside-fits, merge-begin, merge_step, merge-end}
use Rattle.counter_merge.proofs.merge.Goals as goal

pub overflow_add-left : goal.overflow_add-left
overflow_add-left c = omega (arith, c.requires.room)

pub loop-i-init : goal.loop-i-init
loop-i-init c = merge-begin c.args.n c.args.at c.args.s c.args.t.now c.requires

pub merge_one-i-requires : goal.merge_one-i-requires
merge_one-i-requires c =
    let l = c.loop-i in (
      omega arith,
      omega (arith, c.requires.room, l.invariant.fronts, l.invariant.backs),
      omega (arith, aside-fits c.args.n c.args.at c.args.s c.args.t.now c.requires, l.invariant.backs, l.invariant.size),
    )

pub loop-i-preserved : goal.loop-i-preserved
loop-i-preserved c =
    let l = c.loop-i in
    let f = c.merge_one-i in
    merge_step c.args.n c.args.at c.args.s c.args.t.now c.requires l.i l.left l.t l.invariant (omega arith) f.result _ f.ensures.0 f.ensures.1

pub overflow_mul-s : goal.overflow_mul-s
overflow_mul-s c = omega (arith, c.requires.room)

pub fill-requires : goal.fill-requires
fill-requires c = omega (arith, aside-fits c.args.n c.args.at c.args.s c.args.t.now c.requires, c.loop-i.invariant.size)

pub overflow_add-result : goal.overflow_add-result
overflow_add-result c = omega (arith, c.requires.room)

pub returns : goal.returns
returns c =
    let l = c.loop-i in
    let w = merge-end c.args.n c.args.at c.args.s c.args.t.now c.requires l.i l.left l.t l.invariant (omega arith) in
    (w.0, c.fill.ensures ∙ w.1)
