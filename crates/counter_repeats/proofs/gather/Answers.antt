-- `counter_repeats::gather`. The invariant: the indices at the front, and those that the transitions left name, are those of the batch.
use Prim.Native.Nat.{◌+◌}
use native.Mathlib.Omega.{arith}
use lib.ListN.{set}
use Rattle.counter_repeats.specs.GatherLaws.{gathered-as, gather-start, gather-kept, gather-dropped, gather-end}
use Rattle.counter_repeats.proofs.gather.Goals as goal
use Rattle.counter_repeats.proofs.gather.Goals.{else-x, then-x}

pub loop-i-init : goal.loop-i-init
loop-i-init g c = gather-start c.args.s.now (g.B.Transitions.words c.args.b) c.requires

pub loop-i-preserved : goal.loop-i-preserved
loop-i-preserved g c =
    let l = c.loop-i in
    let t = c.args.s.now in
    let ws = g.B.Transitions.words c.args.b in
    let x = c.at-x.result in
    elim c.if-x.branch [
      | then-x w ↦ gathered-as t ws (set l.s l.k x.idx.0) c.if-x.s (l.k + 1) c.if-x.k (l.i + 1) w.s-is w.k-is (gather-kept t ws c.requires l.s l.k l.i l.invariant x c.at-x.ensures (omega arith) w.if-x.true)
      | else-x w ↦ gathered-as t ws l.s c.if-x.s l.k c.if-x.k (l.i + 1) w.s-is w.k-is (gather-dropped t ws c.requires l.s l.k l.i l.invariant x c.at-x.ensures (omega arith) w.if-x.false)
    ]

pub shape_of-s : goal.shape_of-s
shape_of-s g c = c.loop-i.invariant.long

pub returns : goal.returns
returns g c =
    let l = c.loop-i in
    gather-end c.args.s.now (g.B.Transitions.words c.args.b) c.requires l.s l.k l.i l.invariant (omega arith)
