use native.Mathlib.Omega.{arith}
use Rattle.counters.proofs.RowLaws.{in-order-sorted}
use Rattle.counter_merge.specs.TableLaws.{replaced-here, replaced-miss, replaced-past}
use Rattle.counter_merge.proofs.replace.Goals as goal
use Rattle.counter_merge.proofs.replace.Goals.{else-k-n-via-then-k-n+else-t-k, else-k-n-via-else-k-n}

pub find-k-requires : goal.find-k-requires
find-k-requires c = (omega arith, c.requires.laid.fits, in-order-sorted c.args.n c.args.t.now c.requires)

pub returns-then-t-k : goal.returns-then-t-k
returns-then-t-k c =
    replaced-here c.args.n c.args.t.now c.requires c.args.idx c.args.new c.find-k.result c.find-k.ensures (omega arith) c.if-t-k.true

pub returns : goal.returns
returns c =
    let a = c.args in
    elim c.else-k-n.branch [
      | else-k-n-via-then-k-n+else-t-k w ↦ replaced-miss a.n a.t.now c.requires a.idx a.new c.find-k.result c.find-k.ensures (omega arith) w.if-t-k.false
      | else-k-n-via-else-k-n w ↦ replaced-past a.n a.t.now c.requires a.idx a.new c.find-k.result c.find-k.ensures w.if-k-n.false
    ]
