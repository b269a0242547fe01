use native.Mathlib.Omega.{arith}
use borrow.Author.Tests.{le-ltb}
use Rattle.counters.proofs.RowLaws.{in-order-sorted}
use Rattle.counter_merge.specs.TableLaws.{replaced-past, row-there}
use Rattle.counter_merge.proofs.has_row.Goals as goal

pub find-k-requires : goal.find-k-requires
find-k-requires c = (omega arith, c.requires.laid.fits, in-order-sorted c.args.n c.args.t.now c.requires)

pub returns-then-k-n : goal.returns-then-k-n
returns-then-k-n c =
    row-there c.args.n c.args.t.now c.requires c.args.idx c.find-k.result c.find-k.ensures (omega arith)

pub returns-else-k-n : goal.returns-else-k-n
returns-else-k-n c =
    rw (le-ltb c.find-k.result c.args.n c.if-k-n.false)
    (replaced-past c.args.n c.args.t.now c.requires c.args.idx 0 c.find-k.result c.find-k.ensures c.if-k-n.false).0
