-- `snapshot_parts::sets_len`. The invariant: what is counted and what the sets from set k on take are together what all take.
use mathlib.Core.Path.{ap}
use native.Mathlib.Omega.{arith}
use lib.ListN.{length}
use Rattle.snapshot_parts.specs.PartLaws.{length-set, sets-length, sets-end}
use Rattle.snapshot_parts.proofs.sets_len.Goals as goal

pub length64-requires : goal.length64-requires
length64-requires c = (omega (arith, c.requires.0.laid.fits), c.requires.0.ascends)

pub overflow_add-len : goal.overflow_add-len
overflow_add-len c =
    let l = c.loop-k in
    let a = c.args in
    omega (arith, c.length64.ensures, length-set a.n a.t.now l.k, sets-length a.n a.t.now l.k (omega arith), c.requires.1)

pub overflow_add-len-in-loop-k : goal.overflow_add-len-in-loop-k
overflow_add-len-in-loop-k c =
    let l = c.loop-k in
    let a = c.args in
    omega (arith, c.length64.ensures, length-set a.n a.t.now l.k, sets-length a.n a.t.now l.k (omega arith), c.requires.1)

pub loop-k-preserved : goal.loop-k-preserved
loop-k-preserved c =
    let l = c.loop-k in
    let a = c.args in
    omega (arith, c.length64.ensures, length-set a.n a.t.now l.k, sets-length a.n a.t.now l.k (omega arith))

pub returns : goal.returns
returns c =
    let l = c.loop-k in
    let a = c.args in
    omega (arith, ap length (sets-end a.n a.t.now l.k (omega arith)))
