-- `snapshot_parts::large_len`. The invariant: what is counted and what the large tier from row i on takes are together what all takes.
use mathlib.Core.Path.{ap}
use native.Mathlib.Omega.{arith}
use lib.ListN.{length}
use Rattle.snapshot_parts.specs.PartLaws.{large-length, large-skip, large-end}
use Rattle.snapshot_parts.proofs.large_len.Goals as goal
use Rattle.snapshot_parts.proofs.large_len.Goals.{else-t-i-ge-FIRST_LARGE, then-t-i-ge-FIRST_LARGE}

pub overflow_add-len : goal.overflow_add-len
overflow_add-len c =
    let l = c.loop-i in
    let a = c.args in
    omega (arith, large-length a.n a.t.now l.i (omega arith) (omega (arith, c.if-t-i-ge-FIRST_LARGE.true)), c.requires.1)

pub loop-i-preserved : goal.loop-i-preserved
loop-i-preserved c =
    let l = c.loop-i in
    let a = c.args in
    elim c.if-t-i-ge-FIRST_LARGE.branch [ then-t-i-ge-FIRST_LARGE w ↦ omega (arith, large-length a.n a.t.now l.i (omega arith) (omega (arith, w.if-t-i-ge-FIRST_LARGE.true))) | else-t-i-ge-FIRST_LARGE w ↦ omega (arith, ap length (large-skip a.n a.t.now l.i (omega arith) (omega (arith, w.if-t-i-ge-FIRST_LARGE.false)))) ]

pub returns : goal.returns
returns c =
    let l = c.loop-i in
    let a = c.args in
    omega (arith, ap length (large-end a.n a.t.now l.i (omega arith) (omega arith)))
