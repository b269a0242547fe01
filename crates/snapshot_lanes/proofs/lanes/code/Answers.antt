use Rattle.snapshot_lanes.specs.LaneLaws.{code-before, code-end, code-all, code_below, code_fits}
use Rattle.std.proofs.Common.{add_comm}
use mathlib.Core.Path.{◌≡◌, ◌∙◌}
use native.Mathlib.Omega.{arith}
use lib.ListN.{length}
use Rattle.snapshot_lanes.proofs.lanes.code.Goals as goal

pub loop-k-init : goal.loop-k-init
loop-k-init c = code-end c.args.lanes c.args.x c.well_formed.0.1.0.1

pub overflow_add-sum : goal.overflow_add-sum
overflow_add-sum c =
    let a = c.args in
    let l = c.loop-k in
    let n : length a.lanes ≡ 8 = c.well_formed.0.1.0.1 in
    omega (arith, code_fits a.lanes _ l.k a.x (omega arith) (omega arith) n c.bit-sum.result l.sum c.bit-sum.ensures l.invariant)

pub loop-k-preserved : goal.loop-k-preserved
loop-k-preserved c =
    let a = c.args in
    let l = c.loop-k in
    let n : length a.lanes ≡ 8 = c.well_formed.0.1.0.1 in
    rw (add_comm l.sum c.bit-sum.result, c.bit-sum.ensures, l.invariant) (code-before a.lanes _ l.k (omega arith) (omega arith) a.x)

pub returns : goal.returns
returns c =
    let a = c.args in
    let l = c.loop-k in
    let e = l.invariant ∙ code-all a.lanes a.x l.k (omega arith) in
    (e, rw e (code_below a.lanes a.x c.well_formed.0.1.0.1))
