use Rattle.counters.specs.Maintenance.{reset_where}
use Rattle.counters.proofs.MaintenanceLaws.{filled_next, filled-end, length-reset, reset-at}
use mathlib.Core.Path.{refl, sym, ◌∙◌}
use native.Mathlib.Omega.{arith}
use lib.ListN.{length-set}
use Rattle.counter_shrink.proofs.reset_where.Goals as goal

pub loop-k-init : goal.loop-k-init
loop-k-init c = (refl, refl)

pub loop-k-preserved : goal.loop-k-preserved
loop-k-preserved c =
    let l = c.loop-k in
    let a = c.args in
    let g = length-reset a.small a.removed in
    (simp length-set l.invariant.0, filled_next 0 l.left (reset_where a.small a.removed) l.k l.invariant.1 c.left_after.result (omega arith) (omega arith) (c.left_after.ensures ∙ sym (reset-at a.small a.removed l.k (omega arith))))

pub returns : goal.returns
returns c =
    let l = c.loop-k in
    let a = c.args in
    let g = length-reset a.small a.removed in
    filled-end 0 l.left (reset_where a.small a.removed) l.k l.invariant.1 (omega arith) (omega arith)
