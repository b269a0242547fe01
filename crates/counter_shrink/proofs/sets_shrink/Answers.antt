use Rattle.rows.specs.Table.{rows_of}
use Rattle.counters.specs.Layout.{count_row}
use Rattle.counters.specs.Maintenance.{sets_shrink}
use Rattle.counters.proofs.MaintenanceLaws.{filled_next, filled-end, length-sets, set_at}
use mathlib.Core.Path.{refl, sym, ◌∙◌}
use mathlib.Core.Bool.{false}
use native.Mathlib.Omega.{arith}
use lib.ListN.{length-set}
use Rattle.counter_shrink.proofs.sets_shrink.Goals as goal

pub loop-k-init : goal.loop-k-init
loop-k-init c = (refl, refl)

pub loop-k-preserved : goal.loop-k-preserved
loop-k-preserved c =
    let l = c.loop-k in
    let a = c.args in
    let es = rows_of count_row a.n a.t.now in
    let g = length-sets es a.removed in
    (simp length-set l.invariant.0, filled_next false l.small (sets_shrink es a.removed) l.k l.invariant.1 c.should_shrink_set.result (omega arith) (omega arith) (c.should_shrink_set.ensures ∙ sym (set_at es a.removed l.k (omega arith))))

pub returns : goal.returns
returns c =
    let l = c.loop-k in
    let a = c.args in
    let es = rows_of count_row a.n a.t.now in
    let g = length-sets es a.removed in
    filled-end false l.small (sets_shrink es a.removed) l.k l.invariant.1 (omega arith) (omega arith)
