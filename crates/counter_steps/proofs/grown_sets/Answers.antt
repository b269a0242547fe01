use mathlib.Core.Path.{sym, ap, ◌∙◌}
use native.Mathlib.Omega.{arith}
use lib.ListN.{length-set}
use Rattle.counters.specs.Maintenance.{grown, grown_sets}
use Rattle.counters.proofs.MaintenanceLaws.{filled_next, filled-end, length-grown, grown-at}
use Rattle.counters.specs.Batch.{kept}
use Rattle.counters.specs.Steps.{transitions}
use Rattle.counter_steps.proofs.grown_sets.Goals as goal

pub loop-k-preserved : goal.loop-k-preserved
loop-k-preserved g c =
    let l = c.loop-k in
    let a = c.args in
    let ws = g.B.Transitions.words a.b in
    let ts = kept (transitions ws) in
    let g = length-grown ts a.removed in
    (simp length-set l.invariant.0, filled_next 0 l.small (grown_sets ts a.removed) l.k l.invariant.1 c.grown.result (omega arith) (omega arith) (c.grown.ensures ∙ (ap (grown _) c.tally.ensures ∙ sym (grown-at ts a.removed l.k (omega arith)))))

pub returns : goal.returns
returns g c =
    let l = c.loop-k in
    let a = c.args in
    let ws = g.B.Transitions.words a.b in
    let ts = kept (transitions ws) in
    let g = length-grown ts a.removed in
    filled-end 0 l.small (grown_sets ts a.removed) l.k l.invariant.1 (omega arith) (omega arith)
