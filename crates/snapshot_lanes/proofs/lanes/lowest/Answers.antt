use Rattle.snapshot_lanes.specs.LaneLaws.{lowest-before, lowest-none, lowest-all}
use mathlib.Core.Path.{◌≡◌, ◌∙◌}
use native.Mathlib.Omega.{arith}
use lib.ListN.{length}
use Rattle.snapshot_lanes.proofs.lanes.lowest.Goals as goal

pub loop-k-init : goal.loop-k-init
loop-k-init c = lowest-none c.args.lanes c.well_formed.0.1.0.1

pub loop-k-preserved : goal.loop-k-preserved
loop-k-preserved c =
    let a = c.args in
    let l = c.loop-k in
    let n : length a.lanes ≡ 8 = c.well_formed.0.1.0.1 in
    c.lower-h.ensures ∙ rw l.invariant (lowest-before a.lanes _ l.k (omega arith) (omega arith))

pub returns : goal.returns
returns c = let l = c.loop-k in l.invariant ∙ lowest-all c.args.lanes l.k (omega arith)
