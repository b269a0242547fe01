use Rattle.snapshot_tiers.specs.Heads.{past}
use Rattle.snapshot_lanes.specs.Lanes.{lane_list}
use Rattle.snapshot_lanes.specs.LaneLaws.{map-turn, map-past, open-set, past-done}
use mathlib.Core.Path.{◌∙◌}
use native.Mathlib.Omega.{arith}
use native.Mathlib.Numerals.{add-one}
use lib.ListN.{length-set}
use Rattle.snapshot_lanes.proofs.lanes.advance.Goals as goal

pub loop-l-init : goal.loop-l-init
loop-l-init c = (c.well_formed.1.0.1.0.1, c.requires, map-past c.args.s.now c.args.x c.args.lanes)

pub past_lane-requires : goal.past_lane-requires
past_lane-requires c = let l = c.loop-l in l.invariant.1 _ l.l-index (omega arith)

pub loop-l-preserved : goal.loop-l-preserved
loop-l-preserved c =
    let a = c.args in
    let l = c.loop-l in
    let m = c.past_lane.result in (
      length-set l.l-items l.l-index m ∙ l.invariant.0,
      open-set a.s.now l.l-items l.l-index m l.invariant.1 c.past_lane.ensures.opened,
      rw (add-one l.l-index) (map-turn (lane_list a.s.now) (λ y. past a.x (lane_list a.s.now y)) l.l-items l.l-index _ m (omega arith) c.past_lane.ensures.list ∙ l.invariant.2),
    )

pub returns : goal.returns
returns c =
    let a = c.args in
    let l = c.loop-l in
    record { lists = past-done a.s.now a.x l.l-items l.l-index _ (omega arith) l.invariant.2; opened = l.invariant.1 }
