use mathlib.Core.Path.{subst}
use Rattle.snapshot_lanes.specs.Lanes.{LaneOf}
use Rattle.roaring_cursor.specs.CursorLaws.{started, start-members}
use Prim.Native.Nat.{◌-◌}
use lib.ListN.{take, drop}
use Rattle.snapshot_lanes.proofs.lanes.open_part.Goals as goal

pub lane_from-requires : goal.lane_from-requires
lane_from-requires c =
    let a = c.args in
    let p = c.requires in
    (p.0, p.1, (started (take (a.end - a.at) (drop a.at a.s.now)) p.2 c.start-c.result c.start-c.ensures).good)

pub returns : goal.returns
returns c =
    let a = c.args in (
      subst (λ xs. LaneOf a.s.now xs c.lane_from.result) (start-members (take (a.end - a.at) (drop a.at a.s.now)) c.requires.2 c.start-c.result c.start-c.ensures) c.lane_from.ensures.0,
      c.lane_from.ensures.1,
    )
