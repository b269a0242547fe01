use mathlib.Core.Path.{subst}
use Rattle.roaring_cursor.specs.Cursor.{members_of}
use Rattle.snapshot_lanes.specs.Lanes.{LaneOf}
use Rattle.snapshot_lanes.specs.LaneLaws.{payload-part}
use native.Mathlib.Omega.{arith}
use Rattle.snapshot_lanes.proofs.lanes.open_at.Goals as goal

pub open_part-requires : goal.open_part-requires
open_part-requires c =
    let a = c.args in
    let e = c.read_le64-size.ensures in
    (omega arith, omega (arith, c.requires.inside), rw (payload-part a.s.now a.p c.read_le64-size.result e) c.requires.bitmap)

pub returns : goal.returns
returns c =
    let a = c.args in
    let e = c.read_le64-size.ensures in (
      subst (λ xs. LaneOf a.s.now (members_of xs) c.open_part.result) (payload-part a.s.now a.p c.read_le64-size.result e) c.open_part.ensures.0,
      omega (arith, c.open_part.ensures.1),
    )
