use mathlib.Core.Path.{sym, subst, ◌∙◌}
use Rattle.snapshot_lanes.specs.Lanes.{LaneOf}
use Rattle.snapshot_lanes.specs.LaneLaws.{past-led, past-other}
use Rattle.snapshot_lanes.proofs.lanes.past_lane.Goals as goal

pub returns-then-leads : goal.returns-then-leads
returns-then-leads c =
    let a = c.args in
    subst (λ xs. LaneOf a.s.now xs c.lane_from.result) (past-led a.s.now a.l a.x (sym c.leads.ensures ∙ c.if-leads.true)) c.lane_from.ensures.0

pub returns : goal.returns
returns c = record { list = past-other c.args.s.now c.args.l c.args.x (sym c.leads.ensures ∙ c.if-leads.false); opened = c.requires }
