use Rattle.snapshot_lanes.specs.LaneLaws.{small-none, small-some}
use mathlib.Core.Path.{sym, ◌∙◌}
use Rattle.snapshot_lanes.proofs.lanes.small_head.Goals as goal

pub returns-in_err-h : goal.returns-in_err-h
returns-in_err-h c = rw c.from_residual.ensures (small-none c.args.lanes (sym c.in_err-h.was ∙ c.lowest.ensures))

pub returns : goal.returns
returns c = small-some c.args.lanes c.in_ok-h.h c.code-c.result (sym c.in_ok-h.was ∙ c.lowest.ensures) c.code-c.ensures.0
