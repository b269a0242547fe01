use Rattle.snapshot_lanes.specs.Lanes.{lowest_lane}
use mathlib.Core.Path.{◌≡◌}
use lib.ListN.{drop}
use Rattle.snapshot_lanes.proofs.lanes.lowest.Given as goal

abbrev pub invariant-loop-k : goal.invariant-loop-k
invariant-loop-k l = l.h ≡ lowest_lane (drop l.k l.lanes)
