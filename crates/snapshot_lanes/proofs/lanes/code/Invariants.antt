use Rattle.snapshot_lanes.specs.Lanes.{code_lanes}
use mathlib.Core.Path.{◌≡◌}
use lib.ListN.{drop}
use Rattle.snapshot_lanes.proofs.lanes.code.Given as goal

abbrev pub invariant-loop-k : goal.invariant-loop-k
invariant-loop-k l = l.sum ≡ code_lanes l.k l.x (drop l.k l.lanes)
