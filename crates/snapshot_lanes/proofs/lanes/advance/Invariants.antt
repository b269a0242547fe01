use Rattle.snapshot_tiers.specs.Heads.{past}
use Rattle.snapshot_lanes.specs.Lanes.{lane_list, AllOpen, lists_of}
use mathlib.Core.Path.{◌≡◌}
use mathlib.Core.List.{◌++◌, map}
use lib.ListN.{length, take, drop}
use Rattle.snapshot_lanes.proofs.lanes.advance.Given as goal

abbrev pub invariant-loop-l : goal.invariant-loop-l
invariant-loop-l l =
    (length l.l-items ≡ 8) × AllOpen l.s l.l-items
    × (map (lane_list l.s) (take l.l-index l.l-items) ++ map (λ y. past l.x (lane_list l.s y)) (drop l.l-index l.l-items) ≡ map (past l.x) (lists_of l.s l.fn.lanes))
