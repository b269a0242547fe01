use Rattle.snapshot_tiers.specs.Payloads.{sets_of, rest_after, is_taken}
use Rattle.snapshot_lanes.specs.Lanes.{lane_list, AllOpen}
use mathlib.Core.Path.{◌≡◌}
use mathlib.Core.List.{◌++◌, map}
use mathlib.Core.Bool.{true}
use Prim.Native.Nat.{◌-◌}
use lib.ListN.{length, take, drop}
use Rattle.snapshot_lanes.proofs.lanes.open_all.Given as goal

abbrev pub invariant-loop-l : goal.invariant-loop-l
invariant-loop-l l =
    (length l.l-items ≡ 8) × AllOpen l.s l.l-items × (map (lane_list l.s) (take l.l-index l.l-items) ++ sets_of (8 - l.l-index) (drop l.p l.s) ≡ sets_of 8 (drop l.at l.s))
    × (is_taken (rest_after (8 - l.l-index) (drop l.p l.s)) ≡ true)
