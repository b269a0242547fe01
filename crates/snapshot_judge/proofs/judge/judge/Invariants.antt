use Rattle.base.specs.Logic.{all, fold, ascending_from}
use Rattle.snapshot_tiers.specs.TierLaws.{from_idx}
use Rattle.snapshot_tiers.specs.Heads.{tier_of, no_head, raw_of, lower_from, set_all}
use Rattle.snapshot_lanes.specs.Lanes.{AllOpen, lists_of}
use Rattle.snapshot_judge.specs.Judge.{big_of, small_of, judged_from}
use mathlib.Core.Path.{◌≡◌}
use mathlib.Core.Bool.{true}
use Prim.Native.Nat.{◌≤◌}
use lib.ListN.{length, drop}
use Rattle.snapshot_judge.proofs.judge.judge.Given as goal

abbrev pub invariant-loop-f : goal.invariant-loop-f
invariant-loop-f l =
    AllOpen l.s l.lanes × (all (ascending_from l.lo) (lists_of l.s l.lanes) ≡ true) × (l.rows ≤ l.lo)
    × (judged_from l.rows l.next (from_idx l.lo (big_of l.s l.end l.n)) (tier_of (lists_of l.s l.lanes)) ≡ judged_from 0 l.next (big_of l.s l.end l.n) (small_of l.s l.at))
    × (l.b ≡ fold (lower_from l.lo) (raw_of l.n (drop l.end l.s)) no_head)

abbrev pub decreases-loop-f : goal.decreases-loop-f
decreases-loop-f l = length (set_all (from_idx l.lo (big_of l.s l.end l.n)) (tier_of (lists_of l.s l.lanes)))
