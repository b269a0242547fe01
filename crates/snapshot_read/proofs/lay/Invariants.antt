use Rattle.base.specs.Logic.{all, fold, ascending_from}
use Rattle.rows.specs.Table.{table_of}
use Rattle.counters.specs.Layout.{count_row}
use Rattle.snapshot_tiers.specs.TierLaws.{from_idx}
use Rattle.snapshot_tiers.specs.Heads.{tier_of, no_head, raw_of, lower_from, set_all}
use Rattle.snapshot_lanes.specs.Lanes.{AllOpen, lists_of}
use Rattle.snapshot_judge.specs.Judge.{big_of}
use Rattle.snapshot_judge.specs.Decide.{counts_of}
use mathlib.Core.Path.{◌≡◌}
use mathlib.Core.Bool.{true}
use lib.ListN.{length, take, drop}
use Rattle.snapshot_read.proofs.lay.Given as goal

abbrev pub invariant-loop-k : goal.invariant-loop-k
invariant-loop-k l =
    (length l.t ≡ length l.initial.t) × AllOpen l.s l.lanes × (all (ascending_from l.lo) (lists_of l.s l.lanes) ≡ true)
    × (l.t ≡ table_of count_row (length l.initial.t) (take l.k (counts_of l.s l.p.end l.p.large)))
    × (drop l.k (counts_of l.s l.p.end l.p.large) ≡ set_all (from_idx l.lo (big_of l.s l.p.end l.p.large)) (tier_of (lists_of l.s l.lanes)))
    × (l.b ≡ fold (lower_from l.lo) (raw_of l.p.large (drop l.p.end l.s)) no_head)
