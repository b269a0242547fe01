use Rattle.base.specs.Logic.{ascending_from}
use Rattle.snapshot_tiers.specs.Heads.{idxs_of}
use mathlib.Core.Path.{◌≡◌}
use Prim.Native.Nat.{◌-◌}
use lib.ListN.{drop, get_or}
use Rattle.snapshot_tiers.proofs.large.sorted.Given as goal

abbrev pub invariant-loop-i : goal.invariant-loop-i
invariant-loop-i l =
    ascending_from 0 (idxs_of l.n (drop l.at l.s)) ≡ ascending_from (get_or (idxs_of l.n (drop l.at l.s)) (l.i - 1) 0) (drop (l.i - 1) (idxs_of l.n (drop l.at l.s)))
