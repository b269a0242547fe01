use Rattle.rows.specs.Keys.{place}
use Rattle.snapshot_tiers.specs.Heads.{idxs_of}
use Prim.Native.Nat.{◌-◌, ◌≤◌}
use lib.ListN.{drop}
use Rattle.snapshot_tiers.proofs.large.count_below.Given as goal

abbrev pub invariant-loop-a : goal.invariant-loop-a
invariant-loop-a l = (l.a ≤ place l.lo (idxs_of l.n (drop l.at l.s))) × (place l.lo (idxs_of l.n (drop l.at l.s)) ≤ l.z) × (l.z ≤ l.n)

abbrev pub decreases-loop-a : goal.decreases-loop-a
decreases-loop-a l = l.z - l.a
