use Rattle.base.specs.Logic.{any}
use Rattle.snapshot_tiers.specs.Heads.{low, raw_of}
use mathlib.Core.Path.{◌≡◌}
use Prim.Native.Nat.{◌+◌, ◌-◌, ◌*◌}
use lib.ListN.{drop}
use Rattle.snapshot_tiers.proofs.large.any_low.Given as goal

abbrev pub invariant-loop-i : goal.invariant-loop-i
invariant-loop-i l = any low (raw_of (l.n - l.i) (drop (l.at + 16 * l.i) l.s)) ≡ any low (raw_of l.n (drop l.at l.s))
