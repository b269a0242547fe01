use Rattle.base.specs.Logic.{fold}
use Rattle.snapshot_tiers.specs.Heads.{no_head, raw_of, lower_from}
use mathlib.Core.Path.{◌≡◌}
use Prim.Native.Nat.{◌+◌, ◌-◌, ◌*◌}
use lib.ListN.{drop}
use Rattle.snapshot_tiers.proofs.large.scan.Given as goal

abbrev pub invariant-loop-i : goal.invariant-loop-i
invariant-loop-i l = fold (lower_from l.lo) (raw_of (l.n - l.i) (drop (l.at + 16 * l.i) l.s)) l.h ≡ fold (lower_from l.lo) (raw_of l.n (drop l.at l.s)) no_head
