use Rattle.snapshot_lanes.specs.Ends.{sets_end}
use mathlib.Core.Path.{◌≡◌}
use Prim.Native.Nat.{◌-◌, ◌≤◌}
use lib.ListN.{length}
use Rattle.snapshot_lanes.proofs.sets.sets_end.Given as goal

abbrev pub invariant-loop : goal.invariant-loop
invariant-loop l = (l.p ≤ length l.s) × (sets_end (8 - l.counter) l.p l.s ≡ sets_end 8 l.at l.s)
