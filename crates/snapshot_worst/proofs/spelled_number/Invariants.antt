use Rattle.snapshot_bound.specs.Asked.{spelled}
use mathlib.Core.Path.{◌≡◌}
use Prim.Native.Nat.{◌≤◌}
use lib.ListN.{drop}
use Rattle.snapshot_worst.proofs.spelled_number.Given as goal

abbrev pub invariant-loop-b : goal.invariant-loop-b
invariant-loop-b l = (l.n ≤ 200) × (spelled 0 l.s ≡ spelled l.n (drop l.b-index l.s))
