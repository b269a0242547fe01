use Rattle.counters.proofs.MaintenanceLaws.{members_from}
use mathlib.Core.Path.{◌≡◌}
use Prim.Native.Nat.{◌+◌, ◌≤◌}
use Rattle.counter_sets.proofs.members.Given as goal

abbrev pub invariant-loop-i : goal.invariant-loop-i
invariant-loop-i l = (l.found ≤ l.i) × (l.found + members_from l.k l.n l.t l.i ≡ members_from l.k l.n l.t 0)
