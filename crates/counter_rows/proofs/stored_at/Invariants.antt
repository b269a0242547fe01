use Prim.Native.Nat.{ℕ, ◌*◌, ◌<◌}
use lib.ListN.{get_or}
use Rattle.counter_rows.proofs.stored_at.Given as goal

-- each index after which the look-up goes on, and each that stands before its start, is below the one sought
abbrev pub invariant-loop-k : goal.invariant-loop-k
invariant-loop-k l = (j : ℕ) → j < l.k → get_or l.t (j * 2) 0 < l.idx
