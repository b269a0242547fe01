-- `snapshot_parts::sets_len`. The invariant: what is counted and what the sets from set k on take are together what all take.
-- Assumes nothing.
use mathlib.Core.Path.{◌≡◌}
use Prim.Native.Nat.{◌+◌}
use lib.ListN.{length}
use Rattle.snapshot_parts.specs.Parts.{sets_from}
use Rattle.snapshot_parts.proofs.sets_len.Given as goal

abbrev pub invariant-loop-k : goal.invariant-loop-k
invariant-loop-k l = l.len + length (sets_from l.n l.t l.k) ≡ length (sets_from l.n l.t 0)
