-- `snapshot_parts::large_len`. The invariant: what is counted and what the large tier from row i on takes are together what all takes.
-- Assumes nothing.
use mathlib.Core.Path.{◌≡◌}
use Prim.Native.Nat.{◌+◌}
use lib.ListN.{length}
use Rattle.snapshot_parts.specs.Parts.{large_from}
use Rattle.snapshot_parts.proofs.large_len.Given as goal

abbrev pub invariant-loop-i : goal.invariant-loop-i
invariant-loop-i l = l.len + length (large_from l.n l.t l.i) ≡ length (large_from l.n l.t 0)
