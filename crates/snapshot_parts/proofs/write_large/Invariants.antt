-- `snapshot_parts::write_large`. The invariant: the large tier from row i on, put at p, gives what is wanted.
-- Assumes nothing.
use mathlib.Core.Path.{◌≡◌}
use Prim.Native.Nat.{◌+◌}
use lib.ListN.{length}
use Rattle.slices.specs.Places.{put_at}
use Rattle.snapshot_parts.specs.Parts.{large_from}
use Rattle.snapshot_parts.proofs.write_large.Given as goal

abbrev pub invariant-loop-i : goal.invariant-loop-i
invariant-loop-i l = (l.p + length (large_from l.n l.t l.i) ≡ l.at + length (large_from l.n l.t 0)) × (put_at l.out l.p (large_from l.n l.t l.i) ≡ put_at l.initial.out l.at (large_from l.n l.t 0)) × (length l.out ≡ length l.initial.out)
