-- `snapshot_parts::write_sets`. The invariant: the sets from set k on, put at p, give what is wanted.
-- Assumes nothing.
use mathlib.Core.Path.{◌≡◌}
use Prim.Native.Nat.{◌+◌}
use lib.ListN.{length}
use Rattle.slices.specs.Places.{put_at}
use Rattle.snapshot_parts.specs.Parts.{sets_from}
use Rattle.snapshot_parts.proofs.write_sets.Given as goal

abbrev pub invariant-loop-k : goal.invariant-loop-k
invariant-loop-k l = (l.p + length (sets_from l.n l.t l.k) ≡ l.at + length (sets_from l.n l.t 0)) × (put_at l.out l.p (sets_from l.n l.t l.k) ≡ put_at l.initial.out l.at (sets_from l.n l.t 0)) × (length l.out ≡ length l.initial.out)
