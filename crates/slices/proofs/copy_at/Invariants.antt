-- `slices::copy_at`. The invariant: the items so far stand where a paste of as many puts them.
-- Assumes nothing.
use Rattle.std.proofs.Common.{◌≡◌, length}
use Rattle.std.proofs.Math.Seq.{paste}
use Rattle.slices.proofs.copy_at.Given as goal

abbrev pub invariant-loop-j : goal.invariant-loop-j
invariant-loop-j g l = (l.out ≡ paste l.initial.out l.at l.s l.j) × (length l.out ≡ length l.initial.out)
