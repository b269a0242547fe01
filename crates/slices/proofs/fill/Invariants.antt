-- `slices::fill`. The invariant: so far the places hold what a paste of as many puts there.
-- Assumes nothing.
use Rattle.std.proofs.Common.{◌≡◌, replicate}
use Rattle.std.proofs.Math.Seq.{paste}
use Rattle.slices.proofs.fill.Given as goal

abbrev pub invariant-loop-x : goal.invariant-loop-x
invariant-loop-x g l = l.x-items ≡ paste l.initial.x-items 0 (replicate l.n l.v) l.x-index
