-- `slices::all_from`. The invariant: the answer so far and the test of what is left give the answer.
-- Assumes nothing.
use Rattle.std.proofs.Common.{◌≡◌, ◌&&◌, drop}
use Rattle.base.specs.Logic.{all}
use Rattle.slices.proofs.all_from.Given as goal

abbrev pub invariant-loop-x : goal.invariant-loop-x
invariant-loop-x g l = (l.same && all (g.T.PartialEq.eq l.v) (drop l.x-index l.x-items)) ≡ all (g.T.PartialEq.eq l.v) l.x-items
