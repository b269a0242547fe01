-- `slices::equal`. The invariant: the answer so far and the comparison of what is left give the answer.
-- Assumes nothing.
use Rattle.std.proofs.Common.{◌≡◌, ◌&&◌, drop}
use Rattle.base.specs.Logic.{eqb_list}
use Rattle.slices.proofs.equal.Given as goal

abbrev pub invariant-loop-i : goal.invariant-loop-i
invariant-loop-i l = (l.same && eqb_list (drop l.i l.a) (drop l.i l.b)) ≡ eqb_list l.a l.b
