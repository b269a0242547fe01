-- `box_lines::put`. The invariant: the bytes so far stand where a paste of as many puts them.
-- Assumes nothing.
use Rattle.std.proofs.Common.{◌≡◌, length}
use lib.Seq.{paste}
use Rattle.box_lines.proofs.put.Given as goal

abbrev pub invariant-loop-i : goal.invariant-loop-i
invariant-loop-i l = (l.out ≡ paste l.initial.out l.at l.bytes l.i) × (length l.out ≡ length l.initial.out)
