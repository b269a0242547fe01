-- `call_lists::lines::line_end`. The invariant: no line feed stands before the index.
-- Assumes nothing.
use Rattle.std.proofs.Common.{◌≡◌}
use Rattle.call_lists.specs.Lines.{line_end}
use Rattle.call_lists.proofs.lines.line_end.Given as goal

abbrev pub invariant-loop-i : goal.invariant-loop-i
invariant-loop-i l = line_end l.s l.i ≡ line_end l.s l.at
