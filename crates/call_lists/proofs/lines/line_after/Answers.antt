-- `call_lists::lines::line_after`.
-- Assumes nothing.
use Rattle.std.proofs.Common.{length, arith, rules, le-ltb, lt-ltb}
use Rattle.call_lists.proofs.lines.line_after.Goals as goal

pub returns-then-end-s : goal.returns-then-end-s
returns-then-end-s c = let a = c.args in (search rules, search rules, rw (lt-ltb a.end (length a.s.now) (omega arith)))

pub returns-else-end-s : goal.returns-else-end-s
returns-else-end-s c = let a = c.args in (search rules, search rules, rw (le-ltb a.end (length a.s.now) (omega arith)))
