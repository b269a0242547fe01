-- `call_lists::lines::is_hex`. The invariant: the test of the pairs that are left gives the answer.
-- Assumes nothing.
use Rattle.std.proofs.Common.{◌≡◌, drop}
use Rattle.base.specs.Logic.{all}
use Rattle.call_lists.specs.Lines.{pairs_of, is_byte}
use Rattle.call_lists.proofs.lines.is_hex.Given as goal

abbrev pub invariant-loop-n : goal.invariant-loop-n
invariant-loop-n l = all is_byte (drop l.n (pairs_of l.text)) ≡ all is_byte (pairs_of l.text)
