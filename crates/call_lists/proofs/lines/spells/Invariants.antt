-- `call_lists::lines::spells`. The invariant: the comparison of what is left gives the answer.
-- Assumes nothing.
use Rattle.std.proofs.Common.{◌≡◌, drop}
use Rattle.base.specs.Logic.{eqb_list}
use Rattle.call_lists.specs.Lines.{pairs_of}
use Rattle.call_lists.proofs.lines.spells.Given as goal

abbrev pub invariant-loop-n : goal.invariant-loop-n
invariant-loop-n l = eqb_list (drop l.n (pairs_of l.text)) (drop l.n l.bytes) ≡ eqb_list (pairs_of l.text) l.bytes
