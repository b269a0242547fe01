-- `call_lists::lines::decode`. The invariant: so far n of the text's pairs stand in the output.
-- Assumes nothing.
use Rattle.std.proofs.Common.{◌≡◌, true, length}
use lib.Seq.{paste}
use Rattle.call_lists.specs.Lines.{pairs_of, is_hex}
use Rattle.call_lists.proofs.lines.decode.Given as goal

abbrev pub invariant-loop-n : goal.invariant-loop-n
invariant-loop-n l =
    (length l.out ≡ length l.initial.out) × (is_hex l.text ≡ true) × (l.out ≡ paste l.initial.out 0 (pairs_of l.text) l.n)
