-- `blake3_compress::compress` meets its contract. The loop's invariant: the first i words are the halves by xor.
-- Assumes nothing.
use Rattle.std.proofs.Common.{◌≡◌}
use Rattle.base.specs.Logic.{zeros}
use Rattle.blake3_compress.specs.FillLaws.{filled}
use Rattle.blake3_compress.proofs.Laws.{halves}
use Rattle.blake3_compress.proofs.compress.Given as goal

abbrev pub invariant-loop-i : goal.invariant-loop-i
invariant-loop-i l = l.next ≡ filled (halves l.v) l.i (zeros 8)
