-- `blake3::words` meets its contract. The loop's invariant: the first i words stand.
-- Assumes nothing.
use mathlib.Core.Path.{◌≡◌}
use Rattle.base.specs.Logic.{zeros}
use Rattle.blake3_compress.specs.FillLaws.{filled}
use Rattle.blake3.proofs.Laws.{word_of}
use Rattle.blake3.proofs.words.Given as goal

abbrev pub invariant-loop-i : goal.invariant-loop-i
invariant-loop-i g l = l.words ≡ filled (word_of l.s) l.i (zeros g.row.N)
