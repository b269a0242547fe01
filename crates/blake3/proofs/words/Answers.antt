-- `blake3::words` meets its contract. The loop's invariant: the first i words stand.
use mathlib.Core.Path.{refl}
use native.Mathlib.Omega.{arith}
use Rattle.blake3.specs.Spec.{words_of}
use Rattle.blake3_compress.specs.FillLaws.{filled, filled_more, filled-all}
use Rattle.blake3.proofs.Laws.{word_of}
use Rattle.blake3.proofs.words.Goals as goal

pub loop-i-init : goal.loop-i-init
unfolding filled
loop-i-init g c = refl

pub loop-i-preserved : goal.loop-i-preserved
loop-i-preserved g c = filled_more (word_of _) _ _ c.loop-i.invariant c.read_le32.ensures

pub returns : goal.returns
unfolding words_of
returns g c = filled-all (word_of _) c.loop-i.i g.row.N (omega arith) c.loop-i.invariant
