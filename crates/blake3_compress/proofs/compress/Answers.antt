-- `blake3_compress::compress` meets its contract. The loop's invariant: the first i words are the halves by xor.
use Rattle.std.proofs.Common.{refl, arith}
use Rattle.blake3_compress.specs.FillLaws.{filled, filled-all}
use Rattle.blake3_compress.proofs.Laws.{halves, halves-more, compressed}
use Rattle.blake3_compress.proofs.compress.Goals as goal

pub loop-i-init : goal.loop-i-init
unfolding filled
loop-i-init c = refl

pub loop-i-preserved : goal.loop-i-preserved
loop-i-preserved c = halves-more _ _ c.loop-i.invariant

pub returns : goal.returns
returns c =
    compressed _ _ _ _ _ c.start-v.ensures c.rounds.ensures
    (filled-all (halves _) c.loop-i.i 8 (omega arith) c.loop-i.invariant)
