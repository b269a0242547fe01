-- `blake3::bytes` meets its contract. The loop's invariant: the bytes of the first i words stand.
use mathlib.Core.Path.{refl}
use native.Mathlib.Omega.{arith}
use Rattle.blake3.proofs.Laws.{spelled, spelled-more, spelled-all}
use Rattle.blake3.proofs.bytes.Goals as goal

pub loop-i-init : goal.loop-i-init
unfolding spelled
loop-i-init c = refl

pub loop-i-preserved : goal.loop-i-preserved
loop-i-preserved c = spelled-more _ _ c.loop-i.invariant c.write_le32.ensures

pub returns : goal.returns
returns c = spelled-all _ c.loop-i.i (omega arith) (omega arith) c.loop-i.invariant
