-- `slices::copy_at`. The invariant: the items so far stand where a paste of as many puts them.
use Rattle.std.proofs.Common.{rules, arith}
use Rattle.slices.specs.Turns.{copy-turn}
use Rattle.slices.proofs.copy_at.Goals as goal

pub loop-j-preserved : goal.loop-j-preserved
loop-j-preserved g c =
    let a = c.args in
    let l = c.loop-j in
    (copy-turn a.out.now l.out a.at a.s.now l.j c.index-s-j.result c.index-s-j.result l.invariant.0 c.index-s-j.is (omega arith) (omega arith), search rules)
