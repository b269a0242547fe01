-- `slices::fill`. The invariant: so far the places hold what a paste of as many puts there.
use Rattle.std.proofs.Common.{◌+◌, ◌-◌, zero-add, arith}
use Rattle.slices.specs.Laws.{length_part}
use Rattle.slices.specs.Turns.{fill-turn}
use Rattle.slices.proofs.fill.Goals as goal

pub loop-x-preserved : goal.loop-x-preserved
loop-x-preserved g c =
    let a = c.args in
    let l = c.loop-x in
    let n = length_part a.t.now a.at (a.at + a.n - a.at) (omega arith) in
    rw (zero-add l.x-index) at (fill-turn _ l.x-items 0 a.n a.v l.x-index l.invariant (omega arith) (omega arith))
