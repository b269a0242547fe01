-- `slices::all_from`. The invariant: the answer so far and the test of what is left give the answer.
use Rattle.std.proofs.Common.{◌∙◌, ap, arith, drop, length-drop}
use Rattle.std.proofs.Math.Seq.{take_all}
use Rattle.base.specs.Logic.{all}
use Rattle.slices.specs.Turns.{all-turn, all-end}
use Rattle.slices.proofs.all_from.Goals as goal

pub loop-x-preserved : goal.loop-x-preserved
loop-x-preserved g c =
    let l = c.loop-x in
    rw c.eq-same.ensures (all-turn (g.T.PartialEq.eq c.args.v) l.same _ l.x-index l.invariant c.x-item.result c.x-item.is (omega arith))

pub returns : goal.returns
returns g c =
    let a = c.args in
    let l = c.loop-x in
    all-end (g.T.PartialEq.eq a.v) l.same _ l.x-index l.invariant (omega arith)
    ∙ ap (all (g.T.PartialEq.eq a.v)) (take_all _ (drop a.at a.t.now) (simp length-drop (omega arith)))
