-- `box_lines::put`. The invariant: the bytes so far stand where a paste of as many puts them.
use Rattle.std.proofs.Common.{◌≡◌, refl, arith, rules}
use lib.Seq.{paste-zero}
use Rattle.slices.specs.Turns.{copy-turn}
use Rattle.box_lines.specs.LineLaws.{append-put}
use Rattle.box_lines.proofs.put.Goals as goal

pub loop-i-init : goal.loop-i-init
loop-i-init c = (paste-zero _ c.args.p.len c.args.bytes.now, refl)

pub loop-i-preserved : goal.loop-i-preserved
loop-i-preserved c =
    let a = c.args in
    (copy-turn a.out.now _ a.p.len a.bytes.now _ _ 0 c.loop-i.invariant.0 refl (search rules) (search rules), search rules)

pub returns : goal.returns
returns c =
    let a = c.args in
    let e : c.loop-i.i ≡ c.fitting-n.result = omega arith in
    append-put a.p a.bytes.now a.out.now _ c.fitting-n.result c.fitting-n.ensures (rw e at c.loop-i.invariant.0)
