use native.Mathlib.Omega.{arith}
use Rattle.counter_apply.specs.RoomLaws.{batch-begin, batch-apart, batch-end}
use Rattle.counter_apply.proofs.put_rows.Goals as goal

pub put_all-s-requires : goal.put_all-s-requires
put_all-s-requires g c =
    let k = c.new_rows-k in
    record { halves = (batch-begin c.args.n c.args.t.now (g.B.Transitions.words c.args.b) c.requires.in_order k.result k.ensures (omega arith)).0; b_in_bounds = (batch-begin c.args.n c.args.t.now (g.B.Transitions.words c.args.b) c.requires.in_order k.result k.ensures (omega arith)).1 }

pub merge-requires : goal.merge-requires
merge-requires g c =
    let k = c.new_rows-k in
    let f = c.put_all-s in
    batch-apart c.args.n c.args.t.now (g.B.Transitions.words c.args.b) c.requires.in_order k.result k.ensures (omega arith) f.result _ f.ensures.0 f.ensures.1

pub returns : goal.returns
returns g c =
    let k = c.new_rows-k in
    let f = c.put_all-s in
    let m = c.merge in
    batch-end c.args.n c.args.t.now (g.B.Transitions.words c.args.b) c.requires.in_order k.result k.ensures (omega arith) f.result _ f.ensures.0 f.ensures.1 m.result _ m.ensures.0 m.ensures.1
