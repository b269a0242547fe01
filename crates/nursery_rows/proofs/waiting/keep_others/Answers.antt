use Rattle.rows.specs.Wide.{key_of}
use Rattle.cell_nursery.proofs.KeepLaws.{keeping_start, keeping-turn}
use Rattle.nursery_rows.specs.Rows.{other}
use mathlib.Core.Path.{◌≡◌}
use native.Mathlib.Omega.{arith}
use Rattle.nursery_rows.proofs.waiting.keep_others.Goals as goal

pub loop-i-init : goal.loop-i-init
loop-i-init c = let a = c.args in keeping_start (other (key_of a.hash)) a.n a.t.now

pub loop-i-preserved : goal.loop-i-preserved
loop-i-preserved c =
    let k = c.keep_row-j.ensures in
    let l = c.loop-i in
    let a = c.args in
    rw (k.0, k.1) (keeping-turn (other (key_of a.hash)) a.n a.t.now c.requires l.t l.i l.j l.invariant (omega arith))

pub returns : goal.returns
returns c =
    let l = c.loop-i in
    let e : l.i ≡ c.args.n = omega (arith, l.invariant.within) in
    rw e at l.invariant
