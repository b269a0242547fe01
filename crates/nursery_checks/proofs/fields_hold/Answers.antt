-- `nursery_checks::fields_hold` meets its contract. The invariant: the test of all rows is that of the rows from i on, the cells from `place` on.
use Rattle.cell_nursery.proofs.CheckLaws.{fields-late, fields-long, fields-off, fields-next, fields-past, fields-end}
use mathlib.Core.Path.{sym, ◌∙◌}
use native.Mathlib.Omega.{arith}
use Rattle.nursery_checks.proofs.fields_hold.Goals as goal
use Rattle.nursery_checks.proofs.fields_hold.Goals.{then-t-i-ge4294967296-via-then-t-i-ge4294967296 as late, then-t-i-ge4294967296-via-else-t-i-ge4294967296+then-len-gt65535 as long, then-t-i-ge4294967296-via-else-t-i-ge4294967296+else-len-gt65535+then-t-i as off, then-t-i-ge4294967296-via-else-t-i-ge4294967296+else-len-gt65535+else-t-i+then-bytes-place as past}

pub returns-then-t-i-ge4294967296 : goal.returns-then-t-i-ge4294967296
returns-then-t-i-ge4294967296 c =
    let l = c.loop-i in
    let a = c.args in
    elim c.then-t-i-ge4294967296.branch [
      | late w ↦ sym (l.invariant.1 ∙ fields-late a.n a.t.now l.i l.place a.bytes (omega arith) w.if-t-i-ge4294967296.true)
      | long w ↦ sym (l.invariant.1 ∙ fields-long a.n a.t.now l.i l.place a.bytes (omega arith) w.if-t-i-ge4294967296.false w.if-len-gt65535.true)
      | off w ↦ sym (l.invariant.1 ∙ fields-off a.n a.t.now l.i l.place a.bytes (omega arith) w.if-t-i-ge4294967296.false w.if-len-gt65535.false w.if-t-i.true)
      | past w ↦ sym (l.invariant.1 ∙ fields-past a.n a.t.now l.i l.place a.bytes (omega arith) w.if-t-i-ge4294967296.false w.if-len-gt65535.false w.if-t-i.false (omega arith))
    ]

pub loop-i-preserved : goal.loop-i-preserved
loop-i-preserved c =
    let l = c.loop-i in
    let a = c.args in
    (omega arith, l.invariant.1 ∙ fields-next a.n a.t.now l.i l.place a.bytes (omega arith) c.if-t-i-ge4294967296.false c.if-len-gt65535.false c.if-t-i.false)

pub returns : goal.returns
returns c =
    let l = c.loop-i in
    let a = c.args in
    sym (l.invariant.1 ∙ fields-end a.n a.t.now l.i l.place a.bytes (omega arith))
