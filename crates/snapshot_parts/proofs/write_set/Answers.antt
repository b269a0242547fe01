-- `snapshot_parts::write_set`. The bitmap is put, and its length before it.
-- Assumes nothing.
use native.Mathlib.Omega.{arith}
use Rattle.snapshot_parts.specs.PartLaws.{set-put, length-set}
use Rattle.snapshot_parts.proofs.write_set.Goals as goal

pub overflow_add-at : goal.overflow_add-at
overflow_add-at c =
    let a = c.args in
    omega (arith, length-set a.n a.t.now a.k, c.requires.1)

pub write64-end-requires : goal.write64-end-requires
write64-end-requires c =
    let a = c.args in
    (omega (arith, c.requires.0.laid.fits), c.requires.0.ascends, omega (arith, length-set a.n a.t.now a.k, c.requires.1))

pub overflow_sub-end : goal.overflow_sub-end
overflow_sub-end c = omega (arith, c.write64-end.ensures.1)

pub overflow_sub-end-2 : goal.overflow_sub-end-2
overflow_sub-end-2 c = omega (arith, c.write64-end.ensures.1)

pub write_le64-requires : goal.write_le64-requires
write_le64-requires c =
    let a = c.args in
    omega (arith, length-set a.n a.t.now a.k, c.requires.1)

pub returns : goal.returns
returns c =
    let a = c.args in
    let w = c.write64-end in
    let x = c.write_le64 in
    (set-put a.n a.t.now a.k a.out.now w.new.out x.new.out a.at w.result c.requires.1 w.ensures.0 w.ensures.1 x.ensures, omega (arith, w.ensures.1, length-set a.n a.t.now a.k))
