-- `snapshot_write::write_snapshot`. Version, next and live, the sets and the large tier, one behind the other.
-- Assumes nothing.
use native.Mathlib.Omega.{arith}
use lib.ListN.{length-set}
use Rattle.snapshot_parts.specs.PartLaws.{length-snapshot, whole-put}
use Rattle.counters.proofs.RowLaws.{in_order}
use Rattle.snapshot_write.proofs.write_snapshot.Goals as goal

pub bounds-out-0 : goal.bounds-out-0
bounds-out-0 c =
    omega (arith, length-snapshot c.args.c c.args.t.now, c.requires.1)

pub write_le64-requires : goal.write_le64-requires
write_le64-requires c =
    omega (arith, length-set c.args.out.now 0 1, length-snapshot c.args.c c.args.t.now, c.requires.1)

pub write_le64-requires-2 : goal.write_le64-requires-2
write_le64-requires-2 c =
    omega (arith, length-set c.args.out.now 0 1, length-snapshot c.args.c c.args.t.now, c.requires.1)

pub write_sets-end-requires : goal.write_sets-end-requires
write_sets-end-requires c =
    (in_order c.args.c c.args.t.now c.requires.0, omega (arith, length-set c.args.out.now 0 1, length-snapshot c.args.c c.args.t.now, c.requires.1))

pub write_large-requires : goal.write_large-requires
write_large-requires c =
    (in_order c.args.c c.args.t.now c.requires.0, omega (arith, c.write_sets-end.ensures.1, length-set c.args.out.now 0 1, length-snapshot c.args.c c.args.t.now, c.requires.1))

pub shape_of-out : goal.shape_of-out
shape_of-out c =
    omega (arith, length-set c.args.out.now 0 1)

pub returns : goal.returns
returns c =
    let a = c.args in
    let w = c.write_le64 in
    let x = c.write_le64-2 in
    let y = c.write_sets-end in
    let z = c.write_large in
    whole-put a.c a.t.now a.out.now w.new.out x.new.out y.new.out z.new.out y.result (omega (arith, length-snapshot a.c a.t.now, c.requires.1)) w.ensures x.ensures y.ensures.0 y.ensures.1 z.ensures
