-- `snapshot_write::serialize_held`. The length decides, before anything is written.
-- Assumes nothing.
use native.Mathlib.Omega.{arith}
use Rattle.snapshot_write.specs.CallLaws.{serialize-full, serialize-taken}
use Rattle.snapshot_write.proofs.serialize_held.Goals as goal

pub returns-then-out-len : goal.returns-then-out-len
returns-then-out-len c =
    let l = c.serialized_len_held-len in
    serialize-full c.args.c c.args.t.now c.args.out.now c.requires l.result l.ensures (omega (arith, c.if-out-len.true))

pub write_snapshot-requires : goal.write_snapshot-requires
write_snapshot-requires c = (c.requires, omega (arith, c.serialized_len_held-len.ensures, c.if-out-len.false))

pub returns : goal.returns
returns c =
    let l = c.serialized_len_held-len in
    serialize-taken c.args.c c.args.t.now c.args.out.now c.requires l.result l.ensures (omega (arith, c.if-out-len.false)) c.write_snapshot.new.out c.write_snapshot.ensures
