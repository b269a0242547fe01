-- `record_write::write_head`. Four numbers laid end to end.
-- Assumes nothing.
use native.Mathlib.Omega.{arith}
use Rattle.record_write.specs.WriteLaws.{head-laid}
use Rattle.record_write.proofs.write_head.Goals as goal

pub returns : goal.returns
returns c =
    let a = c.args in
    head-laid a.out.now _ _ _ _ a.payload a.id a.inserts a.removes (omega arith) c.write_le64.ensures c.write_le64-2.ensures c.write_le32.ensures c.write_le32-2.ensures
