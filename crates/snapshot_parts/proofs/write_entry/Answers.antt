-- `snapshot_parts::write_entry`. Two numbers are put, one behind the other.
-- Assumes nothing.
use native.Mathlib.Omega.{arith}
use Rattle.snapshot_parts.specs.PartLaws.{two-put}
use Rattle.snapshot_parts.proofs.write_entry.Goals as goal

pub returns : goal.returns
returns c =
    let a = c.args in
    let w = c.write_le64 in
    let x = c.write_le64-2 in
    two-put a.out.now w.new.out x.new.out a.at a.idx a.count (omega (arith, c.requires)) w.ensures x.ensures
