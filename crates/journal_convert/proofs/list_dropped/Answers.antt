-- `journal_convert::list_dropped`. The two numbers one behind the other, or nothing.
-- Assumes nothing.
use mathlib.Core.Path.{sym}
use native.Mathlib.Omega.{arith}
use Rattle.slices.specs.PlaceLaws.{put_at-none}
use Rattle.journal_convert.specs.PutLaws.{listed-none, length-listed, listed-put}
use Rattle.journal_convert.proofs.list_dropped.Goals as goal

pub returns-then-count-eq0 : goal.returns-then-count-eq0
returns-then-count-eq0 c =
    let a = c.args in
    rw (listed-none a.place a.count c.if-count-eq0.true) (omega arith, sym (put_at-none a.dropped.now a.at))

pub write_le64-requires : goal.write_le64-requires
write_le64-requires c =
    let a = c.args in
    omega (arith, length-listed a.place a.count (omega arith))

pub write_le64-requires-2 : goal.write_le64-requires-2
write_le64-requires-2 c =
    let a = c.args in
    omega (arith, length-listed a.place a.count (omega arith))

pub returns : goal.returns
returns c =
    let a = c.args in
    let l = length-listed a.place a.count (omega arith) in
    (rw l, listed-put a.dropped.now a.at a.place a.count (omega arith) (omega arith) _ _ c.write_le64.ensures c.write_le64-2.ensures)
