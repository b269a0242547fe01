-- `box_lines::put_field`.
-- Assumes nothing.
use native.Mathlib.Omega.{arith}
use Rattle.box_lines.specs.LineLaws.{field_put}
use Rattle.box_lines.proofs.put_field.Goals as goal

pub returns : goal.returns
returns c =
    let a = c.args in
    let d = c.decimal-n in
    field_put a.number a.end d.result _ _ _ _ (omega arith) d.ensures.len d.ensures.digits c.put-q.ensures c.put.ensures
