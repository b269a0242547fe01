-- `record_write::write_insert`. Three parts laid end to end are the insert's bytes.
-- Assumes nothing.
use native.Mathlib.Omega.{arith}
use Rattle.cell_nursery.specs.Calls.{length_width}
use Rattle.record_write.specs.WriteLaws.{insert-laid}
use Rattle.record_write.proofs.write_insert.Goals as goal

pub returns : goal.returns
returns c =
    let a = c.args in
    let n = c.cell_len-n in
    let h = c.head_len in
    let p = c.requires in
    let u = c.type_inv.items in
    insert-laid (length_width a.wide) a.out.now _ _ _ a.items.now a.to a.at n.result h.result (λ i. omega (arith, u i)) p.0 (rw n.ensures p.2) n.ensures h.ensures
    c.copy_at.ensures c.write_le16.ensures c.copy_at-2.ensures
