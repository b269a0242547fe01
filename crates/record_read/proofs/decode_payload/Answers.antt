-- `record_read::decode_payload`. Each way out by its law; the numbers stand at places of the record.
-- Assumes nothing.
use mathlib.Core.Path.{sym, ◌∙◌}
use mathlib.Core.List.{List}
use Prim.Native.Nat.{ℕ}
use native.Mathlib.Omega.{arith}
use Rattle.delta_items.specs.WalkLaws.{removes-at, removes-past, fit-inserts, heads-fit}
use Rattle.format.specs.Calls.{decoded_of}
use Rattle.record_read.specs.DecodeLaws.{items_of, misfit-short, misfit-past, payload-taken}
use Rattle.record_read.proofs.decode_payload.Goals as goal

pub returns-then-n-lt16 : goal.returns-then-n-lt16
unfolding decoded_of
returns-then-n-lt16 c =
    let a = c.args in
    sym (misfit-short a.n a.s.now c.requires (omega arith))

pub returns-in_default : goal.returns-in_default
unfolding decoded_of
returns-in_default c =
    let a = c.args in
    let s : List ℕ = a.s.now in
    let i = c.read_le32-inserts in
    let r = c.read_le32-removes in
    let past = removes-past 2 i.result r.result (items_of a.n s) (sym c.removes_at.ensures ∙ c.in_default.is) in
    sym (misfit-past a.n s c.requires (omega arith) i.result r.result i.ensures r.ensures past)

pub cell_bytes-requires : goal.cell_bytes-requires
cell_bytes-requires c =
    let a = c.args in
    let s : List ℕ = a.s.now in
    let i = c.read_le32-inserts in
    let r = c.read_le32-removes in
    let there = removes-at 2 i.result r.result (items_of a.n s) c.in-Some.at (sym c.removes_at.ensures ∙ c.in-Some.is) in
    rw there.1 (heads-fit 2 i.result (items_of a.n s) (fit-inserts 2 i.result r.result (items_of a.n s) there.0))

pub returns : goal.returns
returns c =
    let a = c.args in
    let s : List ℕ = a.s.now in
    let i = c.read_le32-inserts in
    let r = c.read_le32-removes in
    let there = removes-at 2 i.result r.result (items_of a.n s) c.in-Some.at (sym c.removes_at.ensures ∙ c.in-Some.is) in
    rw (c.read_le64.ensures, c.cell_bytes.ensures, c.metadata_len.ensures, c.stated_hash-hash.ensures)
    (sym (payload-taken a.n s c.requires (omega arith) i.result r.result i.ensures r.ensures c.in-Some.at there.0 there.1))
