-- `record_write::encode_from`. The tests one after another, each way out by its law; then the record in its parts.
-- Assumes nothing.
use mathlib.Core.Path.{◌≡◌, sym, ap, ◌∙◌}
use Prim.Native.Nat.{ℕ, ◌+◌, ◌-◌, ◌*◌}
use native.Mathlib.Omega.{arith}
use lib.ListN.{length}
use Rattle.blake3.specs.Mode.{hash_from}
use Rattle.blake3.specs.ModeLaws.{length-hash_from}
use Rattle.cell_nursery.specs.Calls.{length_width}
use Rattle.delta_items.specs.Walk.{delta_in}
use Rattle.delta_items.specs.WalkLaws.{removes-at, removes-past, fit-inserts, heads-fit, cells_left}
use Rattle.format.specs.Payload.{payload_bytes}
use Rattle.format.specs.Record.{hashed}
use Rattle.record_write.specs.EncodeLaws.{few-inserts, few-removes, few_bytes, length-hashed, encode-broken, encode-long, encode-full, encode-taken, record-laid}
use Rattle.record_write.proofs.encode_from.Goals as goal

pub returns-in_default : goal.returns-in_default
returns-in_default c =
    let a = c.args in
    let w = length_width a.wide in
    let past = removes-past w a.inserts a.removes a.items.now (sym c.removes_at.ensures ∙ c.in_default.is) in
    sym (encode-broken (hash_from a.start) (length-hash_from a.start) a.id a.wide a.inserts a.removes a.items.now a.out.now past)

pub any_too_long-requires : goal.any_too_long-requires
any_too_long-requires c =
    let a = c.args in
    let w = length_width a.wide in
    let there = removes-at w a.inserts a.removes a.items.now c.in-Some.end (sym c.removes_at.ensures ∙ c.in-Some.is) in
    there.0

pub returns-then-any_too_long : goal.returns-then-any_too_long
returns-then-any_too_long c =
    let a = c.args in
    let w = length_width a.wide in
    let there = removes-at w a.inserts a.removes a.items.now c.in-Some.end (sym c.removes_at.ensures ∙ c.in-Some.is) in
    sym (encode-long (hash_from a.start) (length-hash_from a.start) a.id a.wide a.inserts a.removes a.items.now a.out.now there.0 (sym c.any_too_long.ensures ∙ c.if-any_too_long.true))

pub cell_bytes-cells-requires : goal.cell_bytes-cells-requires
cell_bytes-cells-requires c =
    let a = c.args in
    let w = length_width a.wide in
    let there = removes-at w a.inserts a.removes a.items.now c.in-Some.end (sym c.removes_at.ensures ∙ c.in-Some.is) in
    rw there.1 (heads-fit w a.inserts a.items.now (fit-inserts w a.inserts a.removes a.items.now there.0))

pub metadata_len-metadata-requires : goal.metadata_len-metadata-requires
metadata_len-metadata-requires c =
    let a = c.args in
    let w = length_width a.wide in
    let there = removes-at w a.inserts a.removes a.items.now c.in-Some.end (sym c.removes_at.ensures ∙ c.in-Some.is) in
    let short = sym c.any_too_long.ensures ∙ c.if-any_too_long.false in
    (few-inserts w a.inserts a.removes a.items.now short, few-removes w a.inserts a.removes a.items.now short)

pub overflow_add-payload : goal.overflow_add-payload
overflow_add-payload c =
    let a = c.args in
    let w = length_width a.wide in
    let there = removes-at w a.inserts a.removes a.items.now c.in-Some.end (sym c.removes_at.ensures ∙ c.in-Some.is) in
    let short = sym c.any_too_long.ensures ∙ c.if-any_too_long.false in
    let cells = c.cell_bytes-cells.ensures ∙ ap (λ (e : ℕ). e - a.inserts * (44 + w)) there.1 ∙ cells_left w a.inserts a.items.now (fit-inserts w a.inserts a.removes a.items.now there.0) in
    omega (arith, c.metadata_len-metadata.ensures, cells, few-inserts w a.inserts a.removes a.items.now short, few-removes w a.inserts a.removes a.items.now short, few_bytes w a.inserts a.removes a.items.now short)

pub overflow_add-len : goal.overflow_add-len
overflow_add-len c =
    let a = c.args in
    let w = length_width a.wide in
    let there = removes-at w a.inserts a.removes a.items.now c.in-Some.end (sym c.removes_at.ensures ∙ c.in-Some.is) in
    let short = sym c.any_too_long.ensures ∙ c.if-any_too_long.false in
    let cells = c.cell_bytes-cells.ensures ∙ ap (λ (e : ℕ). e - a.inserts * (44 + w)) there.1 ∙ cells_left w a.inserts a.items.now (fit-inserts w a.inserts a.removes a.items.now there.0) in
    omega (arith, c.metadata_len-metadata.ensures, cells, few-inserts w a.inserts a.removes a.items.now short, few-removes w a.inserts a.removes a.items.now short, few_bytes w a.inserts a.removes a.items.now short)

pub returns-then-out-len : goal.returns-then-out-len
returns-then-out-len c =
    let a = c.args in
    let w = length_width a.wide in
    let there = removes-at w a.inserts a.removes a.items.now c.in-Some.end (sym c.removes_at.ensures ∙ c.in-Some.is) in
    let short = sym c.any_too_long.ensures ∙ c.if-any_too_long.false in
    let cells = c.cell_bytes-cells.ensures ∙ ap (λ (e : ℕ). e - a.inserts * (44 + w)) there.1 ∙ cells_left w a.inserts a.items.now (fit-inserts w a.inserts a.removes a.items.now there.0) in
    sym (encode-full (hash_from a.start) (length-hash_from a.start) a.id a.wide a.inserts a.removes a.items.now a.out.now there.0 short (omega (arith, c.metadata_len-metadata.ensures, cells)))

pub write_body-requires : goal.write_body-requires
write_body-requires c =
    let a = c.args in
    let w = length_width a.wide in
    let there = removes-at w a.inserts a.removes a.items.now c.in-Some.end (sym c.removes_at.ensures ∙ c.in-Some.is) in
    let short = sym c.any_too_long.ensures ∙ c.if-any_too_long.false in
    let cells = c.cell_bytes-cells.ensures ∙ ap (λ (e : ℕ). e - a.inserts * (44 + w)) there.1 ∙ cells_left w a.inserts a.items.now (fit-inserts w a.inserts a.removes a.items.now there.0) in
    let m = c.metadata_len-metadata.ensures in
    record { fit = there.0; short = short; place = there.1; stated = omega (arith, m, cells); fits = omega (arith, m, cells) }

pub returns : goal.returns
returns c =
    let a = c.args in
    let w = length_width a.wide in
    let there = removes-at w a.inserts a.removes a.items.now c.in-Some.end (sym c.removes_at.ensures ∙ c.in-Some.is) in
    let short = sym c.any_too_long.ensures ∙ c.if-any_too_long.false in
    let cells = c.cell_bytes-cells.ensures ∙ ap (λ (e : ℕ). e - a.inserts * (44 + w)) there.1 ∙ cells_left w a.inserts a.items.now (fit-inserts w a.inserts a.removes a.items.now there.0) in
    let m = c.metadata_len-metadata in
    let r = c.cell_bytes-cells in
    let d = delta_in w a.inserts a.removes a.items.now in
    let k = 40 + (m.result + r.result) - 32 in
    let l : length (hashed (payload_bytes a.id d)) ≡ k = length-hashed a.id w a.inserts a.removes a.items.now there.0 (hash_from a.start) (length-hash_from a.start) ∙ omega (arith, m.ensures, cells) in
    let o = c.write_hash.ensures ∙ record-laid (hash_from a.start) (length-hash_from a.start) a.id d a.out.now _ k l (omega (arith, m.ensures)) c.write_body.ensures in
    rw (o, m.ensures) (sym (encode-taken (hash_from a.start) (length-hash_from a.start) a.id a.wide a.inserts a.removes a.items.now a.out.now there.0 short r.result cells (omega (arith, m.ensures, cells))))
