-- `record_read::decode_from`. What was parsed, judged by what it has left over.
-- Assumes nothing.
use mathlib.Core.Path.{ap, ◌∙◌}
use Rattle.std.proofs.lemmas.Result.{err_from_is_err_and}
use Rattle.slices.specs.ByteLaws.{u8-bytes}
use Rattle.blake3.specs.Mode.{hash_from}
use Rattle.record_read.specs.Judged.{exact_call}
use Rattle.record_read.specs.DecodeLaws.{used-parsed, exact-parsed, exact-refused}
use Rattle.record_read.proofs.decode_from.Goals as goal

pub returns-in_err-d : goal.returns-in_err-d
returns-in_err-d c =
    let a = c.args in
    let p = err_from_is_err_and c.from_residual.result c.from_residual.ensures.1 in
    rw (p.1, p.2) (exact-refused (hash_from a.start) a.s.now (rw c.in_err-d.was at c.parse_from.ensures))

pub exact-requires : goal.exact-requires
exact-requires c =
    let a = c.args in
    let s = a.s.now in
    used-parsed (hash_from a.start) s (u8-bytes s (λ i. (c.type_inv.s i).fits)) (rw c.in_ok-d.was at c.parse_from.ensures)

pub returns : goal.returns
returns c =
    let a = c.args in
    c.exact.ensures ∙ ap exact_call (rw c.in_ok-d.was at c.parse_from.ensures) ∙ exact-parsed (hash_from a.start) a.s.now
