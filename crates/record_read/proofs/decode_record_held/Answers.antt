-- `record_read::decode_record_held`. What was parsed, judged by what it has left over.
-- Assumes nothing.
use mathlib.Core.Path.{ap, ◌∙◌}
use Rattle.std.proofs.lemmas.Result.{err_from_is_err_and}
use Rattle.slices.specs.ByteLaws.{u8-bytes}
use Rattle.format.specs.Record.{stated_hash}
use Rattle.record_read.specs.Judged.{exact_call}
use Rattle.record_read.specs.DecodeLaws.{used-parsed, exact-parsed, exact-refused}
use Rattle.record_read.proofs.decode_record_held.Goals as goal

pub returns-in_err-d : goal.returns-in_err-d
returns-in_err-d c =
    let s = c.args.s.now in
    let p = err_from_is_err_and c.from_residual.result c.from_residual.ensures.1 in
    rw (p.1, p.2) (exact-refused (stated_hash s) s (rw c.in_err-d.was at c.parse_record_held.ensures))

pub exact-requires : goal.exact-requires
exact-requires c =
    let s = c.args.s.now in
    used-parsed (stated_hash s) s (u8-bytes s (λ i. (c.type_inv.s i).fits)) (rw c.in_ok-d.was at c.parse_record_held.ensures)

pub returns : goal.returns
returns c =
    let s = c.args.s.now in
    c.exact.ensures ∙ ap exact_call (rw c.in_ok-d.was at c.parse_record_held.ensures) ∙ exact-parsed (stated_hash s) s
