-- `record_read::parse_record_held`. As `parse_from`, and the stated hash is the one that is stated.
-- Assumes nothing.
use mathlib.Core.Path.{refl, sym, ◌∙◌}
use Rattle.std.proofs.lemmas.Result.{err_from_is_err_and}
use Rattle.format.specs.Record.{stated_hash}
use Rattle.format.specs.Calls.{decoded_of}
use Rattle.record_read.specs.DecodeLaws.{parse-held}
use Rattle.record_read.proofs.parse_record_held.Goals as goal

pub returns-in_err-frame : goal.returns-in_err-frame
unfolding decoded_of
returns-in_err-frame c =
    let f = rw c.in_err-frame.was at c.frame.ensures in
    let p = err_from_is_err_and c.from_residual.result c.from_residual.ensures.1 in
    rw (p.1, p.2) (sym (f (stated_hash c.args.s.now)))

pub returns : goal.returns
returns c =
    let f = rw c.in_ok-frame.was at c.frame.ensures in
    c.decode_payload.ensures ∙ sym (parse-held (stated_hash c.args.s.now) c.args.s.now c.in_ok-frame.field-0 f (λ w. refl))
