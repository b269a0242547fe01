-- `record_read::decode_record`. The key is judged; then the record, by the hash from the mode's start.
-- Assumes nothing.
use mathlib.Core.Path.{sym, ap, ◌∙◌}
use mathlib.Core.List.{List}
use Prim.Native.Nat.{ℕ}
use Rattle.std.specs.Prelude.{option_copied}
use Rattle.std.proofs.lemmas.Result.{err_from_is_err_and}
use Rattle.blake3.specs.Mode.{mode_in}
use Rattle.blake3.specs.ModeLaws.{started, start-refused, start-taken}
use Rattle.format.specs.Calls.{decoded_of, decode_call}
use Rattle.format.proofs.ModeLaws.{decode-bad, decode-good}
use Rattle.record_read.proofs.decode_record.Goals as goal

pub returns-in_err-start : goal.returns-in_err-start
unfolding decoded_of
returns-in_err-start c =
    let a = c.args in
    let m = mode_in (option_copied a.key) in
    let p = err_from_is_err_and c.from_residual.result c.from_residual.ensures.1 in
    let q = start-refused m (sym c.in_err-start.was ∙ c.start_of.ensures) in
    rw (p.1, p.2, q.1) (sym (decode-bad m a.s.now q.0))

pub returns : goal.returns
returns c =
    let a = c.args in
    let m = mode_in (option_copied a.key) in
    let q = start-taken m (sym c.in_ok-start.was ∙ c.start_of.ensures) in
    c.decode_from.ensures
    ∙ ap (λ (h : List ℕ → List ℕ). decode_call h a.s.now) (started m q.1)
    ∙ sym (decode-good m a.s.now q.0)
