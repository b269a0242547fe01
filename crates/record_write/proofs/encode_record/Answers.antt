-- `record_write::encode_record`. The key is judged; then the record is written, by the hash from the mode's start.
-- Assumes nothing.
use mathlib.Core.Path.{sym, ap, ◌∙◌}
use mathlib.Core.List.{List}
use Prim.Native.Nat.{ℕ}
use Rattle.std.specs.Prelude.{option_copied}
use Rattle.std.proofs.lemmas.Result.{err_from_is_err_and}
use Rattle.blake3.specs.Mode.{mode_in}
use Rattle.blake3.specs.ModeLaws.{started, start-refused, start-taken}
use Rattle.format.specs.Calls.{encoded_out, encode_call}
use Rattle.format.proofs.ModeLaws.{encode-bad, encode-good}
use Rattle.record_write.proofs.encode_record.Goals as goal

pub returns-in_err-start : goal.returns-in_err-start
unfolding encoded_out
returns-in_err-start c =
    let a = c.args in
    let m = mode_in (option_copied a.key) in
    let p = err_from_is_err_and c.from_residual.result c.from_residual.ensures.1 in
    let q = start-refused m (sym c.in_err-start.was ∙ c.start_of.ensures) in
    rw (p.1, p.2, q.1) (sym (encode-bad m a.id a.wide a.inserts a.removes a.items.now a.out.now q.0))

pub returns : goal.returns
returns c =
    let a = c.args in
    let m = mode_in (option_copied a.key) in
    let q = start-taken m (sym c.in_ok-start.was ∙ c.start_of.ensures) in
    c.encode_from.ensures
    ∙ ap (λ (h : List ℕ → List ℕ). encode_call h a.id a.wide a.inserts a.removes a.items.now a.out.now) (started m q.1)
    ∙ sym (encode-good m a.id a.wide a.inserts a.removes a.items.now a.out.now q.0)
