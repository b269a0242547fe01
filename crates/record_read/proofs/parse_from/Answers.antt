-- `record_read::parse_from`. The tests before the hash say what is refused, or the payload's length; the hash's test by its laws.
-- Assumes nothing.
use mathlib.Core.Path.{sym, ◌∙◌}
use mathlib.Core.List.{List}
use Prim.Native.Nat.{ℕ}
use Rattle.std.proofs.lemmas.Result.{err_from_is_err_and}
use Rattle.blake3.specs.Mode.{hash_from}
use Rattle.format.specs.Calls.{decoded_of}
use Rattle.record_read.specs.DecodeLaws.{parse-mismatch, parse-payload}
use Rattle.record_read.proofs.parse_from.Goals as goal

pub returns-in_err-n : goal.returns-in_err-n
unfolding decoded_of
returns-in_err-n c =
    let f = rw c.in_err-n.was at c.frame.ensures in
    let p = err_from_is_err_and c.from_residual.result c.from_residual.ensures.1 in
    rw (p.1, p.2) (sym (f (hash_from c.args.start)))

pub returns-then-not-hash_matches : goal.returns-then-not-hash_matches
unfolding decoded_of
returns-then-not-hash_matches c =
    let a = c.args in
    let s : List ℕ = a.s.now in
    let f = rw c.in_ok-n.was at c.frame.ensures in
    let m = sym c.hash_matches.ensures ∙ c.if-not-hash_matches.true in
    sym (parse-mismatch (hash_from a.start) s c.in_ok-n.n f m)

pub returns : goal.returns
returns c =
    let a = c.args in
    let s : List ℕ = a.s.now in
    let f = rw c.in_ok-n.was at c.frame.ensures in
    let m = sym c.hash_matches.ensures ∙ c.if-not-hash_matches.false in
    c.decode_payload.ensures ∙ sym (parse-payload (hash_from a.start) s c.in_ok-n.n f m)
