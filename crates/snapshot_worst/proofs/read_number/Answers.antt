use Rattle.std.proofs.Common.{inl, inr}
use Rattle.snapshot_worst.specs.NumberLaws.{no_digit, four-digits, digits-read}
use Rattle.snapshot_bound.specs.AskedLaws.{unended-prefix}
use mathlib.Core.Path.{sym, ap}
use native.Mathlib.Omega.{arith}
use lib.ListN.{length}
use Rattle.snapshot_worst.proofs.read_number.Goals as goal

pub returns-then-len-eq0 : goal.returns-then-len-eq0
returns-then-len-eq0 c =
    elim c.then-len-eq0.either [
      | inl h ↦ no_digit c.args.s.now c.unended_len-len.result c.unended_len-len.ensures h
      | inr h ↦ four-digits c.args.s.now c.unended_len-len.result c.unended_len-len.ensures h.1
    ]

pub slice_bounds-spelled_number-end : goal.slice_bounds-spelled_number-end
slice_bounds-spelled_number-end c =
    let p = ap length (unended-prefix c.args.s.now) in
    rw c.unended_len-len.ensures (sym p)

pub returns : goal.returns
returns c =
    digits-read c.args.s.now c.unended_len-len.result c.unended_len-len.ensures c.spelled_number.result (omega arith) c.if-len-gt3.false c.spelled_number.ensures
