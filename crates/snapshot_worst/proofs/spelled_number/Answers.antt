use Rattle.snapshot_worst.specs.NumberLaws.{byte-below, byte_above, digit-next, digit-large, number-end}
use Rattle.std.proofs.Common.{inl, inr}
use mathlib.Core.Path.{◌≡◌, refl}
use Prim.Native.Nat.{◌-◌}
use lib.ListN.{get_or}
use native.Mathlib.Omega.{arith}
use Rattle.snapshot_worst.proofs.spelled_number.Goals as goal

pub loop-b-init : goal.loop-b-init
loop-b-init c = (omega arith, refl)

pub loop-b-preserved : goal.loop-b-preserved
loop-b-preserved c =
    let l = c.loop-b in
    let b = c.if-not-is_ascii_digit.ensures.cases in
    let d : c.from.result ≡ get_or c.args.s.now l.b-index 0 - 48 = omega arith in
    (omega arith, rw d (digit-next c.args.s.now l.n l.b-index _ c.loop-b-test.true refl l.invariant.1 b.0 b.1))

pub returns-then-not-is_ascii_digit : goal.returns-then-not-is_ascii_digit
returns-then-not-is_ascii_digit c =
    let l = c.loop-b in
    elim c.if-not-is_ascii_digit.ensures.cases [
      | inl h ↦ byte-below c.args.s.now l.n l.b-index _ c.loop-b-test.true refl l.invariant.1 h
      | inr h ↦ byte_above c.args.s.now l.n l.b-index _ c.loop-b-test.true refl l.invariant.1 h
    ]

pub returns-then-n-gt-MOST : goal.returns-then-n-gt-MOST
returns-then-n-gt-MOST c =
    let l = c.loop-b in
    let b = c.if-not-is_ascii_digit.ensures.cases in
    digit-large c.args.s.now l.n l.b-index _ c.loop-b-test.true refl l.invariant.1 b.0 b.1 (omega arith)

pub returns : goal.returns
returns c = let l = c.loop-b in number-end c.args.s.now l.n l.b-index (omega arith) (omega arith) l.invariant.1
