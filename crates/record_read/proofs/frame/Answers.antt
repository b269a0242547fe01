-- `record_read::frame`. The tests one after another, each refusal by its law.
-- Assumes nothing.
use mathlib.Core.List.{List}
use Prim.Native.Nat.{ℕ}
use native.Mathlib.Omega.{arith}
use Rattle.record_read.specs.DecodeLaws.{parse-short, parse-far, parse-cut}
use Rattle.record_read.proofs.frame.Goals as goal

pub returns-then-s-lt40 : goal.returns-then-s-lt40
returns-then-s-lt40 c = λ h. parse-short h c.args.s.now (omega arith)

pub returns-then-n-ge18446744073709551608 : goal.returns-then-n-ge18446744073709551608
returns-then-n-ge18446744073709551608 c =
    let s : List ℕ = c.args.s.now in
    let e = c.read_le64-n.ensures in
    λ h. parse-far h s (omega arith) (omega (arith, e))

pub returns-then-s-n : goal.returns-then-s-n
returns-then-s-n c =
    let s : List ℕ = c.args.s.now in
    let e = c.read_le64-n.ensures in
    λ h. parse-cut h s (omega arith) (omega (arith, e)) (omega (arith, e))

pub returns : goal.returns
returns c =
    let e = c.read_le64-n.ensures in
    (e, (omega (arith, e), omega (arith, e)))
