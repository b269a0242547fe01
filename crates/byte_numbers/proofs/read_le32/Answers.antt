-- `byte_numbers::read_le32`. The number that its four bytes spell.
-- Assumes nothing.
use mathlib.Core.Path.{ap, ◌∙◌}
use Prim.Native.Nat.{◌+◌}
use native.Mathlib.Omega.{arith}
use Rattle.std.specs.Int.{from_le_bytes, w32}
use Rattle.byte_numbers.proofs.Digits.{part-whole, unle-four}
use Rattle.byte_numbers.proofs.read_le32.Goals as goal

pub returns : goal.returns
returns c =
    let a = c.args in
    let whole = rw c.unwrap.ensures at c.try_into.ensures.1 in
    let bytes = part-whole a.s.now c.unwrap.result a.at (a.at + 4) 4 (omega arith) whole in
    c.from_le_bytes.ensures ∙ ap (from_le_bytes w32) bytes ∙ unle-four a.s.now a.at c.requires
