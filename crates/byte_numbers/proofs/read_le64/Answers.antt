-- `byte_numbers::read_le64`. The number that its eight bytes spell.
-- Assumes nothing.
use mathlib.Core.Path.{ap, ◌∙◌}
use Prim.Native.Nat.{◌+◌}
use native.Mathlib.Omega.{arith}
use Rattle.std.specs.Int.{from_le_bytes, w64}
use Rattle.byte_numbers.proofs.Digits.{part-whole, unle-eight}
use Rattle.byte_numbers.proofs.read_le64.Goals as goal

pub returns : goal.returns
returns c =
    let a = c.args in
    let whole = rw c.unwrap.ensures at c.try_into.ensures.1 in
    let bytes = part-whole a.s.now c.unwrap.result a.at (a.at + 8) 8 (omega arith) whole in
    c.from_le_bytes.ensures ∙ ap (from_le_bytes w64) bytes ∙ unle-eight a.s.now a.at c.requires
