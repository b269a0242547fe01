-- `byte_numbers::read_le16`. The number that its two bytes spell.
-- Assumes nothing.
use mathlib.Core.Path.{ap, ◌∙◌}
use Prim.Native.Nat.{◌+◌}
use native.Mathlib.Omega.{arith}
use Rattle.std.specs.Int.{from_le_bytes, w16}
use Rattle.byte_numbers.proofs.Digits.{part-whole, unle-two}
use Rattle.byte_numbers.proofs.read_le16.Goals as goal

pub returns : goal.returns
returns c =
    let a = c.args in
    let whole = rw c.unwrap.ensures at c.try_into.ensures.1 in
    let bytes = part-whole a.s.now c.unwrap.result a.at (a.at + 2) 2 (omega arith) whole in
    c.from_le_bytes.ensures ∙ ap (from_le_bytes w16) bytes ∙ unle-two a.s.now a.at c.requires
