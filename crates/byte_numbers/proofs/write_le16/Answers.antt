-- `byte_numbers::write_le16`. The library's bytes, put back in their place.
-- Assumes nothing.
use mathlib.Core.Path.{◌∙◌}
use Prim.Native.Nat.{◌+◌}
use native.Mathlib.Omega.{arith}
use Rattle.base.specs.Bytes.{le16}
use Rattle.base.specs.Laws.{length_digits}
use Rattle.byte_numbers.proofs.Digits.{le-two, put-back}
use Rattle.byte_numbers.proofs.write_le16.Goals as goal

pub returns : goal.returns
returns c =
    let a = c.args in
    let f = c.copy_from_slice in
    put-back a.out.now f.new.self (le16 a.x) a.at (a.at + 2) 2 (omega arith) (f.ensures.after ∙ c.to_le_bytes.ensures ∙ le-two a.x) (length_digits 256 2 a.x)
