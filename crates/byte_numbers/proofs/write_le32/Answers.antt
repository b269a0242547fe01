-- `byte_numbers::write_le32`. The library's bytes, put back in their place.
-- Assumes nothing.
use mathlib.Core.Path.{◌∙◌}
use Prim.Native.Nat.{◌+◌}
use native.Mathlib.Omega.{arith}
use Rattle.base.specs.Bytes.{le32}
use Rattle.base.specs.Laws.{length_digits}
use Rattle.byte_numbers.proofs.Digits.{le-four, put-back}
use Rattle.byte_numbers.proofs.write_le32.Goals as goal

pub returns : goal.returns
returns c =
    let a = c.args in
    let f = c.copy_from_slice in
    put-back a.out.now f.new.self (le32 a.x) a.at (a.at + 4) 4 (omega arith) (f.ensures.after ∙ c.to_le_bytes.ensures ∙ le-four a.x) (length_digits 256 4 a.x)
