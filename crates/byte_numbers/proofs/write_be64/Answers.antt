-- `byte_numbers::write_be64`. The library's bytes, put back in their place.
-- Assumes nothing.
use mathlib.Core.Path.{◌∙◌}
use Prim.Native.Nat.{◌+◌}
use native.Mathlib.Omega.{arith}
use Rattle.base.specs.Bytes.{be64}
use Rattle.slices.specs.NumberLaws.{length-be}
use Rattle.byte_numbers.proofs.Digits.{be-eight, put-back}
use Rattle.byte_numbers.proofs.write_be64.Goals as goal

pub returns : goal.returns
returns c =
    let a = c.args in
    let f = c.copy_from_slice in
    put-back a.out.now f.new.self (be64 a.x) a.at (a.at + 8) 8 (omega arith) (f.ensures.after ∙ c.to_be_bytes.ensures ∙ be-eight a.x) (length-be 8 a.x)
