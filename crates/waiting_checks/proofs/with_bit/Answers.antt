-- `waiting_checks::with_bit` meets its contract: the bit has room in the word.
-- Assumes nothing.
use native.Mathlib.Omega.{arith}
use Rattle.waiting_checks.specs.MarkLaws.{bit_shifted, bit-room}
use Rattle.waiting_checks.proofs.with_bit.Goals as goal

pub overflow_add-result : goal.overflow_add-result
overflow_add-result c = rw (bit_shifted c.args.j c.requires.0) (record { fits = bit-room c.args.w c.args.j c.requires.0 (omega arith) c.requires.1 })

pub returns : goal.returns
returns c = rw (bit_shifted c.args.j c.requires.0)
