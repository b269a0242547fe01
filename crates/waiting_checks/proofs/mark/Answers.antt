-- `waiting_checks::mark` meets its contract.
-- Assumes nothing.
use mathlib.Core.Path.{ap}
use Prim.Native.Nat.{ℕ, ◌/◌}
use native.Mathlib.Omega.{arith}
use lib.ListN.{set}
use Rattle.waiting_checks.specs.Marks.{is_marked, with_mark}
use Rattle.waiting_checks.proofs.mark.Goals as goal

pub with_bit-requires : goal.with_bit-requires
unfolding is_marked
with_bit-requires c = (omega arith, c.requires.1)

pub returns : goal.returns
unfolding with_mark
returns c = let a = c.args in ap (λ (w : ℕ). set a.marks.now (a.i / 64) w) c.with_bit.ensures
