-- `counter_rows::holds`: a test after the other, those that need no pass first.
-- Assumes nothing.
use Rattle.std.specs.Prelude.{◌≡◌, true, ℕ, List, ◌*◌, ◌≤◌, length}
use Rattle.std.proofs.lemmas.Bool.Decides.{nat_tests}
use Rattle.rows.specs.Table.{holds_rows}
use Rattle.rows.proofs.TableLaws.{holds-laid}
use Rattle.counters.proofs.RowLaws.{holds-not-ranged, holds-few, holds-not-rows, holds-not-order, holds-sound}
use native.Mathlib.Omega.{arith}
use Rattle.counter_rows.proofs.holds.Goals as goal

fits : (n : ℕ) (t : List ℕ) → holds_rows 2 n t ≡ true → n * 2 ≤ length t
fits n t e = (holds-laid 2 n t e).fits

pub ascend-requires : goal.ascend-requires
ascend-requires c = grind (arith, fits)

pub all_sound-requires : goal.all_sound-requires
all_sound-requires c = grind (arith, fits)

pub returns-then-ascend : goal.returns-then-ascend
returns-then-ascend c = grind (arith, nat_tests, holds-sound)

pub returns-else-ascend : goal.returns-else-ascend
returns-else-ascend c = grind (arith, nat_tests, holds-not-ranged, holds-few, holds-not-rows, holds-not-order)
