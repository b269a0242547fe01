use Rattle.snapshot_worst.specs.WorstLaws.{laid_to}
use mathlib.Core.Path.{◌≡◌}
use lib.ListN.{length}
use Rattle.snapshot_worst.proofs.lay_worst.Given as goal

abbrev pub invariant-loop-k : goal.invariant-loop-k
invariant-loop-k l = (length l.t ≡ length l.initial.t) × (l.t ≡ laid_to (length l.initial.t) l.k)
