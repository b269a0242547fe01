-- `counter_vectors::calls::told`: a word after the other, from the end.
-- Assumes nothing.
use Rattle.std.proofs.Common.{◌≤◌, length}
use Rattle.counter_vectors.proofs.calls.told.Given as goal

abbrev pub invariant-loop-n : goal.invariant-loop-n
invariant-loop-n l = l.n ≤ length l.t

abbrev pub decreases-loop-n : goal.decreases-loop-n
decreases-loop-n l = l.n
