-- `blake3::bytes` meets its contract. The loop's invariant: the bytes of the first i words stand.
-- Assumes nothing.
use mathlib.Core.Path.{◌≡◌}
use Rattle.blake3.proofs.Laws.{spelled}
use Rattle.blake3.proofs.bytes.Given as goal

abbrev pub invariant-loop-i : goal.invariant-loop-i
invariant-loop-i l = l.b ≡ spelled l.ws l.i
