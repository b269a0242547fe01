-- `blake3::left_len` meets its contract. The loop's invariant: doubling k further, under a bound that is enough, gives the left part's length.
-- Assumes nothing.
use mathlib.Core.Path.{◌≡◌}
use Prim.Native.Nat.{ℕ, ◌+◌, ◌-◌, ◌≤◌, ◌<◌}
use Rattle.blake3.specs.Spec.{doubled, left_len}
use Rattle.blake3.proofs.left_len.Given as goal

abbrev pub invariant-loop-k : goal.invariant-loop-k
invariant-loop-k l = (1024 ≤ l.k) × (l.k < l.n) × ((f : ℕ) × (doubled f l.n l.k ≡ left_len l.n) × (l.n ≤ l.k + f))

abbrev pub decreases-loop-k : goal.decreases-loop-k
decreases-loop-k l = l.n - l.k
