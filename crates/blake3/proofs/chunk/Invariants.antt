-- `blake3::chunk` meets its contract. The loop's invariant: the blocks that are left give the chunk's chaining value.
-- Assumes nothing.
use mathlib.Core.Path.{◌≡◌}
use Prim.Native.Nat.{◌≤◌}
use lib.ListN.{length}
use Rattle.blake3.specs.Spec.{chunk}
use Rattle.blake3.proofs.Laws.{blocks}
use Rattle.blake3.proofs.chunk.Given as goal

abbrev pub invariant-loop-rest : goal.invariant-loop-rest
invariant-loop-rest l =
    (length l.rest ≤ 1024) × (l.first ≤ 1) × (blocks l.flags l.root l.counter l.first l.cv l.rest ≡ chunk l.fn.start.words l.flags l.root l.counter l.fn.s)

abbrev pub decreases-loop-rest : goal.decreases-loop-rest
decreases-loop-rest l = length l.rest
