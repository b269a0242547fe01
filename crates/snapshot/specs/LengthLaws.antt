-- How long a snapshot and its parts are.
-- Assumes nothing.
use Rattle.std.specs.Prelude.{◌≡◌, List, ◌++◌, ℕ, ◌+◌, ◌*◌, length}
use Rattle.std.proofs.Common.{arith, length-append}
use Rattle.base.specs.Logic.{flat, from}
use Rattle.base.specs.Bytes.{le64}
use Rattle.base.specs.Laws.{length_digits}
use Rattle.base.specs.ListLaws.{length-flat-even}
use Rattle.roaring.specs.Write.{write64}
use Rattle.counters.specs.Counts.{Entry, State, members, large}
use Rattle.snapshot.specs.Write.{set_bytes, large_bytes, snapshot_bytes}

pub length-set_bytes : (es : List Entry) (k : ℕ) → length (set_bytes es k) ≡ 8 + length (write64 (members k es))
unfolding set_bytes
length-set_bytes es k = simp (length-append, length_digits)

pub length-large : (es : List Entry) → length (flat large_bytes es) ≡ 16 * length es
unfolding large_bytes
length-large es = length-flat-even (λ e. le64 e.idx ++ le64 e.count) 16 (λ e. simp (length-append, length_digits)) es

pub length-snapshot : (s : State) → length (snapshot_bytes s) ≡ 17 + length (flat (set_bytes s.counts) (from 0 8)) + 16 * length (large s.counts)
unfolding snapshot_bytes
length-snapshot s = simp (length-append, length_digits) (omega (arith, length-large (large s.counts)))
