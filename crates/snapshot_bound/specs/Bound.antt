-- How long a snapshot of n stored counts can get, and the counters that get there.
-- Assumes nothing.
use Rattle.std.specs.Prelude.{◌≡◌, List, map, ℕ, zero, suc, ◌+◌, ◌*◌, ◌^◌, ◌≤◌, length}
use Rattle.base.specs.Logic.{from}
use Rattle.counters.specs.Counts.{Entry, State, fresh_maintenance}
use Rattle.counters.specs.Maintenance.{standard}
use Rattle.snapshot.specs.Write.{snapshot_bytes}
use Rattle.snapshot_laws.specs.RoundTrip.{WellFormed}

-- the bytes of the longest snapshot of n stored counts
abbrev pub longest : ℕ → ℕ
longest n = 145 + 176 * n

-- count 256, which is in all eight sets, at multiple i of 2 ^ 32
abbrev pub spaced : ℕ → Entry
spaced i = record { idx = i * 2 ^ 32; count = 256 }

-- one above the last of the n lowest multiples, 0 for none
unfoldable pub next_after : ℕ → ℕ
next_after zero = 0
next_after (suc n) = n * 2 ^ 32 + 1

-- the counters with the longest snapshot of n stored counts: the n lowest multiples, live total n
unfoldable pub worst : ℕ → State
worst n = record { next = next_after n; live = n; counts = map spaced (from 0 n); maintenance = fresh_maintenance standard.base }

-- the counters are a state with n stored counts, and their snapshot is as long as can be
pub record Reaches (n : ℕ) (s : State) : Type 0 where
  pub state : WellFormed s
  pub stored : length s.counts ≡ n
  pub long : length (snapshot_bytes s) ≡ longest n

-- no counters, in order or not, have a longer snapshot, and up to 2 ^ 32 stored counts some have one as long
pub record SnapshotBound : Type 0 where
  pub bound : (s : State) → length (snapshot_bytes s) ≤ longest (length s.counts)
  pub reached : (n : ℕ) → n ≤ 2 ^ 32 → Reaches n (worst n)
