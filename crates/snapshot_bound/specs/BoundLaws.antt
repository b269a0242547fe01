-- No snapshot is longer than the bound, and those of the worst counters are as long.
-- Assumes nothing.
use Rattle.std.specs.Prelude.{◌≡◌, Bool, true, false, ◌&&◌, List, [], ◌∷◌, ◌++◌, map, length, ltb}
use Rattle.std.proofs.Math.Path.{refl}
use Rattle.std.proofs.Common.{sym, ap, ◌∙◌, mul-suc, arith, length-append, lt-ltb, le-leb, ne_eqb}
use Prim.Native.Nat.{ℕ, zero, suc, ◌+◌, ◌*◌, ◌/◌, ◌%◌, ◌^◌, ◌≤◌, ◌<◌}
use Rattle.std.proofs.Math.Nat.{suc-mul}
use Rattle.std.proofs.lemmas.List.{length-map}
use Rattle.base.specs.Logic.{all, keep, flat, from, sum_of, ascending_from, ascending}
use Rattle.base.specs.Laws.{and_left, and_right, and_both}
use Rattle.base.specs.ListLaws.{length_from}
use Rattle.roaring.specs.Write.{Part, before, parts, write64}
use Rattle.roaring_rows.specs.LengthLaws.{size_of, length-write64, write64-short}
use Rattle.counters.specs.Counts.{Entry, State, small_code, in_set, members, large}
use Rattle.counters.specs.Layout.{sound, ordered}
use Rattle.counters.proofs.MaintenanceLaws.{set-or-large}
use Rattle.snapshot.specs.Write.{set_bytes, snapshot_bytes}
use Rattle.snapshot.specs.LengthLaws.{length-set_bytes, length-snapshot}
use Rattle.snapshot_laws.specs.RoundTrip.{WellFormed}
use Rattle.snapshot_bound.specs.Bound.{longest, spaced, next_after, worst, Reaches, SnapshotBound}

-- ---- the bound
-- sets: 16 bytes each, and 22 for each of its members
sets-short : (es : List Entry) (ks : List ℕ) → length (flat (set_bytes es) ks) + 22 * (length (large es) * length ks) ≤ 16 * length ks + 22 * (length es * length ks)
unfolding flat
sets-short es [] = omega arith
sets-short es (k ∷ ks) =
    omega (
      arith,
      length-append (set_bytes es k) (flat (set_bytes es) ks),
      length-set_bytes es k,
      write64-short (members k es),
      set-or-large k es,
      sets-short es ks,
      mul-suc (length (large es)) (length ks),
      mul-suc (length es) (length ks),
    )

pub snapshot-bound : (s : State) → length (snapshot_bytes s) ≤ longest (length s.counts)
unfolding from
snapshot-bound s = omega (arith, length-snapshot s, sets-short s.counts (from 0 8))

-- ---- the counters that reach it
-- the parts that multiples of d make, each of one member
abbrev ones : ℕ → ℕ → ℕ → List Part
ones c j n = map (λ i. record { key = i * c; low = 0 ∷ [] }) (from j n)

-- multiples of d, which b divides c times, are each a part of their own
module _ (b c d : ℕ) (some : 0 < c) (quotient : (j : ℕ) → j * d / b ≡ j * c) (remainder : (j : ℕ) → j * d % b ≡ 0) where
  alone : (j m : ℕ) → before (j * c) 0 (ones c (suc j) m) ≡ record { key = j * c; low = 0 ∷ [] } ∷ ones c (suc j) m
  unfolding before from
  alone j zero = refl
  alone j (suc m) = rw (ne_eqb (j * c) (suc j * c) (λ q. absurd (omega (arith, suc-mul j c, q, some))))

  parts-spaced : (j n : ℕ) → parts b (map (λ i. i * d) (from j n)) ≡ ones c j n
  unfolding parts from
  parts-spaced j zero = refl
  parts-spaced j (suc n) = rw (parts-spaced (suc j) n, quotient j, remainder j) (alone j n)

size-ones : (c j n : ℕ) → size_of (ones c j n) ≡ 10 * n
unfolding sum_of from
size-ones c j zero = refl
size-ones c j (suc n) = omega (arith, size-ones c (suc j) n)

-- a set of n such members
length-spaced : (n : ℕ) → length (write64 (map (λ i. i * 2 ^ 32) (from 0 n))) ≡ 8 + 22 * n
length-spaced n =
    let buckets = parts-spaced (2 ^ 32) 1 (2 ^ 32) (omega arith) (λ j. omega arith) (λ j. omega arith) 0 n in
    let containers = parts-spaced 65536 65536 (2 ^ 32) (omega arith) (λ j. omega arith) (λ j. omega arith) 0 n in
    length-write64 (map (λ i. i * 2 ^ 32) (from 0 n)) ∙ rw (buckets, containers, size-ones 65536 0 n, length-map {B = Part} (from 0 n) (λ i. record { key = i * 1; low = 0 ∷ [] }), length_from 0 n) (omega arith)

-- each of the eight sets has all of them
spaced-members : (k j n : ℕ) → in_set k 256 ≡ true → members k (map spaced (from j n)) ≡ map (λ i. i * 2 ^ 32) (from j n)
unfolding members keep from
spaced-members k j zero h = refl
spaced-members k j (suc n) h = rw h (ap (λ (l : List ℕ). j * 2 ^ 32 ∷ l) (spaced-members k (suc j) n h))

-- and none is large
spaced-large : (j n : ℕ) → large (map spaced (from j n)) ≡ []
unfolding large keep from
spaced-large j zero = refl
spaced-large j (suc n) = spaced-large (suc j) n

spaced-sets : (n : ℕ) (ks : List ℕ) → all (λ k. in_set k 256) ks ≡ true → length (flat (set_bytes (map spaced (from 0 n))) ks) ≡ (16 + 22 * n) * length ks
unfolding flat all
spaced-sets n [] h = omega arith
spaced-sets n (k ∷ ks) h =
    let ms = spaced-members k 0 n (and_left (in_set k 256) (all (λ x. in_set x 256) ks) h) in
    let l : length (write64 (members k (map spaced (from 0 n)))) ≡ 8 + 22 * n = rw ms (length-spaced n) in
    length-append (set_bytes (map spaced (from 0 n)) k) (flat (set_bytes (map spaced (from 0 n))) ks)
    ∙ omega (arith, length-set_bytes (map spaced (from 0 n)) k, l, spaced-sets n ks (and_right (in_set k 256) (all (λ x. in_set x 256) ks) h), mul-suc (16 + 22 * n) (length ks))

eight : all (λ k. in_set k 256) (from 0 8) ≡ true
unfolding all from in_set small_code
eight = refl

long : (n : ℕ) → length (snapshot_bytes (worst n)) ≡ longest n
unfolding worst from
long n = length-snapshot (worst n) ∙ rw (spaced-large 0 n, spaced-sets n (from 0 8) eight) (omega arith)

-- they are a state
spaced-ascend : (lo j n : ℕ) → lo ≤ j * 2 ^ 32 → ascending_from lo (map (λ e. e.idx) (map spaced (from j n))) ≡ true
unfolding ascending_from from
spaced-ascend lo j zero h = refl
spaced-ascend lo j (suc n) h = rw (le-leb lo (j * 2 ^ 32) h) (spaced-ascend (suc (j * 2 ^ 32)) (suc j) n (omega arith))

spaced-sound : (next j n : ℕ) → (j + n) * 2 ^ 32 < next + 2 ^ 32 → all (sound next) (map spaced (from j n)) ≡ true
unfolding all from
spaced-sound next j zero h = refl
spaced-sound next j (suc n) h = rw (lt-ltb (j * 2 ^ 32) next (omega arith)) (spaced-sound next (suc j) n (omega arith))

spaced-fit : (j n : ℕ) → all (λ e. ltb e.count (2 ^ 64)) (map spaced (from j n)) ≡ true
unfolding all from
spaced-fit j zero = refl
spaced-fit j (suc n) = spaced-fit (suc j) n

next-bounds : (n : ℕ) → n ≤ 2 ^ 32 → (next_after n < 2 ^ 64) × (n * 2 ^ 32 < next_after n + 2 ^ 32)
unfolding next_after
next-bounds zero h = (omega arith, omega arith)
next-bounds (suc n) h = (omega arith, omega arith)

pub length-worst : (n : ℕ) → length (worst n).counts ≡ n
unfolding worst
length-worst n = length-map (from 0 n) spaced ∙ length_from 0 n

pub worst-state : (n : ℕ) → n ≤ 2 ^ 32 → WellFormed (worst n)
unfolding worst ordered
worst-state n h =
    let b = next-bounds n h in
    record {
      spelled =
          record {
            next_fits = b.0;
            live_fits = omega arith;
            sorted = and_both _ _ (spaced-ascend 0 0 n (omega arith)) (spaced-sound (next_after n) 0 n (omega (arith, b.1)));
            counts_fit = spaced-fit 0 n;
          };
      bounded = omega (arith, length-map (from 0 n) spaced, length_from 0 n);
    }

pub snapshot-bounded : SnapshotBound
snapshot-bounded =
    record {
      bound = snapshot-bound;
      reached = λ n h. record { state = worst-state n h; stored = length-worst n; long = long n };
    }
