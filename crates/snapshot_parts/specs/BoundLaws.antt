-- A snapshot's length fits a number of 64 bits: the table takes fewer than 2 ^ 63 bytes, and each row at most as many bytes of the
-- snapshot as it takes itself, two in each of eight sets or sixteen in the large tier; the rest are buckets and containers, of
-- which there are few.
-- Assumes nothing.
use Rattle.std.specs.Prelude.{◌≡◌, Bool, false, leb, length}
use Rattle.std.proofs.Math.Bool.{true}
use mathlib.Core.List.{List, [], ◌∷◌, ◌++◌, map}
use Prim.Native.Nat.{ℕ, zero, suc, ◌+◌, ◌-◌, ◌*◌, ◌^◌, ◌≤◌, ◌<◌}
use Rattle.std.proofs.Common.{suc-mul, arith, length-append}
use Rattle.std.proofs.Math.Decide.{dec_le}
use Rattle.std.proofs.Math.Dec.{ltb}
use borrow.Author.Tests.{le-leb, lt-leb, lt-ltb, ltb-true}
use Rattle.base.specs.Logic.{pick, all, keep, flat, from, ascending}
use Rattle.base.specs.Bytes.{le64}
use Rattle.base.specs.Laws.{and_left, and_right, length_digits}
use Rattle.base.specs.ListLaws.{all_keep, all_weaker, ascending-keep, length-flat-even}
use Rattle.base.specs.SumLaws.{all_map, sum_of-even, sum_of-le, sum_of-times}
use Rattle.rows.specs.Table.{rows_of}
use Rattle.rows.proofs.TableLaws.{length-rows_of}
use Rattle.roaring.specs.ContainerLaws.{container_length-twice}
use Rattle.roaring.specs.Write.{parts, write64, container_length}
use Rattle.roaring.specs.PartLaws.{few-parts}
use Rattle.roaring_rows.specs.LengthLaws.{length-write64, members-parts}
use Rattle.counters.specs.declared.Counters.{Counters}
use Rattle.counters.specs.Counts.{Entry, in_set, members, large}
use Rattle.counters.specs.Layout.{count_row, sound, ordered, state_of, holds}
use Rattle.counters.proofs.LayoutLaws.{held}
use Rattle.counters.proofs.MaintenanceLaws.{large-count}
use Rattle.snapshot.specs.Write.{set_bytes, large_bytes, snapshot_bytes}
use Rattle.snapshot_parts.specs.PartLaws.{length-snapshot}

-- ---- a bitmap of ascending numbers of 64 bits: two bytes a member, and what buckets and containers take
abbrev most : ℕ
most = 12 * 2 ^ 32 + 8 * 2 ^ 48

bitmap-short : (xs : List ℕ) → ascending xs ≡ true → all (λ x. ltb x (2 ^ 64)) xs ≡ true → length (write64 xs) ≤ 8 + most + 2 * length xs
bitmap-short xs a e =
    let ps = parts 65536 xs in
    let s = sum_of-even 8 (λ p. container_length (length p.low)) ps in
    let l = sum_of-le (λ p. container_length (length p.low)) (λ p. 2 * length p.low) (λ p. container_length-twice (length p.low)) ps in
    omega (
      arith,
      length-write64 xs,
      s,
      l,
      sum_of-times 2 (λ p. length p.low) ps,
      members-parts 65536 xs,
      few-parts (2 ^ 32) (2 ^ 32) xs (omega arith) a e,
      few-parts 65536 (2 ^ 48) xs (omega arith) a e,
    )

-- ---- lists of at most b items each, for n numbers
flat-short : (f : ℕ → List ℕ) (b : ℕ) → ((k : ℕ) → length (f k) ≤ b) → (i n : ℕ) → length (flat f (from i n)) ≤ n * b
unfolding flat from
flat-short f b h i zero = omega arith
flat-short f b h i (suc n) = rw (length-append (f i) (flat f (from (suc i) n)), suc-mul n b) (omega (arith, h i, flat-short f b h (suc i) n))

-- ---- a count of the large tier is in no set
few-both : (k : ℕ) (es : List Entry) → length (members k es) + length (large es) ≤ length es
unfolding members large keep
few-both k [] = omega arith
few-both k (e ∷ es) =
    let rest = few-both k es in
    elim (dec_le 257 e.count) [
      | yes h ↦ rw (le-leb 257 e.count h, ← large-count k e.count (omega arith)) (omega arith)
      | no h ↦ rw (lt-leb 257 e.count (omega arith)) (go (in_set k e.count) rest)
    ]
  where
    go : (b : Bool) → length (map (λ x. x.idx) (keep (λ x. in_set k x.count) es)) + length (keep (λ x. leb 257 x.count) es) ≤ length es
        → length (map (λ x. x.idx) (pick b (e ∷ keep (λ x. in_set k x.count) es) (keep (λ x. in_set k x.count) es))) + length (keep (λ x. leb 257 x.count) es)
        ≤ suc (length es)
    go true r = omega arith
    go false r = omega arith

-- ---- the members of ordered counts
module _ (next : ℕ) (es : List Entry) (small : next ≤ 2 ^ 64) (o : ordered next es ≡ true) (k : ℕ) where
  members-ascend : ascending (members k es) ≡ true
  unfolding members ordered
  members-ascend = ascending-keep (λ e. e.idx) (λ e. in_set k e.count) 0 es (and_left (ascending (map (λ e. e.idx) es)) (all (sound next) es) o)

  members-below : all (λ x. ltb x (2 ^ 64)) (members k es) ≡ true
  unfolding members ordered
  members-below =
      let s = and_right (ascending (map (λ e. e.idx) es)) (all (sound next) es) o in
      let below : (e : Entry) → sound next e ≡ true → ltb e.idx (2 ^ 64) ≡ true =
      λ e q. lt-ltb e.idx (2 ^ 64) (omega (arith, ltb-true e.idx next (and_left (ltb e.idx next) (leb 2 e.count) q))) in
      rw (all_map (λ x. ltb x (2 ^ 64)) (λ e. e.idx) (keep (λ e. in_set k e.count) es))
      (all_keep (λ e. ltb e.idx (2 ^ 64)) (λ e. in_set k e.count) es (all_weaker (λ e. ltb e.idx (2 ^ 64)) (sound next) below es s))

  set-short : length (set_bytes es k) ≤ 16 + most + 2 * (length es - length (large es))
  unfolding set_bytes
  set-short =
      let p : List ℕ = write64 (members k es) in
      rw (length-append (le64 (length p)) p, length_digits 256 8 (length p))
      (omega (arith, bitmap-short (members k es) members-ascend members-below, few-both k es))

-- ---- the whole
length-large : (es : List Entry) → length (flat large_bytes es) ≡ 16 * length es
unfolding large_bytes
length-large es = length-flat-even (λ e. le64 e.idx ++ le64 e.count) 16 (λ e. simp (length-append, length_digits)) es

pub snapshot-fits : (c : Counters) (t : List ℕ) → holds c t ≡ true → c.next_idx.0 ≤ 2 ^ 64 → length t * 8 < 2 ^ 63 → length (snapshot_bytes (state_of c t)) < 2 ^ 64
snapshot-fits c t h small room =
    let s = held c t h in
    let n : ℕ = c.stored in
    let es : List Entry = rows_of count_row n t in
    omega (
      arith,
      length-snapshot c t,
      length-large (large es),
      few-both 0 es,
      length-rows_of count_row n t,
      s.laid.fits,
      flat-short (set_bytes es) (16 + most + 2 * (length es - length (large es))) (set-short c.next_idx.0 es small s.sorted) 0 8,
    )
