-- Reading the bytes of the sets and of the large tier gives back what was written.
-- Assumes nothing.
use Rattle.std.specs.Prelude.{◌≡◌, Bool, true, ◌&&◌, take, drop, leb, ltb}
use Rattle.std.proofs.Math.Path.{refl}
use mathlib.Core.List.{List, [], ◌∷◌, ◌++◌, append_assoc}
use Prim.Native.Nat.{ℕ, zero, suc, ◌*◌, ◌^◌, ◌≤◌, ◌<◌}
use Rattle.std.proofs.Common.{arith, length-append, take_at, le-ltb, lt-ltb, leb-true, ltb-true}
use Rattle.std.proofs.Math.ListN.{length}
use Rattle.std.proofs.Math.Seq.{drop_at}
use Rattle.base.specs.Logic.{all, fold, flat, from, sum_of, ascending}
use Rattle.base.specs.Laws.{and_left, and_right, length_digits, number_digits, cut-append, read_le-append}
use Rattle.base.specs.ListLaws.{all_weaker}
use Rattle.base.specs.Bytes.{le64}
use Rattle.base.specs.Answers.{taken}
use Rattle.roaring.specs.Write.{Part, parts, write64}
use Rattle.roaring.specs.PartLaws.{few-parts}
use Rattle.roaring.specs.ContainerLaws.{container_length-le}
use Rattle.roaring.specs.RoundTrip.{read-write64}
use Rattle.roaring_rows.specs.LengthLaws.{size_of, length-write64}
use Rattle.counters.specs.Counts.{Entry, members}
use Rattle.counters.specs.Layout.{ordered}
use Rattle.snapshot.specs.Write.{set_bytes, large_bytes}
use Rattle.snapshot.specs.Read.{read_sets, read_large}
use Rattle.snapshot_laws.specs.SetLaws.{set_row}
use Rattle.snapshot_laws.specs.SmallLaws.{members-ascend, members-below, lay_sets}

-- ---- a bitmap is never too long for its length: 2 ^ 48 containers of at most 8,200 bytes, and twelve for each of 2 ^ 32 buckets
size-parts : (ps : List Part) → size_of ps ≤ 8200 * length ps
unfolding sum_of
size-parts [] = omega arith
size-parts (p ∷ ps) = omega (arith, size-parts ps, container_length-le (length p.low))

pub write64-fits : (xs : List ℕ) → ascending xs ≡ true → all (λ x. ltb x (2 ^ 64)) xs ≡ true → length (write64 xs) < 2 ^ 64
write64-fits xs a e =
    omega (arith, length-write64 xs, size-parts (parts 65536 xs), few-parts 65536 (2 ^ 48) xs (omega arith) a e, few-parts (2 ^ 32) (2 ^ 32) xs (omega arith) a e)

-- ---- the sets
module _ (next : ℕ) (es : List Entry) (o : ordered next es ≡ true) (fits : next < 2 ^ 64) where
  members-fit : (k : ℕ) → all (λ m. ltb m (2 ^ 64)) (members k es) ≡ true
  members-fit k = all_weaker (λ m. ltb m (2 ^ 64)) (λ m. ltb m next) (λ m h. lt-ltb m (2 ^ 64) (omega (arith, ltb-true m next h))) (members k es) (members-below k next es o)

  pub read-sets : (n k : ℕ) (rows : List Entry) (r : List ℕ) → read_sets (from k n) rows (flat (set_bytes es) (from k n) ++ r) ≡ taken (lay_sets es n k rows, r)
  unfolding read_sets flat from set_bytes lay_sets
  read-sets zero k rows r = refl
  read-sets (suc n) k rows r =
      let ms : List ℕ = members k es in
      let p : List ℕ = write64 ms in
      let rest : List ℕ = flat (set_bytes es) (from (suc k) n) ++ r in
      let l : length p < 256 ^ 8 = write64-fits ms (members-ascend k next es o) (members-fit k) in
      rw (
        append_assoc (le64 (length p) ++ p) (flat (set_bytes es) (from (suc k) n)) r,
        append_assoc (le64 (length p)) p rest,
        read_le-append 8 (length p) (p ++ rest) l,
        cut-append (length p) p rest refl,
        read-write64 ms (members-ascend k next es o) (members-fit k),
      ) (read-sets n (suc k) (lay_sets es 1 k rows) r)

-- ---- the large tier
-- an index of 8 bytes, a count of at least 257 and of 8 bytes
abbrev pub is_large : Entry → Bool
is_large e = ltb e.idx (2 ^ 64) && (leb 257 e.count && ltb e.count (2 ^ 64))

pub length-large : (xs : List Entry) → length (flat large_bytes xs) ≡ length xs * 16
unfolding flat large_bytes
length-large [] = refl
length-large (x ∷ xs) = simp (length-append, length_digits) (omega (arith, length-large xs))

module _ (e : Entry) (r : List ℕ) where
  first_word : take 8 (large_bytes e ++ r) ≡ le64 e.idx
  unfolding large_bytes
  first_word = rw (append_assoc (le64 e.idx) (le64 e.count) r) (take_at (le64 e.idx) (le64 e.count ++ r) 8 (length_digits 256 8 e.idx))

  second_word : take 8 (drop 8 (large_bytes e ++ r)) ≡ le64 e.count
  unfolding large_bytes
  second_word =
      rw (append_assoc (le64 e.idx) (le64 e.count) r, drop_at (le64 e.idx) (le64 e.count ++ r) 8 (length_digits 256 8 e.idx))
      (take_at (le64 e.count) r 8 (length_digits 256 8 e.count))

  rest-words : drop 16 (large_bytes e ++ r) ≡ r
  unfolding large_bytes
  rest-words = drop_at (le64 e.idx ++ le64 e.count) r 16 (simp (length-append, length_digits))

pub read-large : (xs rows : List Entry) → all is_large xs ≡ true → read_large (length xs) rows (flat large_bytes xs) ≡ taken (fold set_row xs rows)
unfolding read_large flat fold all
read-large [] rows a = refl
read-large (x ∷ xs) rows a =
    let t = and_left (is_large x) (all is_large xs) a in
    let many : Bool = leb 257 x.count && ltb x.count (2 ^ 64) in
    let u = and_right (ltb x.idx (2 ^ 64)) many t in
    let i : x.idx < 256 ^ 8 = ltb-true x.idx (2 ^ 64) (and_left (ltb x.idx (2 ^ 64)) many t) in
    let l : 257 ≤ x.count = leb-true 257 x.count (and_left (leb 257 x.count) (ltb x.count (2 ^ 64)) u) in
    let n : x.count < 256 ^ 8 = ltb-true x.count (2 ^ 64) (and_right (leb 257 x.count) (ltb x.count (2 ^ 64)) u) in
    let r : List ℕ = flat large_bytes xs in
    rw (first_word x r, second_word x r, rest-words x r, number_digits 256 8 x.idx (omega arith) i, number_digits 256 8 x.count (omega arith) n, le-ltb x.count 257 l)
    (read-large xs (set_row x rows) (and_right (is_large x) (all is_large xs) a))
