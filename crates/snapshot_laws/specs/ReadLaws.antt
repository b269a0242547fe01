-- What a snapshot says: the count at each index, by the sets and the large tier as they stand in the bytes; and a state that can be written again.
-- Assumes nothing.
use Rattle.std.specs.Prelude.{◌≡◌, Bool, length, take, drop, eqb}
use Rattle.std.proofs.Math.Path.{refl}
use Rattle.std.proofs.Common.{ap, ◌∙◌, length-take}
use Rattle.std.proofs.Math.Bool.{true, false}
use Rattle.std.proofs.Math.Option.{Option, none, some}
use mathlib.Core.List.{List, [], ◌∷◌, map}
use Prim.Native.Nat.{ℕ, zero, suc, ◌+◌, ◌/◌, ◌^◌, ◌≤◌, ◌<◌, max}
use Rattle.std.proofs.Math.Nat.{pow-le-pow_right, two-pow-succ}
use native.Mathlib.Omega.{arith}
use Rattle.std.proofs.Math.Dec.{ltb}
use borrow.Author.Tests.{lt-ltb, ltb-true, eqb-true, eq-eqb}
use Rattle.base.specs.ListLaws.{all_take, all_drop}
use Rattle.base.specs.Logic.{pick, all, fold, elem, ascending, ascending_from}
use Rattle.base.specs.Laws.{and_left, and_right, ascending-tail}
use Rattle.base.specs.NumberLaws.{number-below}
use Rattle.base.specs.Bytes.{unle}
use Rattle.base.specs.Maybe.{maybe}
use Rattle.base.specs.Answers.{taken}
use Rattle.roaring.specs.Read.{parse64}
use Rattle.roaring.specs.MemberLaws.{members-ascend}
use Rattle.counters.specs.Counts.{Entry, State, stored_at, count_at}
use Rattle.counters.proofs.CountLaws.{stored_at-set_count}
use Rattle.snapshot.specs.Read.{parse_snapshot, read_snapshot}
use Rattle.snapshot_laws.specs.SetLaws.{index, set_row, stored-before, stored-rows}
use Rattle.snapshot_laws.specs.SmallLaws.{count-lay_bit}
use Rattle.snapshot_laws.specs.RoundTrip.{Spelled, WellFormed}
use Rattle.snapshot_laws.specs.StoredLaws.{two, rows-two, rows-ascend}
use Rattle.snapshot_laws.specs.Parts.{next_of, live_of, start, payload, set_of, small_of, rest_of, pairs, large_of, counts_of}
use Rattle.snapshot_laws.specs.RefusalLaws.{parse-state, parse-ordered, counts-ascend, large-parsed, read-parsed, read-bounded}

-- the last count that pairs give an index, 0 where none does
abbrev later : ℕ → Entry → ℕ → ℕ
later j e n = pick (eqb j e.idx) e.count n

unfoldable pub last_at : ℕ → List Entry → ℕ
last_at j xs = fold (later j) xs 0

-- what the sets before set k that have an index come to
unfoldable pub code_of : List ℕ → ℕ → ℕ → ℕ
code_of bs j zero = 0
code_of bs j (suc k) = code_of bs j k + pick (elem j (set_of bs k)) (2 ^ k) 0

-- ---- the small tier
module _ (bs : List ℕ) where
  set-ascends : (k : ℕ) → ascending (set_of bs k) ≡ true
  unfolding set_of ascending_from
  set-ascends k = go (parse64 (payload bs k)) refl
    where
      go : (o : Option (List ℕ)) → parse64 (payload bs k) ≡ o → ascending (maybe [] (λ ms. ms) o) ≡ true
      go none e = refl
      go (some ms) e = members-ascend (payload bs k) ms e

  module _ (j : ℕ) where
    count_small : (k : ℕ) → count_at j (small_of bs k) ≡ 1 + code_of bs j k
    unfolding small_of code_of count_at stored_at
    count_small zero = refl
    count_small (suc k) = count-lay_bit k 0 j (set_of bs k) (small_of bs k) (set-ascends k) ∙ omega (arith, count_small k)

    code_below : (k : ℕ) → code_of bs j k < 2 ^ k
    unfolding code_of
    code_below zero = omega arith
    code_below (suc k) = go (elem j (set_of bs k)) (code_below k)
      where
        go : (b : Bool) → code_of bs j k < 2 ^ k → code_of bs j k + pick b (2 ^ k) 0 < 2 ^ suc k
        go true h = omega (arith, two-pow-succ k)
        go false h = omega (arith, two-pow-succ k)

-- ---- the large tier
last-rows : (j : ℕ) (xs es : List Entry) → all two xs ≡ true → stored_at j (fold set_row xs es) ≡ fold (later j) xs (stored_at j es)
unfolding fold all
last-rows j [] es a = refl
last-rows j (x ∷ xs) es a =
    last-rows j xs (set_row x es) (and_right (two x) (all two xs) a)
    ∙ ap (λ (n : ℕ). fold (later j) xs n) (stored_at-set_count x.idx x.count es j ∙ rw (and_left (two x) (all two xs) a))

stored-large : (j : ℕ) (xs : List Entry) → all two xs ≡ true → stored_at j (fold set_row xs []) ≡ last_at j xs
unfolding last_at stored_at
stored-large j xs a = last-rows j xs [] a

-- ---- both
module _ (bs : List ℕ) (counts : all two (large_of bs) ≡ true) (j : ℕ) where
  pub count-read : count_at j (counts_of bs) ≡ pick (ltb 0 (last_at j (large_of bs))) (last_at j (large_of bs)) (1 + code_of bs j 8)
  unfolding counts_of count_at all ascending_from
  count-read =
      let big : List Entry = fold set_row (large_of bs) [] in
      rw (stored-rows 0 j big (small_of bs 8) (rows-ascend (large_of bs) [] refl) (rows-two (large_of bs) [] refl), stored-large j (large_of bs) counts)
      (go (last_at j (large_of bs)) (ltb 0 (last_at j (large_of bs))) refl)
    where
      go : (n : ℕ) (b : Bool) → ltb 0 n ≡ b → max (pick b n (stored_at j (small_of bs 8))) 1 ≡ pick b n (1 + code_of bs j 8)
      go n true q = omega (arith, ltb-true 0 n q)
      go n false q = count_small bs j 8

-- ---- numbers of 8 bytes
abbrev bytes : List ℕ → Type 0
bytes bs = all (λ b. ltb b 256) bs ≡ true

unle-fits : (bs : List ℕ) → bytes bs → unle (take 8 bs) < 2 ^ 64
unle-fits bs a =
    let n : ℕ = length (take 8 bs) in
    let l : n ≤ 8 = simp length-take (omega arith) in
    let p : 256 ^ n ≤ 256 ^ 8 = pow-le-pow_right {n = 256} (omega arith) l in
    omega (arith, number-below 256 (take 8 bs) (all_take (λ b. ltb b 256) 8 bs a))

pairs-fit : (n : ℕ) (bs : List ℕ) → bytes bs → all (λ e. ltb e.count (2 ^ 64)) (pairs n bs) ≡ true
unfolding pairs all
pairs-fit zero bs a = refl
pairs-fit (suc n) bs a = rw (lt-ltb (unle (take 8 (drop 8 bs))) (2 ^ 64) (unle-fits (drop 8 bs) (all_drop (λ b. ltb b 256) 8 bs a))) (pairs-fit n (drop 16 bs) (all_drop (λ b. ltb b 256) 16 bs a))

last_fits : (j : ℕ) (xs : List Entry) (n : ℕ) → n < 2 ^ 64 → all (λ e. ltb e.count (2 ^ 64)) xs ≡ true → fold (later j) xs n < 2 ^ 64
unfolding fold all
last_fits j [] n h a = h
last_fits j (x ∷ xs) n h a =
    let rest : Bool = all (λ e. ltb e.count (2 ^ 64)) xs in
    last_fits j xs (later j x n) (go (eqb j x.idx) (ltb-true x.count (2 ^ 64) (and_left (ltb x.count (2 ^ 64)) rest a))) (and_right (ltb x.count (2 ^ 64)) rest a)
  where
    go : (b : Bool) → x.count < 2 ^ 64 → pick b x.count n < 2 ^ 64
    go true c = c
    go false c = h

-- ascending rows pass a test of their count where every stored count does, and 0
stored-pass : (p : ℕ → Bool) (lo : ℕ) (es : List Entry) → p 0 ≡ true → ascending_from lo (map index es) ≡ true → ((j : ℕ) → p (stored_at j es) ≡ true) → all (λ e. p e.count) es ≡ true
unfolding all stored_at
stored-pass p lo [] z a h = refl
stored-pass p lo (e ∷ es) z a h = rw first (stored-pass p (suc e.idx) es z tail rest)
  where
    tail : ascending_from (suc e.idx) (map index es) ≡ true
    tail = ascending-tail lo e.idx (map index es) a

    first : p e.count ≡ true
    first = rw (eq-eqb e.idx e.idx refl) at (h e.idx)

    rest : (j : ℕ) → p (stored_at j es) ≡ true
    rest j = go (eqb e.idx j) refl (h j)
      where
        go : (b : Bool) → eqb e.idx j ≡ b → p (pick b e.count (stored_at j es)) ≡ true → p (stored_at j es) ≡ true
        go true q t = rw (stored-before (suc e.idx) es j tail (omega (arith, eqb-true e.idx j q))) z
        go false q t = t

-- ---- a snapshot that parses
module _ (base room : ℕ) (bs : List ℕ) (s : State) (ok : parse_snapshot base room bs ≡ taken s) where
  -- the count at an index: the last that the large tier gives it, else 1 more than what the sets that have it come to
  pub parse-count : (j : ℕ) → count_at j s.counts ≡ pick (ltb 0 (last_at j (large_of bs))) (last_at j (large_of bs)) (1 + code_of bs j 8)
  parse-count j = rw (parse-state base room bs s ok) (count-read bs (large-parsed base room bs s ok) j)

  -- next index and live total as they stand
  pub parse-next : s.next ≡ next_of bs
  parse-next = ap (λ (u : State). u.next) (parse-state base room bs s ok)

  pub parse-live : s.live ≡ live_of bs
  parse-live = ap (λ (u : State). u.live) (parse-state base room bs s ok)

  -- the state can be written again
  pub parse-spelled : all (λ b. ltb b 256) bs ≡ true → Spelled s
  unfolding count_at last_at
  parse-spelled a =
      record {
        next_fits = rw parse-next (unle-fits (drop 1 bs) (all_drop (λ b. ltb b 256) 1 bs a));
        live_fits = rw parse-live (unle-fits (drop 9 bs) (all_drop (λ b. ltb b 256) 9 bs a));
        sorted = parse-ordered base room bs s ok;
        counts_fit = stored-pass (λ n. ltb n (2 ^ 64)) 0 s.counts refl ascend (λ j. lt-ltb (stored_at j s.counts) (2 ^ 64) (fits j));
      }
    where
      ascend : ascending_from 0 (map index s.counts) ≡ true
      ascend = rw (parse-state base room bs s ok) (counts-ascend bs)

      fits : (j : ℕ) → stored_at j s.counts < 2 ^ 64
      fits j = go (last_at j (large_of bs)) (ltb 0 (last_at j (large_of bs))) (last_fits j (large_of bs) 0 (omega arith) (pairs-fit (length (rest_of bs) / 16) (rest_of bs) (all_drop (λ b. ltb b 256) (start bs 8) bs a))) (parse-count j)
        where
          go : (n : ℕ) (b : Bool) → n < 2 ^ 64 → count_at j s.counts ≡ pick b n (1 + code_of bs j 8) → stored_at j s.counts < 2 ^ 64
          go n true l e = omega arith
          go n false l e = omega (arith, code_below bs j 8)

-- ---- a snapshot that is read
module _ (base room : ℕ) (bs : List ℕ) (s : State) (ok : read_snapshot base room bs ≡ taken s) where
  pub read_count : (j : ℕ) → count_at j s.counts ≡ pick (ltb 0 (last_at j (large_of bs))) (last_at j (large_of bs)) (1 + code_of bs j 8)
  read_count = parse-count base room bs s (read-parsed base room bs s ok)

  pub read-well-formed : all (λ b. ltb b 256) bs ≡ true → WellFormed s
  read-well-formed a =
      record { spelled = parse-spelled base room bs s (read-parsed base room bs s ok) a; bounded = read-bounded base room bs s ok }
