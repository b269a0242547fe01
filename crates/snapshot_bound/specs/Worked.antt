-- The bound and the bytes of the longest snapshots, and what inputs ask for, fixed by evaluation.
-- Assumes nothing.
use Rattle.std.specs.Prelude.{◌≡◌, refl, ℕ, List, [], ◌∷◌, ◌++◌, length, take, drop}
use Rattle.std.proofs.Math.Option.{none, some}
use Rattle.base.specs.Logic.{zeros, flat, from}
use Rattle.snapshot.specs.Write.{snapshot_bytes}
use Rattle.snapshot.specs.Open.{evaluation}
use Rattle.snapshot_bound.specs.Bound.{longest, next_after, worst}
use Rattle.snapshot_bound.specs.Asked.{unended, decimal, spelled, asked, answered}

-- a bucket of one member, at a multiple of 2 ^ 32 below 2 ^ 40: high half, cookie, one container, its key and cardinality, its place, the low half 0
abbrev bucket : ℕ → List ℕ
bucket i = i ∷ 0 ∷ 0 ∷ 0 ∷ 0x3a ∷ 0x30 ∷ 0 ∷ 0 ∷ 1 ∷ 0 ∷ 0 ∷ 0 ∷ 0 ∷ 0 ∷ 0 ∷ 0 ∷ 0x10 ∷ 0 ∷ 0 ∷ 0 ∷ 0 ∷ 0 ∷ []

pub record Lines : Type 0 where
  -- none: the fresh snapshot; one: as document 01 has it for 256; the last of the program
  none_stored : longest 0 ≡ 145
  one_stored : longest 1 ≡ 321
  last_asked : longest 200 ≡ 35345
  -- next 0, 1 and 2 ^ 32 + 1
  first_next : next_after 1 ≡ 1
  second_next : next_after 2 ≡ 0x100000001
  empty_bytes : snapshot_bytes (worst 0) ≡ 1 ∷ zeros 16 ++ flat (λ k. 8 ∷ zeros 15) (from 0 8)
  one_bytes : snapshot_bytes (worst 1)
      ≡ 1 ∷ 1 ∷ zeros 7 ++ 1 ∷ zeros 7 ++ flat (λ k. 30 ∷ zeros 7 ++ 1 ∷ zeros 7 ++ bucket 0) (from 0 8)
  two_bytes : snapshot_bytes (worst 2)
      ≡ 1 ∷ (1 ∷ 0 ∷ 0 ∷ 0 ∷ 1 ∷ 0 ∷ 0 ∷ 0 ∷ []) ++ 2 ∷ zeros 7 ++ flat (λ k. 52 ∷ zeros 7 ++ 2 ∷ zeros 7 ++ bucket 0 ++ bucket 1) (from 0 8)
  two_length : length (snapshot_bytes (worst 2)) ≡ 497
  -- "7", "7\n", "007", "0\n", "200\n"
  seven : asked (55 ∷ []) ≡ some 7
  seven_ended : asked (55 ∷ 10 ∷ []) ≡ some 7
  seven_long : asked (48 ∷ 48 ∷ 55 ∷ []) ≡ some 7
  nought : asked (48 ∷ 10 ∷ []) ≡ some 0
  two_hundred : asked (50 ∷ 48 ∷ 48 ∷ 10 ∷ []) ≡ some 200
  -- "", "\n", "7\n\n", "\n7", "7\r\n", "+7", " 7", "7 ", "201", "0007", "7a"
  no-input : asked [] ≡ none
  feed_alone : asked (10 ∷ []) ≡ none
  two_feeds : asked (55 ∷ 10 ∷ 10 ∷ []) ≡ none
  feed_first : asked (10 ∷ 55 ∷ []) ≡ none
  return_feed : asked (55 ∷ 13 ∷ 10 ∷ []) ≡ none
  sign : asked (43 ∷ 55 ∷ []) ≡ none
  space_first : asked (32 ∷ 55 ∷ []) ≡ none
  space_last : asked (55 ∷ 32 ∷ []) ≡ none
  above : asked (50 ∷ 48 ∷ 49 ∷ []) ≡ none
  four-digits : asked (48 ∷ 48 ∷ 48 ∷ 55 ∷ []) ≡ none
  letter : asked (55 ∷ 97 ∷ []) ≡ none
  nothing_written : answered (55 ∷ 97 ∷ []) ≡ []

pub lines : Lines
unfolding evaluation worst next_after unended decimal spelled asked answered
lines =
    record {
      none_stored = refl;
      one_stored = refl;
      last_asked = refl;
      first_next = refl;
      second_next = refl;
      empty_bytes = refl;
      one_bytes = refl;
      two_bytes = refl;
      two_length = refl;
      seven = refl;
      seven_ended = refl;
      seven_long = refl;
      nought = refl;
      two_hundred = refl;
      no-input = refl;
      feed_alone = refl;
      two_feeds = refl;
      feed_first = refl;
      return_feed = refl;
      sign = refl;
      space_first = refl;
      space_last = refl;
      above = refl;
      four-digits = refl;
      letter = refl;
      nothing_written = refl;
    }
