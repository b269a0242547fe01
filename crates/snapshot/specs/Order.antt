-- The order of a snapshot reading's refusals, the bound of each, the order of a snapshot's fields, and a snapshot read back, fixed by evaluation.
-- Of two neighbours in the order: the smallest bytes that meet both conditions, and the number that is given.
-- Assumes nothing.
use Rattle.std.specs.Prelude.{◌≡◌, refl, ℕ, List, [], ◌∷◌, ◌++◌, length, take, drop, replicate}
use Rattle.base.specs.Logic.{flat, from, zeros}
use Rattle.base.specs.Bytes.{le64}
use Rattle.base.specs.Answers.{answer_number, taken, Taken, Refused}
use Rattle.base.specs.declared.Refusal.TheVariants.{TornSnapshot, TierClash, OutputFull, BadSetting}
use Rattle.roaring.specs.Write.{write64}
use Rattle.counters.specs.declared.ShrinkSettings.{ShrinkSettings}
use Rattle.counters.specs.declared.Counters.{Counters}
use Rattle.counters.specs.Maintenance.{standard}
use Rattle.counters.specs.Counts.{State, fresh_maintenance}
use Rattle.snapshot.specs.Write.{snapshot_bytes}
use Rattle.snapshot.specs.Read.{read_snapshot}
use Rattle.snapshot.specs.Calls.{serialize_call, deserialize_call, load_call}
use Rattle.snapshot.specs.Open.{evaluation}

-- version, next index and live total
abbrev head_of : ℕ → ℕ → ℕ → List ℕ
head_of version next live = version ∷ le64 next ++ le64 live

-- with a live total that is enough for two counts
abbrev head : ℕ → ℕ → List ℕ
head version next = head_of version next 2

-- a payload led by its length
abbrev led : List ℕ → List ℕ
led p = le64 (length p) ++ p

-- n sets without members
abbrev blank : ℕ → List ℕ
blank n = flat (λ k. led (zeros 8)) (from 0 n)

-- a count of the large tier
abbrev big : ℕ → ℕ → List ℕ
big i n = le64 i ++ le64 n

-- a snapshot at a next index with nothing in the sets; and with one member in set 0
abbrev unset : ℕ → List ℕ → List ℕ
unset next rest = head 1 next ++ blank 8 ++ rest

abbrev with_one : ℕ → ℕ → List ℕ → List ℕ
with_one next i rest = head 1 next ++ led (write64 (i ∷ [])) ++ blank 7 ++ rest

-- a snapshot with nothing in the sets at a next index and a live total
abbrev unset_of : ℕ → ℕ → List ℕ → List ℕ
unset_of next live rest = head_of 1 next live ++ blank 8 ++ rest

-- the number that reading bytes into a table is answered with
abbrev read : List ℕ → List ℕ → ℕ
read bs t = answer_number (deserialize_call standard bs t).result.answer

-- a state record at a next index and a live total that tells of some rows
abbrev record_with : ℕ → ℕ → ℕ → ℕ → Counters
record_with base next live stored =
    record { next_idx = record { 0 = next }; live_cells = live; stored = stored; maintenance = fresh_maintenance base; settings = standard }

-- a state record that is all zeros
abbrev none : Counters
none =
    record {
      next_idx = record { 0 = 0 };
      live_cells = 0;
      stored = 0;
      maintenance = fresh_maintenance 0;
      settings = record { base = 0; max = 0; good_save = 0 };
    }

abbrev record_at : ℕ → ℕ → ℕ → Counters
record_at base next stored = record_with base next 2 stored

-- the number that loading bytes into a table is answered with
abbrev load : List ℕ → List ℕ → ℕ
load bs t = answer_number (load_call standard bs t).result.answer

pub record RefusalOrder : Type 0 where
  -- an empty snapshot comes before its version
  empty : read [] [] ≡ 8
  -- another version, and the end after it
  seven_before_eight : read (2 ∷ []) [] ≡ 7
  -- a bad first payload, and no second one: 8 to 10 are as met
  nine_before_later_eight : read (head 1 0 ++ led (0 ∷ [])) [] ≡ 9
  -- a first payload that ends early, and is bad as far as it goes
  eight_before_nine : read (head 1 0 ++ le64 2 ++ 0 ∷ []) [] ≡ 8
  -- a bad eighth payload, and a rest that is no multiple of 16
  nine_before_ten : read (head 1 0 ++ blank 7 ++ led (0 ∷ []) ++ 0 ∷ []) [] ≡ 9
  -- a count below 257 at an index that isn't below the next one
  ten_before_eleven : read (unset 0 (big 0 256)) [] ≡ 10
  -- an index that isn't below the next one, and a rest that is no multiple of 16
  ragged_before_eleven : read (unset 0 (big 0 257 ++ 0 ∷ [])) [] ≡ 10
  -- an index that isn't below the next one, and no room for its count
  eleven_before_six : read (unset 0 (big 0 257)) [] ≡ 11
  -- no room for a count, and no cell
  six_before_twenty_five : read (unset_of 1 0 (big 0 257)) [] ≡ 6
  -- an index that isn't below the next one, and no cell for its count
  eleven_before_twenty_five : read (unset_of 0 0 (big 0 257)) (zeros 2) ≡ 11
  -- writing: broken tables, and an output that is too short
  broken_before_output : answer_number (serialize_call (record_at 0 0 0) (7 ∷ []) []).result.answer ≡ 20

pub record RefusalBounds : Type 0 where
  -- 7: version 1 alone
  version_zero : read (0 ∷ drop 1 (unset 0 [])) [] ≡ 7
  version_one : read (unset 0 []) [] ≡ 0
  version_two : read (2 ∷ drop 1 (unset 0 [])) [] ≡ 7
  -- 8: the version alone, and all but the last byte of the eighth payload
  torn_version : read (1 ∷ []) [] ≡ 8
  torn_last : read (take 144 (unset 0 [])) [] ≡ 8
  -- 9: a payload of 8 zeros is an empty set; one byte less or more breaks the rules
  payload-short : read (head 1 0 ++ led (zeros 7) ++ blank 7) [] ≡ 9
  payload_long : read (head 1 0 ++ led (zeros 9) ++ blank 7) [] ≡ 9
  -- 10: a count of 257, and of 256, also where its index comes again
  large-count : read (unset 1 (big 0 257)) (zeros 2) ≡ 0
  small_count : read (unset 1 (big 0 256)) (zeros 2) ≡ 10
  small_count_first : read (unset 1 (big 0 256 ++ big 0 257)) (zeros 2) ≡ 10
  -- 10: the rest has 15, 16 and 17 bytes
  ragged_less : read (unset 1 (take 15 (big 0 257))) (zeros 2) ≡ 10
  ragged_more : read (unset 1 (big 0 257 ++ 0 ∷ [])) (zeros 2) ≡ 10
  -- 11: index 0 at next index 0, large and small, and below the next one
  large_at_next : read (unset 0 (big 0 257)) (zeros 2) ≡ 11
  small_at_next : read (with_one 0 0 []) (zeros 2) ≡ 11
  small_below_next : read (with_one 1 0 []) (zeros 2) ≡ 0
  -- 11: an index in both tiers, and two indices
  both_tiers : read (with_one 2 0 (big 0 257)) (zeros 4) ≡ 11
  two_indices : read (with_one 2 0 (big 1 257)) (zeros 4) ≡ 0
  -- 6: room for one count less, and for both
  full : read (with_one 2 0 (big 1 257)) (zeros 3) ≡ 6
  -- 25: a count and no cell, and a cell for it
  few : read (unset_of 1 0 (big 0 257)) (zeros 2) ≡ 25
  enough : read (unset_of 1 1 (big 0 257)) (zeros 2) ≡ 0
  -- 25: a repeated large index is one count
  repeated_enough : read (unset_of 1 1 (big 0 258 ++ big 0 257)) (zeros 2) ≡ 0
  -- a repeated large index is no clash, takes the last count and needs one row;
  -- the table may have any content, so that 20 is never given
  repeated : deserialize_call standard (unset 1 (big 0 258 ++ big 0 257)) (9 ∷ 9 ∷ 9 ∷ [])
      ≡ record { result = record { answer = Taken; counters = record_at 131072 1 1 }; table = 0 ∷ 257 ∷ 0 ∷ [] }
  -- a refusal leaves the table, and its record is all zeros
  unchanged : deserialize_call standard [] (9 ∷ 9 ∷ 9 ∷ [])
      ≡ record { result = record { answer = Refused TornSnapshot; counters = none }; table = 9 ∷ 9 ∷ 9 ∷ [] }
  -- 15: an output one byte too short, which isn't touched; one that fits, and one with a byte beyond the answer
  output_short : serialize_call (record_at 0 0 0) [] (replicate 144 9)
      ≡ record { result = record { answer = Refused OutputFull; len = 0 }; out = replicate 144 9 }
  output_fits : serialize_call (record_at 0 0 0) [] (replicate 145 9) ≡ record { result = record { answer = Taken; len = 145 }; out = unset 0 [] }
  output_long : serialize_call (record_at 0 0 0) [] (replicate 146 9)
      ≡ record { result = record { answer = Taken; len = 145 }; out = unset 0 [] ++ 9 ∷ [] }

pub record LoadLines : Type 0 where
  -- a total below the stored counts is raised to them, and told
  raises : load_call standard (unset_of 2 0 (big 0 257)) (9 ∷ 9 ∷ 9 ∷ [])
      ≡ record { result = record { answer = Taken; counters = record_with 131072 2 1 1; old_total = 0 }; table = 0 ∷ 257 ∷ 0 ∷ [] }
  -- one that is enough stays, and is told too
  keeps : load_call standard (unset_of 2 7 (big 0 257)) (zeros 2)
      ≡ record { result = record { answer = Taken; counters = record_with 131072 2 7 1; old_total = 7 }; table = 0 ∷ 257 ∷ [] }
  -- a repeated large index is one count: the total is raised to 2, not to 3
  repeated_raises : load_call standard (unset_of 2 1 (big 0 258 ++ big 1 257 ++ big 0 257)) (zeros 4)
      ≡ record { result = record { answer = Taken; counters = record_with 131072 2 2 2; old_total = 1 }; table = 0 ∷ 257 ∷ 1 ∷ 257 ∷ [] }
  -- the refusals of reading but 25
  refuses_six : load (unset_of 1 0 (big 0 257)) [] ≡ 6
  refuses_eleven : load (unset_of 0 0 (big 0 257)) (zeros 2) ≡ 11
  refuses_ten : load (unset_of 1 0 (big 0 256)) (zeros 2) ≡ 10
  refuses_seven : load (2 ∷ []) [] ≡ 7
  -- one leaves the table, its record is all zeros, and the total beside it is 0
  refused_whole : load_call standard (unset_of 0 7 (big 0 257)) (9 ∷ 9 ∷ [])
      ≡ record { result = record { answer = Refused TierClash; counters = none; old_total = 0 }; table = 9 ∷ 9 ∷ [] }

-- shrink settings: base, maximum, good save
abbrev shrink : ℕ → ℕ → ℕ → ShrinkSettings
shrink base max save = record { base = base; max = max; good_save = save }

-- the numbers that reading and loading bytes under some settings are answered with
abbrev read_with : ShrinkSettings → List ℕ → List ℕ → ℕ
read_with g bs t = answer_number (deserialize_call g bs t).result.answer

abbrev load_with : ShrinkSettings → List ℕ → List ℕ → ℕ
load_with g bs t = answer_number (load_call g bs t).result.answer

pub record SettingLines : Type 0 where
  -- 23 before an empty snapshot and before another version
  twenty_three_before_eight : read_with (shrink 0 5 0) [] [] ≡ 23
  twenty_three_before_seven : read_with (shrink 6 5 0) (2 ∷ []) [] ≡ 23
  load_before_eight : load_with (shrink 0 5 0) [] [] ≡ 23
  load_before_seven : load_with (shrink 6 5 0) (2 ∷ []) [] ≡ 23
  -- a good snapshot too; the base is from 1 to the maximum
  base_none : read_with (shrink 0 5 0) (unset 0 []) [] ≡ 23
  base_max : read_with (shrink 5 5 0) (unset 0 []) [] ≡ 0
  base_above : read_with (shrink 6 5 0) (unset 0 []) [] ≡ 23
  load_max : load_with (shrink 5 5 0) (unset 0 []) [] ≡ 0
  load_above : load_with (shrink 6 5 0) (unset 0 []) [] ≡ 23
  -- it leaves the table, its record is all zeros, and the total beside it is 0
  not-read : deserialize_call (shrink 6 5 4) (unset 1 (big 0 257)) (9 ∷ 9 ∷ [])
      ≡ record { result = record { answer = Refused BadSetting; counters = none }; table = 9 ∷ 9 ∷ [] }
  not_loaded : load_call (shrink 6 5 4) (unset 1 (big 0 257)) (9 ∷ 9 ∷ [])
      ≡ record { result = record { answer = Refused BadSetting; counters = none; old_total = 0 }; table = 9 ∷ 9 ∷ [] }
  -- the settings go into the record, and the threshold starts at the base
  settings_read : deserialize_call (shrink 4 5 6) (unset 1 (big 0 257)) (9 ∷ 9 ∷ [])
      ≡ record {
        result =
            record {
              answer = Taken;
              counters = record { next_idx = record { 0 = 1 }; live_cells = 2; stored = 1; maintenance = fresh_maintenance 4; settings = shrink 4 5 6 };
            };
        table = 0 ∷ 257 ∷ [];
      }

-- next index 772, live total 1541, count 3 at index 5 (code 2: set 1), count 770 at index 6
abbrev sample : State
sample =
    record { next = 772; live = 1541; counts = record { idx = 5; count = 3 } ∷ record { idx = 6; count = 770 } ∷ []; maintenance = fresh_maintenance 0 }

pub record Fields : Type 0 where
  -- version, next and live, little-endian
  start : take 17 (snapshot_bytes sample) ≡ 1 ∷ 4 ∷ 3 ∷ 0 ∷ 0 ∷ 0 ∷ 0 ∷ 0 ∷ 0 ∷ 5 ∷ 6 ∷ 0 ∷ 0 ∷ 0 ∷ 0 ∷ 0 ∷ 0 ∷ []
  -- set 0 is empty, set 1 has index 5, the six others are empty; then index and count of the large tier
  rest : drop 17 (snapshot_bytes sample)
      ≡ led (zeros 8) ++ led (write64 (5 ∷ [])) ++ blank 6 ++ 6 ∷ 0 ∷ 0 ∷ 0 ∷ 0 ∷ 0 ∷ 0 ∷ 0 ∷ 2 ∷ 3 ∷ 0 ∷ 0 ∷ 0 ∷ 0 ∷ 0 ∷ 0 ∷ []

-- counts of both tiers: one bit alone, another one, all eight, none
abbrev stored : State
stored =
    record {
      next = 9;
      live = 5;
      counts =
          record { idx = 1; count = 2 } ∷ record { idx = 2; count = 3 } ∷ record { idx = 3; count = 256 }
          ∷ record { idx = 4; count = 300 } ∷ record { idx = 7; count = 400 } ∷ [];
      maintenance = fresh_maintenance 6;
    }

pub read-back : read_snapshot 6 5 (snapshot_bytes stored) ≡ taken stored
unfolding evaluation
read-back = refl

pub refusal-order : RefusalOrder
unfolding evaluation
refusal-order =
    record {
      empty = refl;
      seven_before_eight = refl;
      nine_before_later_eight = refl;
      eight_before_nine = refl;
      nine_before_ten = refl;
      ten_before_eleven = refl;
      ragged_before_eleven = refl;
      eleven_before_six = refl;
      six_before_twenty_five = refl;
      eleven_before_twenty_five = refl;
      broken_before_output = refl;
    }

pub refusal-bounds : RefusalBounds
unfolding evaluation
refusal-bounds =
    record {
      version_zero = refl;
      version_one = refl;
      version_two = refl;
      torn_version = refl;
      torn_last = refl;
      payload-short = refl;
      payload_long = refl;
      large-count = refl;
      small_count = refl;
      small_count_first = refl;
      ragged_less = refl;
      ragged_more = refl;
      large_at_next = refl;
      small_at_next = refl;
      small_below_next = refl;
      both_tiers = refl;
      two_indices = refl;
      full = refl;
      few = refl;
      enough = refl;
      repeated_enough = refl;
      repeated = refl;
      unchanged = refl;
      output_short = refl;
      output_fits = refl;
      output_long = refl;
    }

pub load-lines : LoadLines
unfolding evaluation
load-lines =
    record {
      raises = refl;
      keeps = refl;
      repeated_raises = refl;
      refuses_six = refl;
      refuses_eleven = refl;
      refuses_ten = refl;
      refuses_seven = refl;
      refused_whole = refl;
    }

pub setting-lines : SettingLines
unfolding evaluation
setting-lines =
    record {
      twenty_three_before_eight = refl;
      twenty_three_before_seven = refl;
      load_before_eight = refl;
      load_before_seven = refl;
      base_none = refl;
      base_max = refl;
      base_above = refl;
      load_max = refl;
      load_above = refl;
      not-read = refl;
      not_loaded = refl;
      settings_read = refl;
    }

pub fields : Fields
unfolding evaluation
fields = record { start = refl; rest = refl }
