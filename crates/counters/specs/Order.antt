-- The order of the counters' refusals and the bound of each, fixed by evaluation.
-- Of two neighbours in an order: the smallest input that meets both conditions, and the number that is given.
-- Of each refusal: the smallest input that is given it, beside the nearest one that is not.
-- Assumes nothing.
use Rattle.std.specs.Prelude.{◌≡◌, refl, ℕ, ◌-◌, ◌^◌, true, false, List, [], ◌∷◌, replicate}
use Rattle.base.specs.Logic.{max64, zeros}
use Rattle.base.specs.Answers.{answer_number, Taken, Refused}
use Rattle.base.specs.declared.Refusal.TheVariants.{Spent, Unallocated, FalseOld, Broken, BadSetting}
use Rattle.counters.specs.declared.CounterMaintenance.{CounterMaintenance}
use Rattle.counters.specs.declared.ShrinkSettings.{ShrinkSettings}
use Rattle.counters.specs.declared.Counters.{Counters}
use Rattle.counters.specs.Counts.{Entry, State, fresh_maintenance}
use Rattle.counters.specs.Maintenance.{standard, grown, should_shrink, set_minimum, adjust_shrink_threshold}
use Rattle.counters.specs.Layout.{record_of, table_of}
use Rattle.counters.specs.Calls.{Changed, new_call, alloc_call, get_call, batch_call, shrink_call}
use Rattle.counters.specs.Open.{evaluation}

-- counters at a next index and a live total, with some stored counts
abbrev state : ℕ → ℕ → List Entry → State
state next live es = record { next = next; live = live; counts = es; maintenance = fresh_maintenance 0 }

-- one stored count
abbrev one : ℕ → ℕ → List Entry
one i n = record { idx = i; count = n } ∷ []

-- a state record at a next index that tells of some rows and of as many cells
abbrev record_at : ℕ → ℕ → Counters
record_at next stored = record { next_idx = record { 0 = next }; live_cells = stored; stored = stored; maintenance = fresh_maintenance 0; settings = standard }

-- the number that a batch is answered with, on a record and a table; and on a state in a table of a given length
abbrev batch_on : Counters → List ℕ → List ℕ → ℕ
batch_on c t ws = answer_number (batch_call c t ws).result.answer

abbrev batch : State → ℕ → List ℕ → ℕ
batch s len ws = batch_on (record_of standard s) (table_of len s) ws

-- the number that a reading of a count is answered with
abbrev get : Counters → List ℕ → ℕ → ℕ
get c t i = answer_number (get_call c t (record { 0 = i })).answer

pub record RefusalOrder : Type 0 where
  -- batch: 2, 3, 5, 4, 6, 25
  -- index 0 twice, with nothing allocated
  two_before_three : batch (state 0 0 []) 0 (0 ∷ 0 ∷ 2 ∷ 0 ∷ 0 ∷ 2 ∷ []) ≡ 2
  -- index 0 twice, with an old count that isn't the stored one
  three_before_five : batch (state 1 0 []) 0 (0 ∷ 5 ∷ 2 ∷ 0 ∷ 5 ∷ 2 ∷ []) ≡ 3
  -- a false old count, and a death with none alive
  five_before_four : batch (state 1 0 []) 0 (0 ∷ 5 ∷ 0 ∷ []) ≡ 5
  -- a birth too many, and no room for its count
  four_before_six : batch (state 1 max64 []) 0 (0 ∷ 0 ∷ 2 ∷ []) ≡ 4
  -- no room for a count, and no cell
  six_before_twenty_five : batch (state 1 0 []) 0 (0 ∷ 1 ∷ 2 ∷ []) ≡ 6
  -- no cell for a count, no room for it, and a death too many
  four_before_twenty_five : batch (state 2 0 []) 0 (0 ∷ 1 ∷ 2 ∷ 1 ∷ 1 ∷ 0 ∷ []) ≡ 4
  -- each test is over the whole batch: a later transition is given the earlier refusal
  two_over_all : batch (state 1 0 []) 2 (0 ∷ 5 ∷ 2 ∷ 1 ∷ 0 ∷ 2 ∷ []) ≡ 2
  three_over_all : batch (state 2 0 []) 4 (0 ∷ 5 ∷ 2 ∷ 1 ∷ 0 ∷ 2 ∷ 1 ∷ 0 ∷ 2 ∷ []) ≡ 3
  five_over_all : batch (state 2 0 []) 4 (0 ∷ 1 ∷ 0 ∷ 1 ∷ 5 ∷ 2 ∷ []) ≡ 5
  four_over_all : batch (state 3 0 []) 0 (0 ∷ 0 ∷ 2 ∷ 1 ∷ 1 ∷ 0 ∷ 2 ∷ 1 ∷ 0 ∷ []) ≡ 4
  -- 20 comes before all others
  broken_before_two : batch_on (record_at 0 0) (7 ∷ []) (0 ∷ 0 ∷ 2 ∷ []) ≡ 20
  broken_before_two_read : get (record_at 0 0) (7 ∷ []) 0 ≡ 20

pub record RefusalBounds : Type 0 where
  -- 1: the last index isn't handed out, the one before it is
  spent : alloc_call (record_at max64 0) ≡ record { answer = Refused Spent; idx = record { 0 = 0 }; counters = record_at max64 0 }
  not_spent : alloc_call (record_at (max64 - 1) 0) ≡ record { answer = Taken; idx = record { 0 = max64 - 1 }; counters = record_at max64 0 }
  -- 2: the next index, and the one before it
  unallocated : get_call (record_at 1 0) [] (record { 0 = 1 }) ≡ record { answer = Refused Unallocated; count = record { 0 = 0 } }
  allocated : get_call (record_at 1 0) [] (record { 0 = 0 }) ≡ record { answer = Taken; count = record { 0 = 1 } }
  unallocated_batch : batch (state 1 0 []) 2 (1 ∷ 0 ∷ 2 ∷ []) ≡ 2
  allocated_batch : batch (state 1 0 []) 2 (0 ∷ 0 ∷ 2 ∷ []) ≡ 0
  -- a dropped transition isn't seen
  unallocated_dropped : batch (state 0 0 []) 0 (0 ∷ 2 ∷ 2 ∷ []) ≡ 0
  -- 3: twice the same index, and twice where one is dropped
  repeated : batch (state 1 0 []) 2 (0 ∷ 0 ∷ 1 ∷ 0 ∷ 0 ∷ 1 ∷ []) ≡ 3
  not_repeated : batch (state 1 0 []) 2 (0 ∷ 0 ∷ 1 ∷ 0 ∷ 1 ∷ 1 ∷ []) ≡ 0
  -- 4: live + births at 2 ^ 64 - 1, and one more; also where a death would take it back
  births_fit : batch (state 1 (max64 - 1) []) 0 (0 ∷ 0 ∷ 1 ∷ []) ≡ 0
  births_over : batch (state 1 max64 []) 0 (0 ∷ 0 ∷ 1 ∷ []) ≡ 4
  births_over_and_back : batch (state 2 max64 []) 0 (0 ∷ 0 ∷ 1 ∷ 1 ∷ 1 ∷ 0 ∷ []) ≡ 4
  -- 4: as many deaths as live + births, and one more
  deaths_fit : batch (state 2 0 []) 0 (0 ∷ 1 ∷ 0 ∷ 1 ∷ 0 ∷ 1 ∷ []) ≡ 0
  deaths_over : batch (state 1 0 []) 0 (0 ∷ 1 ∷ 0 ∷ []) ≡ 4
  -- 5: with nothing stored 0 and 1 are taken at their word, and 2 isn't
  old_zero : batch (state 1 0 []) 2 (0 ∷ 0 ∷ 2 ∷ []) ≡ 0
  old_one : batch (state 1 1 []) 2 (0 ∷ 1 ∷ 2 ∷ []) ≡ 0
  old_two : batch (state 1 0 []) 2 (0 ∷ 2 ∷ 3 ∷ []) ≡ 5
  -- 5: with 2 stored the old count is 2, and not one less or more
  old-stored : batch (state 1 1 (one 0 2)) 2 (0 ∷ 2 ∷ 3 ∷ []) ≡ 0
  old_less : batch (state 1 1 (one 0 2)) 2 (0 ∷ 1 ∷ 3 ∷ []) ≡ 5
  old_more : batch (state 1 1 (one 0 2)) 2 (0 ∷ 3 ∷ 2 ∷ []) ≡ 5
  -- 6: one count, in a table of one word and of two
  full : batch (state 1 0 []) 1 (0 ∷ 0 ∷ 2 ∷ []) ≡ 6
  not_full : batch (state 1 0 []) 2 (0 ∷ 0 ∷ 2 ∷ []) ≡ 0
  -- 6: stored counts after the call count, so one that goes makes room for one that comes
  full_by_one : batch (state 2 2 (one 0 2)) 2 (1 ∷ 1 ∷ 2 ∷ []) ≡ 6
  room_made : batch (state 2 2 (one 0 2)) 2 (1 ∷ 1 ∷ 2 ∷ 0 ∷ 2 ∷ 1 ∷ []) ≡ 0
  -- 25: a count and no cell, and a cell for it
  few : batch (state 1 0 []) 2 (0 ∷ 1 ∷ 2 ∷ []) ≡ 25
  enough : batch (state 1 0 []) 2 (0 ∷ 0 ∷ 2 ∷ []) ≡ 0
  -- 25: another cell dies, and the count at its index goes with it
  few_by_death : batch (state 2 1 (one 0 2)) 2 (1 ∷ 1 ∷ 0 ∷ []) ≡ 25
  gone_by_death : batch (state 2 1 (one 0 2)) 2 (0 ∷ 2 ∷ 0 ∷ []) ≡ 0
  -- 25: the totals after the whole batch count, so one that is born makes a cell for one that isn't
  cell_made : batch (state 2 0 []) 2 (0 ∷ 1 ∷ 2 ∷ 1 ∷ 0 ∷ 1 ∷ []) ≡ 0
  -- 25: what the next index is doesn't count
  few_allocated : batch (state 9 0 []) 2 (0 ∷ 1 ∷ 2 ∷ []) ≡ 25
  -- a refused batch leaves the record and the table
  unchanged : batch_call (record_at 1 1) (0 ∷ 2 ∷ []) (0 ∷ 3 ∷ 4 ∷ [])
      ≡ record { result = record { answer = Refused FalseOld; counters = record_at 1 1 }; table = 0 ∷ 2 ∷ [] }

pub record BrokenTables : Type 0 where
  -- one row, and the nearest tables that hold no state
  held : get (record_at 1 1) (0 ∷ 2 ∷ []) 0 ≡ 0
  -- a count below 2
  low_count : get (record_at 1 1) (0 ∷ 1 ∷ []) 0 ≡ 20
  -- an index at the next one
  high_index : get (record_at 1 1) (1 ∷ 2 ∷ []) 0 ≡ 20
  -- two rows that ascend, that repeat an index, and that descend
  ascending : get (record_at 2 2) (0 ∷ 2 ∷ 1 ∷ 2 ∷ []) 0 ≡ 0
  repeating : get (record_at 2 2) (0 ∷ 2 ∷ 0 ∷ 2 ∷ []) 0 ≡ 20
  descending : get (record_at 2 2) (1 ∷ 2 ∷ 0 ∷ 2 ∷ []) 0 ≡ 20
  -- a word past the rows that isn't 0, also an odd one
  zero_after : get (record_at 1 0) (0 ∷ 0 ∷ 0 ∷ []) 0 ≡ 0
  stray_row : get (record_at 1 0) (0 ∷ 2 ∷ 0 ∷ []) 0 ≡ 20
  stray_word : get (record_at 1 0) (0 ∷ 0 ∷ 2 ∷ []) 0 ≡ 20
  -- fewer cells than rows
  few-cells : get (record { next_idx = record { 0 = 1 }; live_cells = 0; stored = 1; maintenance = fresh_maintenance 0; settings = standard }) (0 ∷ 2 ∷ []) 0 ≡ 20
  -- more rows than words
  short_table : get (record_at 1 1) (0 ∷ []) 0 ≡ 20
  -- words of a batch that are no multiple of 3
  ragged_one : batch_on (record_at 1 0) [] (0 ∷ []) ≡ 20
  ragged_two : batch_on (record_at 1 0) [] (0 ∷ 1 ∷ []) ≡ 20
  no_words : batch_on (record_at 1 0) [] [] ≡ 0
  -- shrinking: nine times no beside the refusal
  shrink-broken : shrink_call (record_at 1 0) (7 ∷ []) 0
      ≡ record { answer = Refused Broken; alive = false; small = replicate 8 false; counters = record_at 1 0 }
  -- allocation is lent no table
  alloc_unseen : answer_number (alloc_call (record_at 1 9)).answer ≡ 0

-- removal counts and a threshold
abbrev removals : ℕ → ℕ → ℕ → CounterMaintenance
removals alive set minimum =
    record { alive_removed_since_shrink = alive; small_removed_since_shrink = set ∷ zeros 7; min_alive_removed_before_shrink = minimum }

-- a state record with nothing stored
abbrev unstored : CounterMaintenance → Counters
unstored m = record { next_idx = record { 0 = 0 }; live_cells = 0; stored = 0; maintenance = m; settings = standard }

pub record MaintenanceBounds : Type 0 where
  -- nothing removed: no; nothing alive: yes
  nothing_removed : should_shrink 0 0 0 ≡ false
  nothing_alive : should_shrink 0 1 9 ≡ true
  -- removed at least the minimum
  at_minimum : should_shrink 1 65536 set_minimum ≡ true
  below_minimum : should_shrink 1 65535 set_minimum ≡ false
  -- 3 × removed at least alive
  third : should_shrink 3 1 1 ≡ true
  under_third : should_shrink 4 1 1 ≡ false
  -- bytes saved: from 1,048,576 the threshold resets, below that it doubles, up to 2,097,152
  resets : adjust_shrink_threshold standard 1048576 262144 ≡ 131072
  resets_above : adjust_shrink_threshold standard 1048577 262144 ≡ 131072
  doubles : adjust_shrink_threshold standard 1048575 262144 ≡ 524288
  doubles_to_most : adjust_shrink_threshold standard 0 1048576 ≡ 2097152
  stays_at_most : adjust_shrink_threshold standard 0 2097152 ≡ 2097152
  -- removal counts stop at 2 ^ 64 - 1
  grows : grown (max64 - 1) 1 ≡ max64
  stops : grown max64 1 ≡ max64
  -- a yes sets that removal count to 0; the threshold moves only after an alive yes
  alive_yes : shrink_call (unstored (removals 1 0 131072)) [] 0
      ≡ record { answer = Taken; alive = true; small = replicate 8 false; counters = unstored (removals 0 0 262144) }
  set_yes : shrink_call (unstored (removals 0 1 131072)) [] 0
      ≡ record { answer = Taken; alive = false; small = true ∷ replicate 7 false; counters = unstored (removals 0 0 131072) }

-- shrink settings: base, maximum, good save
abbrev shrink : ℕ → ℕ → ℕ → ShrinkSettings
shrink base max save = record { base = base; max = max; good_save = save }

-- fresh counters at a next index, made in a table of two words under some settings; the number that this is answered with
abbrev make : ShrinkSettings → Changed
make g = new_call g (record { 0 = 4 }) (7 ∷ 8 ∷ [])

abbrev making : ShrinkSettings → ℕ
making g = answer_number (make g).result.answer

-- a state record with nothing stored under some settings, and with maintenance
abbrev under : ShrinkSettings → CounterMaintenance → Counters
under g m = record { next_idx = record { 0 = 0 }; live_cells = 0; stored = 0; maintenance = m; settings = g }

-- fresh counters at the next index 4, with a threshold
abbrev state-from : ℕ → State
state-from base = record { next = 4; live = 0; counts = []; maintenance = fresh_maintenance base }

pub record SettingLines : Type 0 where
  -- 23: the base is from 1 to the maximum; the maximum and the good save are any
  standard_made : making standard ≡ 0
  base_none : making (shrink 0 5 0) ≡ 23
  base_one : making (shrink 1 5 0) ≡ 0
  base_max : making (shrink 5 5 0) ≡ 0
  base_above : making (shrink 6 5 0) ≡ 23
  max_none : making (shrink 0 0 7) ≡ 23
  max_below : making (shrink 1 0 7) ≡ 23
  any_max : making (shrink 1 max64 max64) ≡ 0
  -- beside 23 the table is as it was and the record all zeros
  not_made : make (shrink 6 5 4)
      ≡ record { result = record { answer = Refused BadSetting; counters = record_of (shrink 0 0 0) (record { next = 0; live = 0; counts = []; maintenance = fresh_maintenance 0 }) }; table = 7 ∷ 8 ∷ [] }
  -- the threshold starts at the base
  started : (make (shrink 6 9 4)).result.counters ≡ record_of (shrink 6 9 4) (state-from 6)
  -- a lent record with such settings is broken
  lent_none : get (under (shrink 0 5 0) (fresh_maintenance 0)) [] 0 ≡ 20
  lent_above : get (under (shrink 6 5 0) (fresh_maintenance 0)) [] 0 ≡ 20
  lent_batch : batch_on (under (shrink 6 5 0) (fresh_maintenance 0)) [] [] ≡ 20
  lent_max : batch_on (under (shrink 5 5 0) (fresh_maintenance 0)) [] [] ≡ 0
  -- the threshold goes to the box's base by its good save, else it doubles up to its maximum
  save : adjust_shrink_threshold (shrink 10 35 7) 7 20 ≡ 10
  no_save : adjust_shrink_threshold (shrink 10 35 7) 6 10 ≡ 20
  to_max : adjust_shrink_threshold (shrink 10 35 7) 6 20 ≡ 35
  -- a good save of 0: every save is good; a maximum of 2 ^ 64 - 1: doubling ends there
  any_save : adjust_shrink_threshold (shrink 10 35 0) 0 20 ≡ 10
  far : adjust_shrink_threshold (shrink 1 max64 7) 0 (2 ^ 63) ≡ max64
  near : adjust_shrink_threshold (shrink 1 max64 7) 0 (2 ^ 63 - 1) ≡ max64 - 1
  -- shrinking goes by the record's settings and leaves them
  shrunk_by : shrink_call (under (shrink 10 35 7) (removals 1 0 20)) [] 6
      ≡ record { answer = Taken; alive = true; small = replicate 8 false; counters = under (shrink 10 35 7) (removals 0 0 35) }
  shrunk_back : shrink_call (under (shrink 10 35 7) (removals 1 0 20)) [] 7
      ≡ record { answer = Taken; alive = true; small = replicate 8 false; counters = under (shrink 10 35 7) (removals 0 0 10) }

pub refusal-order : RefusalOrder
unfolding evaluation
refusal-order =
    record {
      two_before_three = refl;
      three_before_five = refl;
      five_before_four = refl;
      four_before_six = refl;
      six_before_twenty_five = refl;
      four_before_twenty_five = refl;
      two_over_all = refl;
      three_over_all = refl;
      five_over_all = refl;
      four_over_all = refl;
      broken_before_two = refl;
      broken_before_two_read = refl;
    }

pub refusal-bounds : RefusalBounds
unfolding evaluation
refusal-bounds =
    record {
      spent = refl;
      not_spent = refl;
      unallocated = refl;
      allocated = refl;
      unallocated_batch = refl;
      allocated_batch = refl;
      unallocated_dropped = refl;
      repeated = refl;
      not_repeated = refl;
      births_fit = refl;
      births_over = refl;
      births_over_and_back = refl;
      deaths_fit = refl;
      deaths_over = refl;
      old_zero = refl;
      old_one = refl;
      old_two = refl;
      old-stored = refl;
      old_less = refl;
      old_more = refl;
      full = refl;
      not_full = refl;
      full_by_one = refl;
      room_made = refl;
      few = refl;
      enough = refl;
      few_by_death = refl;
      gone_by_death = refl;
      cell_made = refl;
      few_allocated = refl;
      unchanged = refl;
    }

pub broken-tables : BrokenTables
unfolding evaluation
broken-tables =
    record {
      held = refl;
      low_count = refl;
      high_index = refl;
      ascending = refl;
      repeating = refl;
      descending = refl;
      zero_after = refl;
      stray_row = refl;
      stray_word = refl;
      few-cells = refl;
      short_table = refl;
      ragged_one = refl;
      ragged_two = refl;
      no_words = refl;
      shrink-broken = refl;
      alloc_unseen = refl;
    }

pub maintenance-bounds : MaintenanceBounds
unfolding evaluation
maintenance-bounds =
    record {
      nothing_removed = refl;
      nothing_alive = refl;
      at_minimum = refl;
      below_minimum = refl;
      third = refl;
      under_third = refl;
      resets = refl;
      resets_above = refl;
      doubles = refl;
      doubles_to_most = refl;
      stays_at_most = refl;
      grows = refl;
      stops = refl;
      alive_yes = refl;
      set_yes = refl;
    }

pub setting-lines : SettingLines
unfolding evaluation
setting-lines =
    record {
      standard_made = refl;
      base_none = refl;
      base_one = refl;
      base_max = refl;
      base_above = refl;
      max_none = refl;
      max_below = refl;
      any_max = refl;
      not_made = refl;
      started = refl;
      lent_none = refl;
      lent_above = refl;
      lent_batch = refl;
      lent_max = refl;
      save = refl;
      no_save = refl;
      to_max = refl;
      any_save = refl;
      far = refl;
      near = refl;
      shrunk_by = refl;
      shrunk_back = refl;
    }
