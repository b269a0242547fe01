-- A box's calls one after the other: document 01's sequence of two allocations and two batches, what the plain box makes of the
-- calls, which records a journal has, what reading in answers, where every entry waits, what other settings make of a box, and what a mode makes of reading in, fixed by evaluation. The order of each call's refusals stands in the crate that has the call.
-- Assumes nothing.
use Rattle.std.specs.Prelude.{◌≡◌, refl, ℕ, ◌*◌, ◌^◌, true, false, List, [], ◌∷◌, map, length, take, replicate}
use Rattle.std.proofs.Math.Option.{Option, none, some}
use Rattle.base.specs.Logic.{zeros, max64}
use Rattle.base.specs.Answers.{answer_number, Taken}
use Rattle.blake3.specs.Mode.{Mode, mode_of, unkeyed, bad_key}
use Rattle.counters.specs.declared.CounterTransition.{CounterTransition}
use Rattle.cell_nursery.specs.Entries.{Entry, State, empty}
use Rattle.cell_nursery.specs.Items.{Delta, item_bytes}
use Rattle.cell_nursery.specs.Layout.{record_of}
use Rattle.node_box.specs.Box.{Settings, settings_in_range, standard_settings, Box, settings_of, Call, allocate, batch, batch_records, delta, drain, shrink, adjust, measure, locate, made, step, run, answers, snapshot_of}
use Rattle.node_box.specs.Plain.{Plain, Cell, fresh_plain, plain_step, run_plain}
use Rattle.node_box.specs.Journal.{Logged, logged_of, whole, Rebuild, rebuild}
use Rattle.node_box.specs.Demand.{typed, History, read_back, every_entry_waits}
use Rattle.node_box.specs.Open.{evaluation}

-- a fresh box at next index 0, with room for two counts, two entries and two cell bytes
abbrev box : Box
box = made standard_settings 0 (zeros 4) (zeros 16) (zeros 10) (zeros 2)

-- two allocations, batch (1, 0 → 3)(0, 0 → 1), batch (1, 2 → 5)
abbrev calls : List Call
calls = allocate ∷ allocate ∷ batch (1 ∷ 0 ∷ 3 ∷ 0 ∷ 0 ∷ 1 ∷ []) ∷ batch (1 ∷ 2 ∷ 5 ∷ []) ∷ []

-- a record of an index, an old and a new count
abbrev move : ℕ → ℕ → ℕ → CounterTransition
move i old new = record { idx = record { 0 = i }; old_raw = old; new_raw = new }

-- the box with a count and a cell byte that its records don't know of
abbrev broken : Box
broken = record { counters = box.counters; counts = 0 ∷ 2 ∷ 0 ∷ 0 ∷ []; nursery = box.nursery; entries = box.entries; waiting = box.waiting; cells = 8 ∷ 0 ∷ [] }

-- answer, next index and live total after a call on the box that the first n calls leave
abbrev line : ℕ → Call → List ℕ
line n x =
    let s = step (run box (take n calls)) x in
    answer_number s.0 ∷ s.1.counters.next_idx.0 ∷ s.1.counters.live_cells ∷ []

-- the plain box after the same calls
abbrev plain : Plain
plain = run_plain (fresh_plain 0) calls (answers box calls)

-- a delta that inserts the hash 1 and removes some hashes, and the plain box after it
abbrev entry : Entry
entry = record { hash = 1; idx = 7; born = 5; cell = 8 ∷ 9 ∷ [] }

abbrev change : List ℕ → Call
change rs = delta 3 false 1 (length rs) (item_bytes (record { inserts = entry ∷ []; removes = rs }))

abbrev changed : List ℕ → Plain
changed rs = plain_step (fresh_plain 0) (change rs) true

-- how many records a delta of some removes leaves in the journal
abbrev logged : ℕ → ℕ
logged n = length (logged_of unkeyed (delta 3 false 0 n (zeros (32 * n))) [])

-- how many of two records of two bytes are whole in the first k bytes
abbrev pair : Logged
pair = record { bytes = 8 ∷ 9 ∷ []; after = [] }

abbrev left : ℕ → ℕ
left k = length (whole k (pair ∷ pair ∷ []))

-- a box read in from a snapshot and a journal: 40 zeros are a whole record without a payload, and the hash doesn't match
abbrev restored : List ℕ → List ℕ → Rebuild
restored snapshot journal = rebuild unkeyed standard_settings snapshot journal (zeros 4) (zeros 16) (zeros 10) (zeros 2)

-- the hash 1, born at 5, and waiting rows of that hash
abbrev rows : List ℕ → State
rows rounds = record { entries = entry ∷ []; waiting = map (λ r. record { born = r; hash = 1 }) rounds }

-- other settings: a delay, and a base of 10, a maximum of 35 and a good save of 7
abbrev slow : ℕ → Settings
slow delay = record { delay = delay; shrink = record { base = 10; max = 35; good_save = 7 } }

abbrev slow_box : Box
slow_box = made (slow 300) 0 (zeros 4) (zeros 16) (zeros 10) (zeros 2)

-- its threshold, and one read in from its snapshot under some settings
abbrev threshold : Box → ℕ
threshold b = b.counters.maintenance.min_alive_removed_before_shrink

abbrev read_in : Settings → List ℕ → List ℕ → Rebuild
read_in g snapshot journal = rebuild unkeyed g snapshot journal (zeros 4) (zeros 16) (zeros 10) (zeros 2)

-- a box made in a mode, without a call on it; and the one read in from its snapshot and its journal, of no byte, into tables of nines
abbrev uncalled : Mode → History
uncalled m = record { settings = standard_settings; mode = m; next = 0; counts = zeros 4; entries = zeros 16; waiting = zeros 10; cells = zeros 2; calls = [] }

abbrev again : Mode → Rebuild
again m = read_back (uncalled m) 0 (zeros 4) (replicate 16 9) (replicate 10 9) (replicate 2 9)

pub record SettingLines : Type 0 where
  -- document 01's settings are in their ranges
  pub standard_ranged : settings_in_range standard_settings ≡ true
  -- each of them alone can be outside
  delay_none : settings_in_range (slow 0) ≡ false
  delay_most : settings_in_range (slow 10000) ≡ true
  delay_past : settings_in_range (slow 10001) ≡ false
  base_past : settings_in_range (record { delay = 300; shrink = record { base = 36; max = 35; good_save = 7 } }) ≡ false
  -- a box has those that it was made with, and keeps them
  made-with : settings_of slow_box ≡ slow 300
  kept : settings_of (run slow_box (allocate ∷ batch (0 ∷ 0 ∷ 2 ∷ []) ∷ delta 0 false 0 1 (zeros 32) ∷ drain 300 0 ∷ shrink 0 ∷ adjust 0 ∷ [])) ≡ slow 300
  -- its threshold starts at the base, doubles up to the maximum and goes back after a good save
  starts : threshold slow_box ≡ 10
  doubles : threshold (run slow_box (adjust 6 ∷ [])) ≡ 20
  ends : threshold (run slow_box (adjust 6 ∷ adjust 6 ∷ [])) ≡ 35
  returns : threshold (run slow_box (adjust 6 ∷ adjust 7 ∷ [])) ≡ 10
  -- a box read in has the settings that it is given, and its threshold starts at their base
  read-settings : settings_of (read_in (slow 300) (snapshot_of (run slow_box (adjust 6 ∷ []))) []).box ≡ slow 300
  read_threshold : threshold (read_in (slow 300) (snapshot_of (run slow_box (adjust 6 ∷ []))) []).box ≡ 10
  -- 23 for a setting outside its range, before what the snapshot and the journal are refused with
  read-delay : answer_number (read_in (slow 0) (snapshot_of slow_box) (zeros 40)).answer ≡ 23
  read_base : answer_number (read_in (record { delay = 300; shrink = record { base = 0; max = 35; good_save = 7 } }) [] []).answer ≡ 23

pub record ModeLines : Type 0 where
  -- in hash mode no key is bad
  pub key_none : (key : List ℕ) → bad_key (mode_of false key) ≡ false
  -- 23 for a key of 31 bytes: the nursery's record is zeros, and its tables are as they were
  short_answer : answer_number (again (mode_of true (zeros 31))).answer ≡ 23
  short_box : (again (mode_of true (zeros 31))).box ≡ record { counters = box.counters; counts = box.counts; nursery = record_of 0 empty; entries = replicate 16 9; waiting = replicate 10 9; cells = replicate 2 9 }
  -- under one of 32 bytes it is read in, and in hash mode whatever the key is
  right_answer : answer_number (again (mode_of true (zeros 32))).answer ≡ 0
  none_answer : (key : List ℕ) → answer_number (again (mode_of false key)).answer ≡ 0

pub record BoxLines : Type 0 where
  -- answer, next and live of the four calls
  first_allocation : line 0 allocate ≡ 0 ∷ 1 ∷ 0 ∷ []
  second_allocation : line 1 allocate ≡ 0 ∷ 2 ∷ 0 ∷ []
  first_batch : line 2 (batch (1 ∷ 0 ∷ 3 ∷ 0 ∷ 0 ∷ 1 ∷ [])) ≡ 0 ∷ 2 ∷ 2 ∷ []
  second_batch : line 3 (batch (1 ∷ 2 ∷ 5 ∷ [])) ≡ 5 ∷ 2 ∷ 2 ∷ []
  -- the table after them: count 3 at index 1, and nothing for the count 1 at index 0
  table : (run box calls).counts ≡ 1 ∷ 3 ∷ 0 ∷ 0 ∷ []
  -- the first batch as records leaves the same box, and the second is refused with the same number
  records : line 2 (batch_records (move 1 0 3 ∷ move 0 0 1 ∷ [])) ≡ 0 ∷ 2 ∷ 2 ∷ []
  records_box : (step (run box (take 2 calls)) (batch_records (move 1 0 3 ∷ move 0 0 1 ∷ []))).1 ≡ run box (take 3 calls)
  records-refused : line 3 (batch_records (move 1 2 5 ∷ [])) ≡ 5 ∷ 2 ∷ 2 ∷ []
  -- a count without a cell is refused by both, and the box is left as it is
  unborn : line 2 (batch (1 ∷ 1 ∷ 5 ∷ [])) ≡ 25 ∷ 2 ∷ 0 ∷ []
  unborn_records : line 2 (batch_records (move 1 1 5 ∷ [])) ≡ 25 ∷ 2 ∷ 0 ∷ []
  unborn_box : (step (run box (take 2 calls)) (batch (1 ∷ 1 ∷ 5 ∷ []))).1 ≡ run box (take 2 calls)
  -- the loan moves the threshold and nothing else: it doubles, and after a good save it is as at the start
  adjust_doubled : (run box (adjust 0 ∷ [])).counters.maintenance.min_alive_removed_before_shrink ≡ 262144
  adjust_back : run box (adjust 0 ∷ adjust 1048576 ∷ []) ≡ box
  -- measuring and locating leave the box; on tables that hold no state they are 20, where the loan, which is lent none, is taken
  measure_taken : step (run box calls) measure ≡ (Taken, run box calls)
  locate_taken : step (run box calls) (locate 1) ≡ (Taken, run box calls)
  measure_broken : answer_number (step broken measure).0 ≡ 20
  locate_broken : answer_number (step broken (locate 1)).0 ≡ 20
  adjust_broken : answer_number (step broken (adjust 0)).0 ≡ 0
  -- a fresh plain box has the count 1 at every index
  plain_fresh : (fresh_plain 0).count 7 ≡ 1
  -- the plain box is fed which calls were accepted; next, live and the counts follow
  accepted : answers box calls ≡ true ∷ true ∷ true ∷ false ∷ []
  plain_next : plain.next ≡ 2
  plain_live : plain.live ≡ 2
  plain_zero : plain.count 0 ≡ 1
  plain_one : plain.count 1 ≡ 3
  -- a death leaves the count 1 and one alive less
  plain_death : (plain_step plain (batch (1 ∷ 3 ∷ 0 ∷ [])) true).count 1 ≡ 1
  plain_death_live : (plain_step plain (batch (1 ∷ 3 ∷ 0 ∷ [])) true).live ≡ 1
  -- a transition with old = new is dropped
  plain_dropped : (plain_step plain (batch (1 ∷ 9 ∷ 9 ∷ [])) true).count 1 ≡ 3
  -- records are a batch
  plain_records : (plain_step plain (batch_records (move 1 3 0 ∷ [])) true).count 1 ≡ 1
  plain_records_live : (plain_step plain (batch_records (move 1 3 0 ∷ [])) true).live ≡ 1
  plain_records_dropped : (plain_step plain (batch_records (move 1 9 9 ∷ [])) true).count 1 ≡ 3
  -- a refused call is no step
  plain_refused : (plain_step plain (batch (1 ∷ 3 ∷ 0 ∷ [])) false).count 1 ≡ 3
  -- an insert sets its hash's entry, and then a remove leaves its hash none
  plain_insert : (changed []).entry 1 ≡ some (record { idx = 7; born = 5; cell = 8 ∷ 9 ∷ [] })
  plain_other : (changed []).entry 2 ≡ none
  plain_remove : (changed (1 ∷ [])).entry 1 ≡ none
  -- draining is no step
  plain_drain : (plain_step (changed []) (drain 105 44) true).entry 1 ≡ some (record { idx = 7; born = 5; cell = 8 ∷ 9 ∷ [] })
  -- nor are the loan, measuring and locating
  plain_adjust : plain_step (changed []) (adjust 0) true ≡ changed []
  plain_measure : plain_step (changed []) measure true ≡ changed []
  plain_locate : plain_step (changed []) (locate 1) true ≡ changed []
  -- a delta without an item leaves no record
  logged_none : logged 0 ≡ 0
  logged_one : logged 1 ≡ 1
  -- a record is whole where all its bytes are left
  cut_before : left 1 ≡ 0
  cut_behind : left 2 ≡ 1
  cut_within : left 3 ≡ 1
  -- it is read in where both are taken, also where the journal's last record is cut; else the answer is the snapshot's refusal, or the journal's
  restored_both : answer_number (restored (snapshot_of box) []).answer ≡ 0
  restored_cut : answer_number (restored (snapshot_of box) (zeros 39)).answer ≡ 0
  restored_cut_end : answer_number (restored (snapshot_of box) (zeros 39)).ended ≡ 16
  restored_torn : answer_number (restored [] (zeros 40)).answer ≡ 8
  restored_damaged : answer_number (restored (snapshot_of box) (zeros 40)).answer ≡ 21
  -- a record's fields are u64
  typed_most : typed (batch_records (move max64 max64 max64 ∷ [])) ≡ true
  typed_past : typed (batch_records (move 0 (2 ^ 64) 0 ∷ [])) ≡ false
  -- an entry waits by a row of its own hash and round; no row is another's, and none stands twice
  waits : every_entry_waits (rows (5 ∷ [])) ≡ true
  waits_not : every_entry_waits (rows []) ≡ false
  waits_other_round : every_entry_waits (rows (6 ∷ [])) ≡ false
  waits_twice : every_entry_waits (rows (5 ∷ 5 ∷ [])) ≡ false
  waits_too_many : every_entry_waits (rows (5 ∷ 6 ∷ [])) ≡ false

pub box-lines : BoxLines
unfolding evaluation
box-lines =
    record {
      first_allocation = refl;
      second_allocation = refl;
      first_batch = refl;
      second_batch = refl;
      table = refl;
      records = refl;
      records_box = refl;
      records-refused = refl;
      unborn = refl;
      unborn_records = refl;
      unborn_box = refl;
      adjust_doubled = refl;
      adjust_back = refl;
      measure_taken = refl;
      locate_taken = refl;
      measure_broken = refl;
      locate_broken = refl;
      adjust_broken = refl;
      plain_fresh = refl;
      accepted = refl;
      plain_next = refl;
      plain_live = refl;
      plain_zero = refl;
      plain_one = refl;
      plain_death = refl;
      plain_death_live = refl;
      plain_dropped = refl;
      plain_records = refl;
      plain_records_live = refl;
      plain_records_dropped = refl;
      plain_refused = refl;
      plain_insert = refl;
      plain_other = refl;
      plain_remove = refl;
      plain_drain = refl;
      plain_adjust = refl;
      plain_measure = refl;
      plain_locate = refl;
      logged_none = refl;
      logged_one = refl;
      cut_before = refl;
      cut_behind = refl;
      cut_within = refl;
      restored_both = refl;
      restored_cut = refl;
      restored_cut_end = refl;
      restored_torn = refl;
      restored_damaged = refl;
      typed_most = refl;
      typed_past = refl;
      waits = refl;
      waits_not = refl;
      waits_other_round = refl;
      waits_twice = refl;
      waits_too_many = refl;
    }

pub setting-lines : SettingLines
unfolding evaluation
setting-lines =
    record {
      standard_ranged = refl;
      delay_none = refl;
      delay_most = refl;
      delay_past = refl;
      base_past = refl;
      made-with = refl;
      kept = refl;
      starts = refl;
      doubles = refl;
      ends = refl;
      returns = refl;
      read-settings = refl;
      read_threshold = refl;
      read-delay = refl;
      read_base = refl;
    }

pub mode-lines : ModeLines
unfolding evaluation
mode-lines =
    record {
      key_none = λ key. refl;
      short_answer = refl;
      short_box = refl;
      right_answer = refl;
      none_answer = λ key. refl;
    }
