-- How a journal reading ends: its answer, records applied, the byte place after the last of them and the number, fixed by evaluation.
-- In the place of the hash stands one that is quick to evaluate: the first 32 bytes of what it covers.
-- Assumes nothing.
use Rattle.std.specs.Prelude.{◌≡◌, refl, ℕ, List, [], ◌∷◌, ◌++◌, true, false, take, drop, replicate}
use Rattle.base.specs.Logic.{zeros}
use Rattle.base.specs.Answers.{answer_number, Taken, Refused}
use Rattle.base.specs.declared.Refusal.TheVariants.{FarLength, BadSetting}
use Rattle.blake3.specs.Mode.{Mode, mode_of}
use Rattle.cell_nursery.specs.Entries.{Entry, empty, insert}
use Rattle.cell_nursery.specs.Drain.{promotion_delay}
use Rattle.cell_nursery.specs.Layout.{record_of, entries_table, waiting_table}
use Rattle.format.specs.Record.{record_bytes}
use Rattle.journal.specs.Journal.{ReadIn, scan, scan_under, not_read, read_call, read_under}
use Rattle.journal.specs.Open.{evaluation}

-- the stand-in for the hash
abbrev first_bytes : List ℕ → List ℕ
first_bytes b = take 32 (b ++ zeros 32)

abbrev entry : ℕ → Entry
entry h = record { hash = h; idx = 7; born = 0; cell = [] }

-- a record that inserts one hash (102 bytes), that removes one (88), and that does neither (56)
abbrev put : ℕ → List ℕ
put h = record_bytes first_bytes 1 (record { inserts = entry h ∷ []; removes = [] })

abbrev take_out : ℕ → List ℕ
take_out h = record_bytes first_bytes 1 (record { inserts = []; removes = h ∷ [] })

abbrev idle : List ℕ
idle = record_bytes first_bytes 1 (record { inserts = []; removes = [] })

-- another hash than its own
abbrev spoiled : List ℕ → List ℕ
spoiled bs = 9 ∷ drop 1 bs

-- a record of no item with one byte after it, and the right hash
abbrev running-on : List ℕ
running-on = let b : List ℕ = 17 ∷ zeros 24 in first_bytes b ++ b

-- a record of which a payload byte was flipped; one whose stated length is 2 ^ 64 - 8; one that states a length of 300; and one of 15 payload bytes with the
-- right hash
abbrev flipped : List ℕ → List ℕ
flipped bs = take 45 bs ++ 1 ∷ drop 46 bs

abbrev far : List ℕ
far = zeros 32 ++ 0xf8 ∷ replicate 7 0xff

abbrev reaching : List ℕ
reaching = zeros 32 ++ 44 ∷ 1 ∷ zeros 6

abbrev misfit : List ℕ
misfit = let b : List ℕ = 15 ∷ zeros 22 in first_bytes b ++ b

pub record Ending : Type 0 where
  pub answer : ℕ
  pub applied : ℕ
  pub place : ℕ
  pub number : ℕ

-- how the reading of bytes into tables with room for two entries ends, under a delay
abbrev ending_under : ℕ → List ℕ → Ending
ending_under delay bs =
    let r = (read_call first_bytes delay bs (zeros 16) (zeros 10) []).result in
    record { answer = answer_number r.answer; applied = r.applied; place = r.place; number = answer_number r.ended }

-- under document 01's delay
abbrev ending : List ℕ → Ending
ending bs = ending_under promotion_delay bs

-- a whole record and a cut one, read into tables that have any content
abbrev stopped : ReadIn
stopped = read_call first_bytes promotion_delay (put 1 ++ take 101 (put 2)) (9 ∷ zeros 16) (9 ∷ zeros 10) (9 ∷ [])

-- that the reading is refused: for damage, and for its delay
abbrev turned_down : Ending
turned_down = record { answer = 21; applied = 0; place = 0; number = 0 }

abbrev set-wrong : Ending
set-wrong = record { answer = 23; applied = 0; place = 0; number = 0 }

-- how the scan of bytes ends
abbrev scanned : List ℕ → Ending
scanned bs = let r = scan first_bytes bs in record { answer = answer_number r.answer; applied = r.records; place = r.place; number = answer_number r.ended }

-- a whole record read under a delay that is out of range
abbrev unset : ReadIn
unset = read_call first_bytes 0 (put 1) (9 ∷ zeros 16) (9 ∷ zeros 10) (9 ∷ [])

-- a whole record and a damaged one, read into tables that have any content
abbrev unread : ReadIn
unread = read_call first_bytes promotion_delay (put 1 ++ spoiled (put 2)) (9 ∷ zeros 16) (9 ∷ zeros 10) (9 ∷ [])

pub record Endings : Type 0 where
  -- no byte, and records up to the end; one that does nothing is applied and counted
  empty_journal : ending [] ≡ record { answer = 0; applied = 0; place = 0; number = 0 }
  to_the_end : ending (put 1 ++ take_out 1 ++ idle) ≡ record { answer = 0; applied = 3; place = 246; number = 0 }
  -- a record that is cut ends the reading, one whose stated length runs past the end among them; what comes after isn't read
  cut : ending (put 1 ++ take 101 (put 2)) ≡ record { answer = 0; applied = 1; place = 102; number = 16 }
  cut_to_one : ending (put 1 ++ take 1 (put 2)) ≡ record { answer = 0; applied = 1; place = 102; number = 16 }
  past_the_end : ending (put 1 ++ reaching) ≡ record { answer = 0; applied = 1; place = 102; number = 16 }
  behind_a_cut : ending (put 1 ++ reaching ++ spoiled (put 2)) ≡ record { answer = 0; applied = 1; place = 102; number = 16 }
  -- a damaged record refuses the reading, wherever it stands before the end or the first cut
  mismatch : ending (put 1 ++ spoiled (put 2) ++ put 3) ≡ turned_down
  flipped_byte : ending (put 1 ++ flipped (put 2)) ≡ turned_down
  first_of_all : ending (spoiled (put 1)) ≡ turned_down
  far_length : ending (put 1 ++ far) ≡ turned_down
  misfits : ending (put 1 ++ misfit ++ take 1 (put 2)) ≡ turned_down
  leftovers : ending (put 1 ++ running-on ++ put 2) ≡ turned_down
  before_a_cut : ending (put 1 ++ spoiled (put 2) ++ take 50 (put 3)) ≡ turned_down
  -- also behind a record whose delta would be refused; with none damaged, that delta ends the reading
  behind_present : ending (put 1 ++ put 1 ++ spoiled (put 2)) ≡ turned_down
  behind_full : ending (put 1 ++ put 2 ++ put 3 ++ spoiled (put 4)) ≡ turned_down
  present_and_cut : ending (put 1 ++ put 1 ++ take 50 (put 2)) ≡ record { answer = 0; applied = 1; place = 102; number = 12 }
  -- the scan tells which record it is, and what it is refused with
  scan_mismatch : scanned (put 1 ++ put 1 ++ spoiled (put 2) ++ put 3) ≡ record { answer = 0; applied = 2; place = 204; number = 18 }
  scan_far : scanned (put 1 ++ far) ≡ record { answer = 0; applied = 1; place = 102; number = 17 }
  scan_misfit : scanned misfit ≡ record { answer = 0; applied = 0; place = 0; number = 19 }
  scan_leftovers : scanned (put 1 ++ running-on ++ put 2) ≡ record { answer = 0; applied = 1; place = 102; number = 22 }
  scan-cut : scanned (put 1 ++ reaching ++ spoiled (put 2)) ≡ record { answer = 0; applied = 1; place = 102; number = 16 }
  scan-end : scanned (put 1 ++ put 1) ≡ record { answer = 0; applied = 2; place = 204; number = 0 }
  -- the first record whose delta is refused
  present : ending (put 1 ++ put 1 ++ put 2) ≡ record { answer = 0; applied = 1; place = 102; number = 12 }
  full : ending (put 1 ++ put 2 ++ put 3 ++ take_out 1) ≡ record { answer = 0; applied = 2; place = 204; number = 13 }
  room_again : ending (put 1 ++ put 2 ++ take_out 1 ++ put 3) ≡ record { answer = 0; applied = 4; place = 394; number = 0 }
  -- what was applied stays, each entry waits, and the tables may have any content
  stays : stopped.result.nursery ≡ record_of promotion_delay (insert (entry 1) empty)
  stays_entries : stopped.entries ≡ entries_table 17 (insert (entry 1) empty)
  stays_waiting : stopped.waiting ≡ waiting_table 11 (insert (entry 1) empty)
  stays_cells : stopped.cells ≡ 0 ∷ []
  -- beside a refusal the record is of zeros, and the tables are as they were
  untouched : unread.result.nursery ≡ record_of 0 empty
  untouched_entries : unread.entries ≡ 9 ∷ zeros 16
  untouched_waiting : unread.waiting ≡ 9 ∷ zeros 10
  untouched_cells : unread.cells ≡ 9 ∷ []
  unset_whole : unset.result.nursery ≡ record_of 0 empty
  unset_entries : unset.entries ≡ 9 ∷ zeros 16
  unset_waiting : unset.waiting ≡ 9 ∷ zeros 10
  unset_cells : unset.cells ≡ 9 ∷ []
  -- 23 comes before 21, and before the journal's end; the delay is from 1 to 10,000 rounds
  set_before_damage : ending_under 0 (spoiled (put 1)) ≡ set-wrong
  set_over_damage : ending_under 10001 (put 1 ++ far) ≡ set-wrong
  set_zero : ending_under 0 [] ≡ set-wrong
  set_over : ending_under 10001 [] ≡ set-wrong
  set_least : ending_under 1 (put 1) ≡ record { answer = 0; applied = 1; place = 102; number = 0 }
  set_most : ending_under 10000 (put 1) ≡ record { answer = 0; applied = 1; place = 102; number = 0 }
  set-kept : (read_call first_bytes 7 (put 1) (zeros 8) (zeros 5) []).result.nursery ≡ record_of 7 (insert (entry 1) empty)

-- in a mode: a bad key is 23 before a byte is looked at, beside a bad delay too; without a key its bytes aren't looked at
abbrev in_mode : Mode → ℕ → List ℕ → ReadIn
in_mode m delay bs = read_under m delay bs (9 ∷ zeros 16) (9 ∷ zeros 10) (9 ∷ [])

pub record KeyEndings : Type 0 where
  short_key : in_mode (mode_of true (zeros 31)) promotion_delay [] ≡ not_read BadSetting (9 ∷ zeros 16) (9 ∷ zeros 10) (9 ∷ [])
  before_damage : in_mode (mode_of true []) promotion_delay far ≡ not_read BadSetting (9 ∷ zeros 16) (9 ∷ zeros 10) (9 ∷ [])
  beside_delay : in_mode (mode_of true (zeros 33)) 0 far ≡ not_read BadSetting (9 ∷ zeros 16) (9 ∷ zeros 10) (9 ∷ [])
  right_key : answer_number (in_mode (mode_of true (zeros 32)) promotion_delay far).result.answer ≡ 21
  right_key_delay : answer_number (in_mode (mode_of true (zeros 32)) 0 far).result.answer ≡ 23
  not_looked_at : answer_number (in_mode (mode_of false (zeros 33)) promotion_delay []).result.answer ≡ 0
  scan_short_key : scan_under (mode_of true (zeros 31)) far ≡ record { answer = Refused BadSetting; records = 0; place = 0; ended = Taken }
  scan_right_key : scan_under (mode_of true (zeros 32)) far ≡ record { answer = Taken; records = 0; place = 0; ended = Refused FarLength }
  scan_not_looked_at : scan_under (mode_of false []) [] ≡ record { answer = Taken; records = 0; place = 0; ended = Taken }

pub key-endings : KeyEndings
unfolding evaluation
key-endings =
    record {
      short_key = refl;
      before_damage = refl;
      beside_delay = refl;
      right_key = refl;
      right_key_delay = refl;
      not_looked_at = refl;
      scan_short_key = refl;
      scan_right_key = refl;
      scan_not_looked_at = refl;
    }

pub endings : Endings
unfolding evaluation
endings =
    record {
      empty_journal = refl;
      to_the_end = refl;
      cut = refl;
      cut_to_one = refl;
      past_the_end = refl;
      behind_a_cut = refl;
      mismatch = refl;
      flipped_byte = refl;
      first_of_all = refl;
      far_length = refl;
      misfits = refl;
      leftovers = refl;
      before_a_cut = refl;
      behind_present = refl;
      behind_full = refl;
      present_and_cut = refl;
      scan_mismatch = refl;
      scan_far = refl;
      scan_misfit = refl;
      scan_leftovers = refl;
      scan-cut = refl;
      scan-end = refl;
      present = refl;
      full = refl;
      room_again = refl;
      stays = refl;
      stays_entries = refl;
      stays_waiting = refl;
      stays_cells = refl;
      untouched = refl;
      untouched_entries = refl;
      untouched_waiting = refl;
      untouched_cells = refl;
      unset_whole = refl;
      unset_entries = refl;
      unset_waiting = refl;
      unset_cells = refl;
      set_before_damage = refl;
      set_over_damage = refl;
      set_zero = refl;
      set_over = refl;
      set_least = refl;
      set_most = refl;
      set-kept = refl;
    }
