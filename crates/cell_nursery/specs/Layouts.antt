-- The words of one small state: what docs/LAYOUT.md says of the nursery's record and tables, fixed by evaluation.
-- Assumes nothing.
use Rattle.std.specs.Prelude.{◌≡◌, refl, ℕ, ◌+◌, ◌*◌, ◌^◌, true, List, [], ◌∷◌, ◌++◌}
use Rattle.base.specs.Logic.{fold, zeros}
use Rattle.base.specs.Answers.{Taken}
use Rattle.cell_nursery.specs.Entries.{Entry, State, empty, insert}
use Rattle.cell_nursery.specs.Items.{item_bytes}
use Rattle.cell_nursery.specs.Drain.{promotion_delay, promoted, drain_bytes, listing_bytes}
use Rattle.cell_nursery.specs.Layout.{record_of, entries_table, waiting_table, cells_table, state_of, holds}
use Rattle.cell_nursery.specs.Calls.{new_call}
use Rattle.cell_nursery.specs.Open.{evaluation}

-- the hash of four words, the highest first
abbrev hash_of4 : ℕ → ℕ → ℕ → ℕ → ℕ
hash_of4 a b c d = ((a * 2 ^ 64 + b) * 2 ^ 64 + c) * 2 ^ 64 + d

-- three entries in the order in which they arrive; by hash the last of them comes first
abbrev first : Entry
first = record { hash = hash_of4 1 2 3 4; idx = 50; born = 6; cell = 70 ∷ 71 ∷ [] }

abbrev second : Entry
second = record { hash = hash_of4 1 2 3 5; idx = 51; born = 5; cell = [] }

abbrev third : Entry
third = record { hash = 9; idx = 52; born = 6; cell = 72 ∷ [] }

abbrev sample : State
sample = fold insert (first ∷ second ∷ third ∷ []) empty

-- tables with room for three entries and some words and bytes more
abbrev entries : List ℕ
entries = entries_table 27 sample

abbrev waiting : List ℕ
waiting = waiting_table 17 sample

abbrev cells : List ℕ
cells = cells_table 5 sample

-- the 32 bytes of the first hash
abbrev first_hash : List ℕ
first_hash = zeros 7 ++ 1 ∷ zeros 7 ++ 2 ∷ zeros 7 ++ 3 ∷ zeros 7 ++ 4 ∷ []

pub record LayoutLines : Type 0 where
  -- entries by ascending hash: four hash words, index, born round, the cell's place and length; then zeros
  entry_words : entries
      ≡ 0 ∷ 0 ∷ 0 ∷ 9 ∷ 52 ∷ 6 ∷ 0 ∷ 1
      ∷ 1 ∷ 2 ∷ 3 ∷ 4 ∷ 50 ∷ 6 ∷ 1 ∷ 2
      ∷ 1 ∷ 2 ∷ 3 ∷ 5 ∷ 51 ∷ 5 ∷ 3 ∷ 0
      ∷ 0 ∷ 0 ∷ 0 ∷ []
  -- waiting rows by born round, then arrival: born round, four hash words; then zeros
  waiting-words : waiting
      ≡ 5 ∷ 1 ∷ 2 ∷ 3 ∷ 5
      ∷ 6 ∷ 1 ∷ 2 ∷ 3 ∷ 4
      ∷ 6 ∷ 0 ∷ 0 ∷ 0 ∷ 9
      ∷ 0 ∷ 0 ∷ []
  -- the cells end to end in the entries' order; then zeros
  cell-bytes : cells ≡ 72 ∷ 70 ∷ 71 ∷ 0 ∷ 0 ∷ []
  -- the state record: rows in use of the two tables, cell bytes in use, the delay
  fields : record_of promotion_delay sample ≡ record { entries = 3; waiting = 3; cell_bytes = 3; delay = promotion_delay }
  -- the record and the tables hold the state, and spell it
  held : holds (record_of promotion_delay sample) entries waiting cells ≡ true
  spelled : state_of (record_of promotion_delay sample) entries waiting cells ≡ sample
  -- a nursery is made in tables of any content
  made : new_call promotion_delay (5 ∷ 6 ∷ []) (7 ∷ []) (8 ∷ 9 ∷ [])
      ≡ record {
        result = record { answer = Taken; nursery = record { entries = 0; waiting = 0; cell_bytes = 0; delay = promotion_delay } };
        entries = 0 ∷ 0 ∷ [];
        waiting = 0 ∷ [];
        cells = 0 ∷ 0 ∷ [];
      }
  -- an item, and an entry of the listing: hash, index, born round, cell length, cell. A removed hash
  insert_item : item_bytes (record { inserts = first ∷ []; removes = [] })
      ≡ first_hash ++ 50 ∷ zeros 7 ++ 6 ∷ zeros 3 ++ 2 ∷ 0 ∷ 70 ∷ 71 ∷ []
  remove_item : item_bytes (record { inserts = []; removes = hash_of4 1 2 3 4 ∷ [] }) ≡ first_hash
  listing : listing_bytes (first ∷ []) ≡ first_hash ++ 50 ∷ zeros 7 ++ 6 ∷ zeros 3 ++ 2 ∷ 0 ∷ 70 ∷ 71 ∷ []
  -- draining goes by born round, then arrival
  drained_105 : promoted promotion_delay 105 sample ≡ second ∷ []
  drained_106 : promoted promotion_delay 106 sample ≡ second ∷ first ∷ third ∷ []
  -- what draining writes: hash, index, cell length, cell
  drained : drain_bytes promotion_delay 106 (insert first empty) ≡ first_hash ++ 50 ∷ zeros 7 ++ 2 ∷ 0 ∷ 70 ∷ 71 ∷ []

pub layout-lines : LayoutLines
unfolding evaluation
layout-lines =
    record {
      entry_words = refl;
      waiting-words = refl;
      cell-bytes = refl;
      fields = refl;
      held = refl;
      spelled = refl;
      made = refl;
      insert_item = refl;
      remove_item = refl;
      listing = refl;
      drained_105 = refl;
      drained_106 = refl;
      drained = refl;
    }
