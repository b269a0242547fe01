-- The words of one small state: what docs/LAYOUT.md says of the counters' record and table, fixed by evaluation.
-- Assumes nothing.
use Rattle.std.specs.Prelude.{◌≡◌, refl, ℕ, true, List, [], ◌∷◌}
use Rattle.base.specs.Answers.{Taken}
use Rattle.counters.specs.declared.CounterMaintenance.{CounterMaintenance}
use Rattle.counters.specs.declared.ShrinkSettings.{ShrinkSettings}
use Rattle.counters.specs.Counts.{State}
use Rattle.counters.specs.Maintenance.{standard}
use Rattle.counters.specs.Layout.{record_of, table_of, state_of, holds}
use Rattle.counters.specs.Calls.{new_call, batch_call}
use Rattle.counters.specs.Open.{evaluation}

-- next index 9, four alive, count 2 at index 3 and count 300 at index 7
abbrev upkeep : CounterMaintenance
upkeep =
    record {
      alive_removed_since_shrink = 11;
      small_removed_since_shrink = 20 ∷ 21 ∷ 22 ∷ 23 ∷ 24 ∷ 25 ∷ 26 ∷ 27 ∷ [];
      min_alive_removed_before_shrink = 12;
    }

abbrev sample : State
sample = record { next = 9; live = 4; counts = record { idx = 3; count = 2 } ∷ record { idx = 7; count = 300 } ∷ []; maintenance = upkeep }

abbrev limits : ShrinkSettings
limits = record { base = 13; max = 14; good_save = 15 }

-- a table for three rows and an odd word
abbrev table : List ℕ
table = table_of 7 sample

pub record LayoutLines : Type 0 where
  -- rows of an index and a count, by ascending index, then zeros
  words : table ≡ 3 ∷ 2 ∷ 7 ∷ 300 ∷ 0 ∷ 0 ∷ 0 ∷ []
  -- the state record: next index, live total, rows in use, maintenance, settings
  fields : record_of limits sample ≡ record { next_idx = record { 0 = 9 }; live_cells = 4; stored = 2; maintenance = upkeep; settings = limits }
  -- the record and the table hold the state, and spell it
  held : holds (record_of limits sample) table ≡ true
  spelled : state_of (record_of limits sample) table ≡ sample
  -- a box is made in a table of any content
  made : new_call standard (record { 0 = 9 }) (5 ∷ 6 ∷ 7 ∷ [])
      ≡ record {
        result =
            record {
              answer = Taken;
              counters =
                  record {
                    next_idx = record { 0 = 9 };
                    live_cells = 0;
                    stored = 0;
                    maintenance =
                        record {
                          alive_removed_since_shrink = 0;
                          small_removed_since_shrink = 0 ∷ 0 ∷ 0 ∷ 0 ∷ 0 ∷ 0 ∷ 0 ∷ 0 ∷ [];
                          min_alive_removed_before_shrink = 131072;
                        };
                    settings = record { base = 131072; max = 2097152; good_save = 1048576 };
                  };
            };
        table = 0 ∷ 0 ∷ 0 ∷ [];
      }
  -- a batch's words are index, old and new: 4, 0 → 256 comes between the rows, and 3, 2 → 1 takes its row away
  batch : (batch_call (record_of limits sample) table (4 ∷ 0 ∷ 256 ∷ 3 ∷ 2 ∷ 1 ∷ [])).table ≡ 4 ∷ 256 ∷ 7 ∷ 300 ∷ 0 ∷ 0 ∷ 0 ∷ []
  batch_row : (batch_call (record_of limits sample) table (4 ∷ 0 ∷ 256 ∷ [])).table ≡ 3 ∷ 2 ∷ 4 ∷ 256 ∷ 7 ∷ 300 ∷ 0 ∷ []

pub layout-lines : LayoutLines
unfolding evaluation
layout-lines =
    record {
      words = refl;
      fields = refl;
      held = refl;
      spelled = refl;
      made = refl;
      batch = refl;
      batch_row = refl;
    }
