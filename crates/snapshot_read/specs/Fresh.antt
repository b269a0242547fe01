-- What there is to lay under settings, the counters that are read, and their record.
-- Assumes nothing.
use Rattle.std.specs.Prelude.{ℕ, List, Result, Err}
use Rattle.base.specs.Logic.{pick, zeros}
use Rattle.base.specs.declared.Refusal.{Refusal}
use Rattle.base.specs.declared.Refusal.TheVariants.{BadSetting}
use Rattle.counters.specs.declared.ShrinkSettings.{ShrinkSettings}
use Rattle.counters.specs.declared.Counters.{Counters}
use Rattle.counters.specs.Counts.{State, fresh_maintenance}
use Rattle.counters.specs.Maintenance.{in_range}
use Rattle.snapshot_judge.specs.declared.decide.Plan.{Plan}
use Rattle.snapshot_judge.specs.Decide.{verdict_of, counts_of}

-- next index, live total, rows, and the threshold at the settings' base with no removals
abbrev pub fresh_record : ShrinkSettings → ℕ → ℕ → ℕ → Counters
fresh_record g next live stored =
    record {
      next_idx = record { 0 = next };
      live_cells = live;
      stored = stored;
      maintenance = record { alive_removed_since_shrink = 0; small_removed_since_shrink = zeros 8; min_alive_removed_before_shrink = g.base };
      settings = g;
    }

-- the counters of a plan, with a starting threshold and a live total
abbrev pub planned_state : ℕ → List ℕ → Plan → ℕ → State
planned_state base s p live = record { next = p.next; live = live; counts = counts_of s p.end p.large; maintenance = fresh_maintenance base }

-- what there is to lay under some settings: 23 where one is outside its range, before a byte is read
abbrev pub plan_under : ShrinkSettings → ℕ → List ℕ → Result Plan Refusal
plan_under g room s = pick (in_range g) (verdict_of room s) (Err BadSetting)
