-- A walk over a batch of records: what it holds between two records, and what each record does to it.
-- Assumes nothing.
use Rattle.std.specs.Prelude.{ℕ, ◌+◌, ◌-◌, ◌*◌, ◌/◌, ◌^◌, ◌<◌, ◌≤◌, Bool, true, false, ◌&&◌, ◌||◌, List, [], ◌∷◌, length, ltb, eqb}
use Rattle.base.specs.Logic.{pick, max64}
use Rattle.base.specs.declared.Refusal.{Refusal}
use Rattle.base.specs.declared.Refusal.TheVariants.{Unallocated, Repeated, FalseOld, OffTotal, TableFull, Broken, FewCells}
use Rattle.base.specs.Answers.{Taken, Refused}
use Rattle.rows.specs.Table as rows
use Rattle.rows.specs.Table.{rows_of}
use Rattle.counters.specs.declared.Counters.{Counters}
use Rattle.counters.specs.Returned.{Applied}
use Rattle.counters.specs.declared.CounterTransition.{CounterTransition}
use Rattle.counter_steps.specs.declared.Kind.TheVariants.{Birth, Death, Rise, Fall}
use Rattle.counters.specs.Counts.{Entry}
use Rattle.counters.specs.Layout as layout
use Rattle.counters.specs.Layout.{count_row}
use Rattle.counters.specs.Batch.{changes, kept, unallocated, false_old}
use Rattle.counters.specs.Maintenance.{maintained}
use Rattle.counters.specs.Held.{InOrder}
use Rattle.counter_steps.specs.Steps.{of_kind, apply_one}
use Rattle.counter_walk.specs.Held.{Phase, Look, Again, Free, Store, End, Sums, Walk}

-- the sums with one more transition
unfoldable pub sums_with : ℕ → List Entry → CounterTransition → Sums → Sums
sums_with next es x a =
    record {
      unallocated = a.unallocated || (changes x && unallocated next x);
      false_old = a.false_old || (changes x && false_old es x);
      births = a.births + pick (changes x && of_kind Birth x) 1 0;
      deaths = a.deaths + pick (changes x && of_kind Death x) 1 0;
      rises = a.rises + pick (changes x && of_kind Rise x) 1 0;
      falls = a.falls + pick (changes x && of_kind Fall x) 1 0;
      maintenance = maintained (kept (x ∷ [])) a.maintenance;
    }

-- a walk in a phase, before record i
abbrev pub moved : Walk → Phase → ℕ → Walk
moved s p i =
    record {
      phase = p;
      at = i;
      len = s.len;
      «of» = s.«of»;
      seek = s.seek;
      repeated = s.repeated;
      sums = s.sums;
      rows = s.rows;
      answer = s.answer;
      counters = s.counters;
    }

-- the walk ends with a refusal
abbrev pub ended : Walk → Refusal → Walk
ended s r =
    record {
      phase = End;
      at = s.len;
      len = s.len;
      «of» = s.«of»;
      seek = s.seek;
      repeated = s.repeated;
      sums = s.sums;
      rows = s.rows;
      answer = Refused r;
      counters = s.counters;
    }

-- with other rows
abbrev pub with_rows : Walk → ℕ → Walk
with_rows s n =
    record {
      phase = s.phase;
      at = s.at;
      len = s.len;
      «of» = s.«of»;
      seek = s.seek;
      repeated = s.repeated;
      sums = s.sums;
      rows = n;
      answer = s.answer;
      counters = s.counters;
    }

-- the first pass that applies records, where there is one
abbrev pub first_phase : ℕ → Phase
first_phase n = pick (eqb n 0) End Free

-- every test is passed: the record after the batch, but for its number of rows
abbrev pub accepted : Walk → Walk
accepted s =
    record {
      phase = first_phase s.len;
      at = 0;
      len = s.len;
      «of» = s.«of»;
      seek = s.seek;
      repeated = s.repeated;
      sums = s.sums;
      rows = s.rows;
      answer = Taken;
      counters =
          record {
            next_idx = record { 0 = s.counters.next_idx.0 };
            live_cells = s.counters.live_cells + s.sums.births - s.sums.deaths;
            stored = s.counters.stored;
            maintenance = s.sums.maintenance;
            settings = s.counters.settings;
          };
    }

-- the tests in their order, by the sums over the whole batch; `room` is how many rows the table takes
unfoldable pub judged : ℕ → Walk → Walk
judged room s =
    pick s.sums.unallocated (ended s Unallocated)
    (pick s.repeated (ended s Repeated)
    (pick s.sums.false_old (ended s FalseOld)
    (pick (ltb max64 (s.counters.live_cells + s.sums.births) || ltb (s.counters.live_cells + s.sums.births) s.sums.deaths) (ended s OffTotal)
    (pick (ltb (room + s.sums.falls) (s.counters.stored + s.sums.rises)) (ended s TableFull)
    (pick (ltb (s.counters.live_cells + s.sums.births - s.sums.deaths) (s.counters.stored + s.sums.rises - s.sums.falls)) (ended s FewCells)
    (accepted s))))))

-- on to record i, or to the tests where there is none
unfoldable pub on_to : ℕ → Walk → ℕ → Walk
on_to room s i = pick (ltb i s.len) (moved s Look i) (judged room s)

-- a walk over a batch of n records
abbrev pub started : Counters → ℕ → Walk
started c n =
    record {
      phase = Look;
      at = 0;
      len = n;
      «of» = 0;
      seek = 0;
      repeated = false;
      sums = record { unallocated = false; false_old = false; births = 0; deaths = 0; rises = 0; falls = 0; maintenance = c.maintenance };
      rows = c.stored;
      answer = Taken;
      counters = c;
    }

-- the table is checked before the first record
unfoldable pub begun : Counters → List ℕ → ℕ → Walk
begun c t n = pick (layout.holds c t) (on_to (length t / 2) (started c n) 0) (ended (started c n) Broken)

-- a record is added to the sums; where it is kept, the later ones are asked for its index
unfoldable pub looked : List ℕ → CounterTransition → Walk → Walk
looked t x s =
    let s' : Walk = record {
      phase = Again;
      at = s.at + 1;
      len = s.len;
      «of» = s.at;
      seek = x.idx.0;
      repeated = s.repeated;
      sums = sums_with s.counters.next_idx.0 (rows_of count_row s.counters.stored t) x s.sums;
      rows = s.rows;
      answer = s.answer;
      counters = s.counters;
    } in
    pick (changes x && ltb (s.at + 1) s.len) s' (on_to (length t / 2) s' (s.at + 1))

-- a later record is asked for the index
unfoldable pub asked_again : List ℕ → CounterTransition → Walk → Walk
asked_again t x s =
    let s' : Walk = record {
      phase = Again;
      at = s.at + 1;
      len = s.len;
      «of» = s.«of»;
      seek = s.seek;
      repeated = s.repeated || (changes x && eqb s.seek x.idx.0);
      sums = s.sums;
      rows = s.rows;
      answer = s.answer;
      counters = s.counters;
    } in
    pick (ltb (s.at + 1) s.len) s' (on_to (length t / 2) s' (s.«of» + 1))

-- a record is applied
unfoldable pub applied : Bool → List ℕ → CounterTransition → Walk → Walk
applied many t x s =
    let s' : Walk = with_rows s (length (apply_one many x (rows_of count_row s.rows t))) in
    pick (ltb (s.at + 1) s.len) (moved s' s.phase (s.at + 1)) (pick many (moved s' End (s.at + 1)) (moved s' Store 0))

-- the table after it
unfoldable pub applied_table : Bool → List ℕ → CounterTransition → Walk → List ℕ
applied_table many t x s = rows.table_of count_row (length t) (apply_one many x (rows_of count_row s.rows t))

-- a record, by the phase
unfoldable pub turned : Phase → List ℕ → CounterTransition → Walk → Walk
turned Look t x s = looked t x s
turned Again t x s = asked_again t x s
turned Free t x s = applied false t x s
turned Store t x s = applied true t x s
turned End t x s = s

unfoldable pub turned_table : Phase → List ℕ → CounterTransition → Walk → List ℕ
turned_table Look t x s = t
turned_table Again t x s = t
turned_table Free t x s = applied_table false t x s
turned_table Store t x s = applied_table true t x s
turned_table End t x s = t

-- what is returned when the walk is over
abbrev pub finished : Walk → Applied
finished s =
    record {
      answer = s.answer;
      counters =
          record {
            next_idx = record { 0 = s.counters.next_idx.0 };
            live_cells = s.counters.live_cells;
            stored = s.rows;
            maintenance = s.counters.maintenance;
            settings = s.counters.settings;
          };
    }

-- ---- what a record asks of the walk, by the phase
pub record LookReady (s : Walk) (t : List ℕ) : Type 0 where
  pub order : InOrder s.counters.stored t
  pub sums : (s.sums.births < 2 ^ 61) × (s.sums.deaths < 2 ^ 61) × (s.sums.rises < 2 ^ 61) × (s.sums.falls < 2 ^ 61) × (s.counters.stored < 2 ^ 62) × (s.at < 2 ^ 62)

pub record AgainReady (s : Walk) : Type 0 where
  pub sums : (s.sums.rises < 2 ^ 62) × (s.sums.falls < 2 ^ 62) × (s.counters.stored < 2 ^ 62) × (s.at < 2 ^ 62) × (s.«of» < 2 ^ 62)

pub record ApplyReady (many : Bool) (s : Walk) (t : List ℕ) (x : CounterTransition) : Type 0 where
  pub order : InOrder s.rows t
  pub fits : length (apply_one many x (rows_of count_row s.rows t)) * 2 ≤ length t
  pub place : s.at < 2 ^ 62

abbrev pub Ready : Phase → Walk → List ℕ → CounterTransition → Type 0
Ready Look s t x = LookReady s t
Ready Again s t x = AgainReady s
Ready Free s t x = ApplyReady false s t x
Ready Store s t x = ApplyReady true s t x
Ready End s t x = Unit {0}
