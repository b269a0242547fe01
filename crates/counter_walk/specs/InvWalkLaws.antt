-- What holds of a walk over a batch of records and of the table before each record, phase by phase, and how far the walk is from its end.
-- Assumes nothing.
use Rattle.std.specs.Prelude.{◌≡◌, Bool, true, false, ◌||◌, List, [], ℕ, zero, suc, ◌+◌, ◌-◌, ◌*◌, ◌^◌, ◌≤◌, ◌<◌, length, drop, get_or}
use Rattle.std.proofs.Common.{ap, arith}
use Rattle.base.specs.Logic.{pick, elem, repeated}
use Rattle.base.specs.Answers.{Taken}
use Rattle.rows.specs.Table.{rows_of}
use Rattle.counters.specs.declared.Counters.{Counters}
use Rattle.counters.specs.declared.CounterTransition.{CounterTransition}
use Rattle.counters.specs.Counts.{Entry}
use Rattle.counters.specs.Maintenance.{maintained}
use Rattle.counters.specs.Batch.{kept, named, births, deaths, counts_after, state_after}
use Rattle.counters.specs.Layout.{count_row, holds, record_of, table_of, state_of, words_of}
use Rattle.counters.proofs.WordLaws.{words-transitions}
use Rattle.counters.specs.Held.{Judged}
use Rattle.counters.specs.Calls.{effect, batch_call}
use Rattle.counter_steps.specs.Steps.{pass_of}
use Rattle.counter_steps.specs.KeptLaws.{first_fits}
use Rattle.counter_walk.specs.Held.{Phase, Look, Again, Free, Store, End, Sums, Walk}
use Rattle.counter_walk.specs.SomeLaws.{Seen}
use Rattle.counter_walk.specs.SumsWalkLaws.{sums_of, no_sums}
use Rattle.counter_walk.specs.Walk.{finished}

-- what the types of the arguments bound: lengths, and eight removal counts of 64 bits, which a batch with no removal leaves as they are
pub record Limits (c : Counters) (t₀ : List ℕ) (bs : List CounterTransition) : Type 0 where
  pub records : length bs < 2 ^ 61
  pub words : length t₀ < 2 ^ 62
  pub alive : c.maintenance.alive_removed_since_shrink < 2 ^ 64
  pub sets : length c.maintenance.small_removed_since_shrink ≡ 8
  pub small : (i : ℕ) → i < length c.maintenance.small_removed_since_shrink → get_or c.maintenance.small_removed_since_shrink i 0 < 2 ^ 64

-- the counts that the table has at entry
abbrev pub entries : Counters → List ℕ → List Entry
entries c t₀ = rows_of count_row c.stored t₀

-- the sums over the whole batch
abbrev pub all_sums : Counters → List ℕ → List CounterTransition → Sums
all_sums c t₀ bs = sums_of c.next_idx.0 (entries c t₀) bs (no_sums c)

-- i records are in the sums a, the others lead from it to the whole batch's, and nothing is written yet; n, c' and m are the walk's length,
-- state record and number of rows
pub record Summed (c : Counters) (t₀ : List ℕ) (bs : List CounterTransition) (i n : ℕ) (c' : Counters) (m : ℕ) (a : Sums) : Type 0 where
  pub len : n ≡ length bs
  pub same : c' ≡ c
  pub rows : m ≡ c.stored
  pub holding : holds c t₀ ≡ true
  pub within : i ≤ length bs
  pub tallies : (a.births ≤ i) × (a.deaths ≤ i) × (a.rises ≤ i) × (a.falls ≤ i)
  pub settled : maintained [] a.maintenance ≡ a.maintenance
  pub leads : sums_of c.next_idx.0 (entries c t₀) (drop i bs) a ≡ all_sums c t₀ bs

abbrev pub SummedTo : Counters → List ℕ → List CounterTransition → ℕ → Walk → Type 0
SummedTo c t₀ bs i s = Summed c t₀ bs i s.len s.counters s.rows s.sums

-- before a look at record `at`
pub record Looking (c : Counters) (t₀ : List ℕ) (bs : List CounterTransition) (s : Walk) (t : List ℕ) : Type 0 where
  pub phase : s.phase ≡ Look
  pub here : s.at < length bs
  pub table : t ≡ t₀
  pub summed : SummedTo c t₀ bs s.at s
  pub twice : (s.repeated || repeated (named (kept (drop s.at bs)))) ≡ repeated (named (kept bs))

-- record `at`, which is later than `of`, is to be asked for the index of `of`
pub record Asking (c : Counters) (t₀ : List ℕ) (bs : List CounterTransition) (s : Walk) (t : List ℕ) : Type 0 where
  pub phase : s.phase ≡ Again
  pub here : s.at < length bs
  pub table : t ≡ t₀
  pub summed : SummedTo c t₀ bs (s.«of» + 1) s
  pub twice : ((s.repeated || elem s.seek (named (kept (drop s.at bs)))) || repeated (named (kept (drop (s.«of» + 1) bs)))) ≡ repeated (named (kept bs))

-- the batch passed every test
pub record Passed (c : Counters) (t₀ : List ℕ) (bs : List CounterTransition) : Type 0 where
  pub judged : Judged c t₀ (words_of bs)
  pub gives : effect (record { answer = Taken; counters = record_of c.settings (state_after (kept bs) (state_of c t₀)) }) (table_of (length t₀) (state_after (kept bs) (state_of c t₀))) ≡ batch_call c t₀ (words_of bs)

-- the record after the batch, but for its number of rows
abbrev pub almost_after : Counters → List CounterTransition → Counters
almost_after c bs =
    record {
      next_idx = record { 0 = c.next_idx.0 };
      live_cells = c.live_cells + births (kept bs) - deaths (kept bs);
      stored = c.stored;
      maintenance = maintained (kept bs) c.maintenance;
      settings = c.settings;
    }

-- the counts that a pass leads to
abbrev pub goal : Bool → Counters → List ℕ → List CounterTransition → List Entry
goal false c t₀ bs = counts_after (pass_of false bs) (entries c t₀)
goal true c t₀ bs = counts_after (kept bs) (entries c t₀)

-- record `at` is to be applied: in the second pass (many), or in the first
pub record Applying (many : Bool) (c : Counters) (t₀ : List ℕ) (bs : List CounterTransition) (s : Walk) (t : List ℕ) : Type 0 where
  pub phase : s.phase ≡ pick many Store Free
  pub here : s.at < length bs
  pub len : s.len ≡ length bs
  pub passed : Passed c t₀ bs
  pub answer : s.answer ≡ Taken
  pub after : s.counters ≡ almost_after c bs
  pub seen : Seen many bs (length t₀) (goal many c t₀ bs) s.at s.rows t

-- nothing is left to do
pub record Over (c : Counters) (t₀ : List ℕ) (bs : List CounterTransition) (s : Walk) (t : List ℕ) : Type 0 where
  pub phase : s.phase ≡ End
  pub at_end : s.at ≡ length bs
  pub long : length t ≡ length t₀
  pub gives : effect (finished s) t ≡ batch_call c t₀ (words_of bs)

-- where the walk is
pub data AtPhase (c : Counters) (t₀ : List ℕ) (bs : List CounterTransition) (s : Walk) (t : List ℕ) : Type 0 where
  looking : Looking c t₀ bs s t → AtPhase c t₀ bs s t
  asking : Asking c t₀ bs s t → AtPhase c t₀ bs s t
  applying : (many : Bool) → Applying many c t₀ bs s t → AtPhase c t₀ bs s t
  over : Over c t₀ bs s t → AtPhase c t₀ bs s t

-- what holds before each record, of the walk and the table: c and t₀ are at entry
pub record Inv (c : Counters) (t₀ : List ℕ) (bs : List CounterTransition) (s : Walk) (t : List ℕ) : Type 0 where
  pub limits : Limits c t₀ bs
  pub at_phase : AtPhase c t₀ bs s t

-- ---- what a pass leads to fits the table
pub goal-fits : (many : Bool) (c : Counters) (t₀ : List ℕ) (bs : List CounterTransition) → Judged c t₀ (words_of bs) → length (goal many c t₀ bs) * 2 ≤ length t₀
goal-fits false c t₀ bs j = rw (words-transitions bs) at (first_fits c t₀ (words_of bs) j)
goal-fits true c t₀ bs j = rw (words-transitions bs) at j.fits

-- how far the walk is from its end: `pairs` is for looks at n records, each with a question to all the later ones
unfoldable pub pairs : ℕ → ℕ
pairs zero = 0
pairs (suc n) = 2 + n + pairs n

unfoldable pub left_in : Phase → ℕ → Walk → ℕ
left_in Look n s = 2 * n + 2 + pairs (n - s.at)
left_in Again n s = 2 * n + 3 + (n - s.at) + pairs (n - (s.«of» + 1))
left_in Free n s = 2 * n + 1 - s.at
left_in Store n s = n - s.at
left_in End n s = 0

-- the measure of the walk over bs
abbrev pub left : List CounterTransition → Walk → ℕ
left bs s = left_in s.phase (length bs) s

-- ---- the walk goes on: it is in a phase, and nearer to its end than k
pub record Lands (c : Counters) (t₀ : List ℕ) (bs : List CounterTransition) (k : ℕ) (s : Walk) (t : List ℕ) : Type 0 where
  pub at_phase : AtPhase c t₀ bs s t
  pub nearer : left bs s < k

-- record i and its questions are behind
pub pairs_next : (n i : ℕ) → i < n → pairs (n - i) ≡ 2 + (n - (i + 1)) + pairs (n - (i + 1))
unfolding pairs
pairs_next n i h = ap pairs (let e : n - i ≡ suc (n - (i + 1)) = omega arith in e)
