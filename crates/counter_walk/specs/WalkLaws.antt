-- A walk over a batch of records: it keeps its invariant from one record to the next, comes nearer to its end with each, and at its end has
-- done what the batch's words ask for.
-- Assumes nothing.
use Rattle.std.specs.Prelude.{◌≡◌, Bool, ℕ, suc, ◌+◌, ◌-◌, ◌*◌, ◌/◌, ◌^◌, ◌≤◌, ◌<◌, get_or}
use Rattle.std.proofs.Math.Path.{refl, subst}
use Rattle.std.proofs.Common.{sym, ap, arith}
use Rattle.std.proofs.Math.Bool.{true, false}
use mathlib.Core.List.{List}
use Rattle.std.proofs.Math.ListN.{length}
use Rattle.base.specs.Logic.{pick}
use Rattle.base.specs.declared.Refusal.TheVariants.{Broken}
use Rattle.counters.specs.declared.Counters.{Counters}
use Rattle.counters.specs.declared.CounterTransition.{CounterTransition}
use Rattle.counters.specs.Layout.{holds, words_of}
use Rattle.counters.specs.Calls.{effect, batch_call}
use Rattle.counters.specs.Steps.{transition}
use Rattle.counters.proofs.LayoutLaws.{held}
use Rattle.counters.proofs.JudgeLaws.{judge-broken}
use Rattle.counters.proofs.RowLaws.{in_order}
use Rattle.counter_walk.specs.Held.{Phase, Look, Again, Free, Store, Walk}
use Rattle.counter_walk.specs.SomeLaws.{one-has-room}
use Rattle.counter_walk.specs.SumsWalkLaws.{in-range}
use Rattle.counter_walk.specs.Walk.{ended, on_to, started, begun, looked, asked_again, turned, turned_table, finished, ApplyReady, Ready}
use Rattle.counter_walk.specs.InvWalkLaws.{Limits, SummedTo, Looking, Asking, goal, Applying, AtPhase, looking, asking, applying, over, Inv, goal-fits, pairs, left_in, left, Lands}
use Rattle.counter_walk.specs.LookWalkLaws.{on-lands, look-lands, ask-lands}
use Rattle.counter_walk.specs.ApplyWalkLaws.{apply-lands}
pub use Rattle.counter_walk.specs.InvWalkLaws.{Inv, Limits, left}

-- ---- the walk before its first record, before each, and after the last
module _ (c : Counters) (t₀ : List ℕ) (bs : List CounterTransition) where
  begun-summed : Limits c t₀ bs → holds c t₀ ≡ true → SummedTo c t₀ bs 0 (started c (length bs))
  begun-summed ok h =
      record {
        len = refl;
        same = refl;
        rows = refl;
        holding = h;
        within = omega arith;
        tallies = omega arith;
        settled = in-range c.maintenance ok.alive ok.sets ok.small;
        leads = refl;
      }

  begun-lands : Limits c t₀ bs → AtPhase c t₀ bs (begun c t₀ (length bs)) t₀
  unfolding begun
  begun-lands ok = go (holds c t₀) refl
    where
      go : (b : Bool) → holds c t₀ ≡ b → AtPhase c t₀ bs (pick b (on_to (length t₀ / 2) (started c (length bs)) 0) (ended (started c (length bs)) Broken)) t₀
      go true e = (on-lands c t₀ bs (started c (length bs)) 0 (suc (2 * length bs + 2 + pairs (length bs - 0))) (begun-summed ok e) refl (omega arith)).at_phase
      go false e = over (record { phase = refl; at_end = refl; long = refl; gives = judge-broken c t₀ (words_of bs) e })

  pub inv-begin : Limits c t₀ bs → Inv c t₀ bs (begun c t₀ (length bs)) t₀
  inv-begin ok = record { limits = ok; at_phase = begun-lands ok }

module _ (c : Counters) (t₀ : List ℕ) (bs : List CounterTransition) (s : Walk) (t : List ℕ) (inv : Inv c t₀ bs s t) where
  -- the table is as long as at entry, and the place within the batch
  pub inv-len : (length t ≡ length t₀) × (s.at ≤ length bs)
  inv-len =
      elim inv.at_phase [
        | looking l ↦ (ap length l.table, omega (arith, l.here))
        | asking l ↦ (ap length l.table, omega (arith, l.here))
        | applying many a ↦ (a.seen.long, omega (arith, a.here))
        | over o ↦ (o.long, omega (arith, o.at_end))
      ]

  -- no record is left
  pub inv-end : length bs ≤ s.at → effect (finished s) t ≡ batch_call c t₀ (words_of bs)
  inv-end h =
      elim inv.at_phase [
        | looking l ↦ absurd (omega (arith, l.here))
        | asking l ↦ absurd (omega (arith, l.here))
        | applying many a ↦ absurd (omega (arith, a.here))
        | over o ↦ o.gives
      ]

  module _ (h : s.at < length bs) where
    abbrev this : CounterTransition
    this = get_or bs s.at (transition 0 0 0)

    apply-ready : (many : Bool) → Applying many c t₀ bs s t → ApplyReady many s t this
    apply-ready many a =
        record {
          order = a.seen.order;
          fits = one-has-room many bs (length t₀) (goal many c t₀ bs) (goal-fits many c t₀ bs a.passed.judged) s.at s.rows t a.seen h;
          place = omega (arith, inv.limits.records);
        }

    -- what the record asks of the walk
    abbrev AtReady : Phase → Type 0
    AtReady p = Ready p s t this

    ready-in : (many : Bool) → Applying many c t₀ bs s t → Ready (pick many Store Free) s t this
    ready-in true a = apply-ready true a
    ready-in false a = apply-ready false a

    stored-fits : holds c t₀ ≡ true → c.stored < 2 ^ 61
    stored-fits e = omega (arith, inv.limits.words, (held c t₀ e).laid.fits)

    look-sums : Looking c t₀ bs s t
        → (s.sums.births < 2 ^ 61) × (s.sums.deaths < 2 ^ 61) × (s.sums.rises < 2 ^ 61) × (s.sums.falls < 2 ^ 61) × (c.stored < 2 ^ 62) × (s.at < 2 ^ 62)
    look-sums l = omega (arith, l.summed.tallies, stored-fits l.summed.holding, inv.limits.records)

    ask-sums : Asking c t₀ bs s t → (s.sums.rises < 2 ^ 62) × (s.sums.falls < 2 ^ 62) × (c.stored < 2 ^ 62) × (s.at < 2 ^ 62) × (s.«of» < 2 ^ 62)
    ask-sums l = omega (arith, l.summed.tallies, l.summed.within, stored-fits l.summed.holding, inv.limits.records)

    pub inv-ready : Ready s.phase s t this
    inv-ready =
        elim inv.at_phase [
          | looking l ↦ subst AtReady (sym l.phase) (record {
            order = rw (l.table, l.summed.same) (in_order c t₀ l.summed.holding);
            sums = rw l.summed.same (look-sums l);
          })
          | asking l ↦ subst AtReady (sym l.phase) (record { sums = rw l.summed.same (ask-sums l) })
          | applying many a ↦ subst AtReady (sym a.phase) (ready-in many a)
          | over o ↦ absurd (omega (arith, o.at_end))
        ]

    lands-in : (many : Bool) → Applying many c t₀ bs s t
        → Lands c t₀ bs (left_in (pick many Store Free) (length bs) s) (turned (pick many Store Free) t this s) (turned_table (pick many Store Free) t this s)
    unfolding turned turned_table
    lands-in true a = apply-lands c t₀ bs s t h true a
    lands-in false a = apply-lands c t₀ bs s t h false a

    -- and where it leads
    abbrev AtLands : Phase → Type 0
    AtLands p = Lands c t₀ bs (left_in p (length bs) s) (turned p t this s) (turned_table p t this s)

    looking-lands : Looking c t₀ bs s t → AtLands Look
    unfolding turned turned_table left_in
    looking-lands l =
        subst (λ (t' : List ℕ). Lands c t₀ bs (left_in Look (length bs) s) (looked t' this s) t') (sym l.table)
        (look-lands c t₀ bs s h (subst (λ (t' : List ℕ). Looking c t₀ bs s t') l.table l))

    asking-lands : Asking c t₀ bs s t → AtLands Again
    unfolding turned turned_table left_in
    asking-lands l =
        subst (λ (t' : List ℕ). Lands c t₀ bs (left_in Again (length bs) s) (asked_again t' this s) t') (sym l.table)
        (ask-lands c t₀ bs s h (subst (λ (t' : List ℕ). Asking c t₀ bs s t') l.table l))

    lands : AtLands s.phase
    lands =
        elim inv.at_phase [
          | looking l ↦ subst AtLands (sym l.phase) (looking-lands l)
          | asking l ↦ subst AtLands (sym l.phase) (asking-lands l)
          | applying many a ↦ subst AtLands (sym a.phase) (lands-in many a)
          | over o ↦ absurd (omega (arith, o.at_end))
        ]

    pub inv-turn : Inv c t₀ bs (turned s.phase t this s) (turned_table s.phase t this s)
    inv-turn = record { limits = inv.limits; at_phase = lands.at_phase }

    pub inv-measure : left bs (turned s.phase t this s) < left bs s
    inv-measure = lands.nearer
