-- What each step of a walk comes to, one law for each way out of its function.
-- Assumes nothing.
use Rattle.std.specs.Prelude.{◌≡◌, Bool, true, false, ◌&&◌, ◌||◌, ◌⊎◌, List, [], ◌∷◌, ℕ, ◌+◌, ◌-◌, ◌/◌, ◌^◌, ◌≤◌, ◌<◌, ltb, eqb, length}
use Rattle.std.proofs.Math.Path.{refl}
use Rattle.std.proofs.Common.{sym, subst, inl, inr, arith}
use borrow.Author.Tests.{lt-ltb, le-ltb, eq-eqb, ne_eqb}
use Rattle.base.specs.Logic.{pick, max64}
use Rattle.base.specs.declared.Refusal.TheVariants.{Unallocated, Repeated, FalseOld, OffTotal, TableFull, Broken, FewCells}
use Rattle.rows.specs.Table as rows
use Rattle.rows.specs.Table.{rows_of}
use Rattle.counters.specs.declared.Counters.{Counters}
use Rattle.counters.specs.declared.CounterMaintenance.{CounterMaintenance}
use Rattle.counters.specs.declared.CounterTransition.{CounterTransition}
use Rattle.counter_steps.specs.declared.Kind.{Kind}
use Rattle.counter_steps.specs.declared.Kind.TheVariants.{Birth, Death, Rise, Fall}
use Rattle.counters.specs.Counts.{Entry}
use Rattle.counters.specs.Layout.{count_row, holds}
use Rattle.counters.specs.Batch.{changes, kept, unallocated, false_old}
use Rattle.counters.specs.Maintenance.{maintained}
use Rattle.counters.proofs.RowLaws.{in_order}
use Rattle.counters.specs.Steps.{transition, transitions}
use Rattle.counter_steps.specs.Steps.{of_kind, apply_one}
use Rattle.counter_walk.specs.Held.{Phase, Look, Again, Free, Store, End, Sums, Walk}
use Rattle.counter_walk.specs.Walk.{sums_with, moved, ended, with_rows, accepted, judged, on_to, started, begun, looked, asked_again, applied, applied_table, turned, turned_table, LookReady, AgainReady, ApplyReady, Ready}

neither : {A : Type 0} (b : Bool) (x y : A) → pick (b && false) x y ≡ y
neither true x y = refl
neither false x y = refl

-- ---- the sums with one more transition
-- a tally grows by 1 at most
at_most_one : (b : Bool) (n : ℕ) → n ≡ pick b 1 0 → n ≤ 1
at_most_one true n e = rw e (omega arith)
at_most_one false n e = rw e (omega arith)

pub tally-grows : (k : Kind) (x : CounterTransition) (n : ℕ) → n ≡ pick (changes x && of_kind k x) 1 0 → n ≤ 1
tally-grows k x n e = at_most_one (changes x && of_kind k x) n e

-- three words are one transition
pub one-transition : (idx old new : ℕ) → transitions (idx ∷ old ∷ new ∷ []) ≡ transition idx old new ∷ []
unfolding rows_of
one-transition idx old new = refl

-- the sums, part by part
module _ (next : ℕ) (es : List Entry) (idx old new : ℕ) (a : Sums) where
  abbrev one : CounterTransition
  one = transition idx old new

  pub sums-are : (u f : Bool) (births deaths rises falls : ℕ) (m : CounterMaintenance) → u ≡ (a.unallocated || (changes one && unallocated next one)) → f ≡ (a.false_old || (changes one && false_old es one))
      → births ≡ pick (changes one && of_kind Birth one) 1 0 → deaths ≡ pick (changes one && of_kind Death one) 1 0 → rises ≡ pick (changes one && of_kind Rise one) 1 0 → falls ≡ pick (changes one && of_kind Fall one) 1 0
      → m ≡ maintained (kept (transitions (idx ∷ old ∷ new ∷ []))) a.maintenance
      → ◌≡◌ {A = Sums} (record { unallocated = u; false_old = f; births = a.births + births; deaths = a.deaths + deaths; rises = a.rises + rises; falls = a.falls + falls; maintenance = m }) (sums_with next es one a)
  unfolding sums_with
  sums-are u f births deaths rises falls m eu ef eb ed er el em = rw (eu, ef, eb, ed, er, el, em, one-transition idx old new)

  pub few-more : a.rises < 2 ^ 61 → a.falls < 2 ^ 61 → (b : Sums) → b ≡ sums_with next es one a → (b.rises < 2 ^ 62) × (b.falls < 2 ^ 62)
  unfolding sums_with
  few-more r f b e =
      rw e
      (omega (arith, tally-grows Rise one (pick (changes one && of_kind Rise one) 1 0) refl), omega (arith, tally-grows Fall one (pick (changes one && of_kind Fall one) 1 0) refl))

-- ---- the tests
module _ (room : ℕ) (s : Walk) where
  pub unallocated-ends : s.sums.unallocated ≡ true → ended s Unallocated ≡ judged room s
  unfolding judged
  unallocated-ends e = rw e

  module _ (allocated : s.sums.unallocated ≡ false) where
    pub repeated-ends : s.repeated ≡ true → ended s Repeated ≡ judged room s
    unfolding judged
    repeated-ends e = rw (allocated, e)

    module _ (once : s.repeated ≡ false) where
      pub false-old-ends : s.sums.false_old ≡ true → ended s FalseOld ≡ judged room s
      unfolding judged
      false-old-ends e = rw (allocated, once, e)

      module _ (true-old : s.sums.false_old ≡ false) where
        abbrev off : Bool
        off = ltb max64 (s.counters.live_cells + s.sums.births) || ltb (s.counters.live_cells + s.sums.births) s.sums.deaths

        pub off-total-ends : off ≡ true → ended s OffTotal ≡ judged room s
        unfolding judged
        off-total-ends e = rw (allocated, once, true-old, e)

        module _ (on_total : off ≡ false) where
          pub full-ends : room + s.sums.falls < s.counters.stored + s.sums.rises → ended s TableFull ≡ judged room s
          unfolding judged
          full-ends h = rw (allocated, once, true-old, on_total, lt-ltb (room + s.sums.falls) (s.counters.stored + s.sums.rises) h)

          module _ (room-left : s.counters.stored + s.sums.rises ≤ room + s.sums.falls) where
            abbrev few : Bool
            few = ltb (s.counters.live_cells + s.sums.births - s.sums.deaths) (s.counters.stored + s.sums.rises - s.sums.falls)

            not_full : ltb (room + s.sums.falls) (s.counters.stored + s.sums.rises) ≡ false
            not_full = le-ltb (room + s.sums.falls) (s.counters.stored + s.sums.rises) room-left

            pub few-ends : few ≡ true → ended s FewCells ≡ judged room s
            unfolding judged
            few-ends e = rw (allocated, once, true-old, on_total, not_full, e)

            pub passes : few ≡ false → accepted s ≡ judged room s
            unfolding judged
            passes e = rw (allocated, once, true-old, on_total, not_full, e)

  -- ---- on to a record, or to the tests
  module _ (i : ℕ) where
    pub goes_on : i < s.len → moved s Look i ≡ on_to room s i
    unfolding on_to
    goes_on h = rw (lt-ltb i s.len h)

    pub goes-to-tests : s.len ≤ i → judged room s ≡ on_to room s i
    unfolding on_to
    goes-to-tests h = rw (le-ltb i s.len h)

-- ---- the beginning
module _ (c : Counters) (t : List ℕ) (n : ℕ) where
  pub begins-broken : holds c t ≡ false → ended (started c n) Broken ≡ begun c t n
  unfolding begun
  begins-broken e = rw e

  pub begins : holds c t ≡ true → on_to (length t / 2) (started c n) 0 ≡ begun c t n
  unfolding begun
  begins e = rw e

  pub few-rows : holds c t ≡ true → length t < 2 ^ 62 → c.stored < 2 ^ 62
  few-rows e h = omega (arith, (in_order c t e).laid.fits)

-- ---- a record is looked at
module _ (t : List ℕ) (s : Walk) (idx old new : ℕ) where
  abbrev x : CounterTransition
  x = transition idx old new

  -- the walk once the record is in the sums
  abbrev pub seen_with : Sums → Walk
  seen_with a =
      record {
        phase = Again;
        at = s.at + 1;
        len = s.len;
        «of» = s.at;
        seek = idx;
        repeated = s.repeated;
        sums = a;
        rows = s.rows;
        answer = s.answer;
        counters = s.counters;
      }

  module _ (a : Sums) (e : a ≡ sums_with s.counters.next_idx.0 (rows_of count_row s.counters.stored t) x s.sums) where
    pub look-asks : (old ≡ new → ⊥) → s.at + 1 < s.len → seen_with a ≡ looked t x s
    unfolding looked
    look-asks h l = rw (e, ne_eqb old new h, lt-ltb (s.at + 1) s.len l)

    pub look-goes-on : (old ≡ new) ⊎ (s.len ≤ s.at + 1) → on_to (length t / 2) (seen_with a) (s.at + 1) ≡ looked t x s
    unfolding looked
    look-goes-on (inl h) = rw (e, eq-eqb old new h)
    look-goes-on (inr h) = rw (e, le-ltb (s.at + 1) s.len h) (sym (neither (changes x) _ _))

  -- ---- a later record is asked for the index
  abbrev pub asked_with : Bool → Walk
  asked_with r =
      record {
        phase = Again;
        at = s.at + 1;
        len = s.len;
        «of» = s.«of»;
        seek = s.seek;
        repeated = r;
        sums = s.sums;
        rows = s.rows;
        answer = s.answer;
        counters = s.counters;
      }

  module _ (r : Bool) (e : r ≡ (s.repeated || (changes x && eqb s.seek idx))) where
    pub asks-on : s.at + 1 < s.len → asked_with r ≡ asked_again t x s
    unfolding asked_again
    asks-on h = rw (e, lt-ltb (s.at + 1) s.len h)

    pub asked-all : s.len ≤ s.at + 1 → on_to (length t / 2) (asked_with r) (s.«of» + 1) ≡ asked_again t x s
    unfolding asked_again
    asked-all h = rw (e, le-ltb (s.at + 1) s.len h)

  -- ---- a record is applied
  module _ (many : Bool) (n : ℕ) (e : n ≡ length (apply_one many x (rows_of count_row s.rows t))) where
    pub applies-on : s.at + 1 < s.len → moved (with_rows s n) s.phase (s.at + 1) ≡ applied many t x s
    unfolding applied
    applies-on h = rw (e, lt-ltb (s.at + 1) s.len h)

    pub applied-all : s.len ≤ s.at + 1 → many ≡ true → moved (with_rows s n) End (s.at + 1) ≡ applied many t x s
    unfolding applied
    applied-all h m = rw (e, le-ltb (s.at + 1) s.len h, m)

    pub applies-others : s.len ≤ s.at + 1 → many ≡ false → moved (with_rows s n) Store 0 ≡ applied many t x s
    unfolding applied
    applies-others h m = rw (e, le-ltb (s.at + 1) s.len h, m)

  pub applied-table : (many : Bool) → rows.table_of count_row (length t) (apply_one many x (rows_of count_row s.rows t)) ≡ applied_table many t x s
  unfolding applied_table
  applied-table many = refl

  -- ---- by the phase
  pub ready-look : s.phase ≡ Look → Ready s.phase s t x → LookReady s t
  ready-look e r = subst (λ (p : Phase). Ready p s t x) e r

  pub ready-again : s.phase ≡ Again → Ready s.phase s t x → AgainReady s
  ready-again e r = subst (λ (p : Phase). Ready p s t x) e r

  pub ready-free : s.phase ≡ Free → Ready s.phase s t x → ApplyReady false s t x
  ready-free e r = subst (λ (p : Phase). Ready p s t x) e r

  pub ready-store : s.phase ≡ Store → Ready s.phase s t x → ApplyReady true s t x
  ready-store e r = subst (λ (p : Phase). Ready p s t x) e r

  pub turn-looks : s.phase ≡ Look → (looked t x s ≡ turned s.phase t x s) × (t ≡ turned_table s.phase t x s)
  unfolding turned turned_table
  turn-looks e = rw e (refl, refl)

  pub turn-asks : s.phase ≡ Again → (asked_again t x s ≡ turned s.phase t x s) × (t ≡ turned_table s.phase t x s)
  unfolding turned turned_table
  turn-asks e = rw e (refl, refl)

  pub turn-frees : s.phase ≡ Free → (applied false t x s ≡ turned s.phase t x s) × (applied_table false t x s ≡ turned_table s.phase t x s)
  unfolding turned turned_table
  turn-frees e = rw e (refl, refl)

  pub turn-stores : s.phase ≡ Store → (applied true t x s ≡ turned s.phase t x s) × (applied_table true t x s ≡ turned_table s.phase t x s)
  unfolding turned turned_table
  turn-stores e = rw e (refl, refl)

  pub turn-ends : s.phase ≡ End → (s ≡ turned s.phase t x s) × (t ≡ turned_table s.phase t x s)
  unfolding turned turned_table
  turn-ends e = rw e (refl, refl)
