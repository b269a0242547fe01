-- Each refusal of an allocation, a reading and a batch, exactly under document 01's condition.
-- Assumes nothing.
use Rattle.std.specs.Prelude.{◌≡◌, refl, ◌↔◌, ◌⊎◌, Bool, true, false, not, ℕ, ◌+◌, ◌-◌, ◌≤◌, ◌<◌, max, ltb, eqb}
use Rattle.std.proofs.Common.{sym, inl, inr, ltb-true, lt-ltb, eqb-true, ne_eqb}
use Rattle.std.proofs.Math.Path.{ap}
use Rattle.std.proofs.Math.Bool.{false≢true}
use mathlib.Core.List.{List, [], ◌∷◌}
use native.Mathlib.Omega.{arith}
use Rattle.std.proofs.Math.ListN.{length}
use Rattle.std.proofs.lemmas.Bool.{eqb-false, not-true}
use Rattle.base.specs.Logic.{pick, any, elem, repeated, max64}
use Rattle.base.specs.Answers.{refused, taken, number_of}
use Rattle.base.specs.ListLaws.{leb-le, ltb-lt, eqb-eq, fails-not, or-either, Some, Two, some-weaker, any_some, elem-some, repeated-two}
use Rattle.base.specs.AnswerLaws.{exactly}
use Rattle.base.specs.declared.Refusal.{Refusal}
use Rattle.base.specs.declared.Refusal.TheVariants.{Spent, Unallocated, Repeated, OffTotal, FalseOld, TableFull, FewCells}
use Rattle.counters.specs.declared.CounterTransition.{CounterTransition}
use Rattle.counters.specs.Counts.{Entry, State, stored_at, count_at, allocate, get}
use Rattle.counters.specs.Batch.{named, unallocated, kept, births, deaths, false_old, off_total, counts_after, state_after, apply_kept, apply_batch}
use Rattle.counters.specs.Layout.{ordered}
use Rattle.counters.proofs.BoundLaws.{bound-other, bound-few, bound-taken, bound-numbers}
use Rattle.counters.proofs.BatchLaws.{ordered-counts_after, count-named, count-unnamed}
use Rattle.base.specs.OutcomeLaws.{flat-three, flat-four, flat-five, flat-six, other-number, refused-taken, taken_refused, taken-same, ends-here, ends-later, never_ends, Refuses, refuses-none, refuses-step}

-- ---- allocation
module _ (next : ℕ) where
  -- 1, spent: allocation with next index 2^64 − 1
  pub allocate-spent : (allocate next ≡ refused Spent) ↔ (next ≡ max64)
  unfolding allocate
  allocate-spent = ends-here (eqb-eq next max64) taken_refused

  pub allocate-taken : (n : ℕ) → (allocate next ≡ taken n) ↔ ((¬ (next ≡ max64)) × (n ≡ next + 1))
  unfolding allocate
  allocate-taken n = ends-later (eqb-eq next max64) refused-taken (taken-same (next + 1) n)

  -- it is refused with no other number
  pub allocate-numbers : Refuses (1 ∷ []) (allocate next)
  unfolding allocate
  allocate-numbers = refuses-step Spent [] (eqb-eq next max64) (refuses-none [] (next + 1))

-- ---- reading a count
module _ (s : State) (i : ℕ) where
  -- 2, unallocated: an index at or above the next one is read
  pub get-unallocated : (get s i ≡ refused Unallocated) ↔ (s.next ≤ i)
  unfolding get
  get-unallocated = ends-here (leb-le s.next i) taken_refused

  pub get-taken : (n : ℕ) → (get s i ≡ taken n) ↔ ((i < s.next) × (n ≡ count_at i s.counts))
  unfolding get
  get-taken n = (λ e. (omega (arith, (later.0 e).0), (later.0 e).1), λ p. later.1 (omega (arith, p.0), p.1))
    where
      later : (get s i ≡ taken n) ↔ ((¬ (s.next ≤ i)) × (n ≡ count_at i s.counts))
      later = ends-later (leb-le s.next i) refused-taken (taken-same (count_at i s.counts) n)

  -- it is refused with no other number
  pub get-numbers : Refuses (2 ∷ []) (get s i)
  unfolding get
  get-numbers = refuses-step Unallocated [] (leb-le s.next i) (refuses-none [] (count_at i s.counts))

-- ---- a batch
-- the old count isn't the stored one; with none stored, it isn't 0 or 1
abbrev pub OldIsFalse : ℕ → ℕ → Type 0
OldIsFalse stored old = (stored ≡ 0 → 1 < old) × (¬ (stored ≡ 0) → ¬ (old ≡ stored))

pub false_old-false : (es : List Entry) (t : CounterTransition) → (false_old es t ≡ true) ↔ OldIsFalse (stored_at t.idx.0 es) t.old_raw
unfolding false_old
false_old-false es t = go (stored_at t.idx.0 es) (eqb (stored_at t.idx.0 es) 0) refl
  where
    go : (n : ℕ) (b : Bool) → eqb n 0 ≡ b → (pick b (ltb 1 t.old_raw) (not (eqb t.old_raw n)) ≡ true) ↔ OldIsFalse n t.old_raw
    go n true q =
        let z = eqb-true n 0 q in
        ((λ e. ((λ none. ltb-true 1 t.old_raw e), λ some. absurd (some z))), λ p. lt-ltb 1 t.old_raw (p.0 z))
    go n false q =
        let z = eqb-false n 0 q in
        ((λ e. ((λ none. absurd (z none)), λ some. eqb-false t.old_raw n (not-true (eqb t.old_raw n) e))), λ p. rw (ne_eqb t.old_raw n (p.1 z)))

-- two kept transitions name one index
abbrev pub NamesTwice : List CounterTransition → Type 0
NamesTwice ts = Two (λ t u. t.idx.0 ≡ u.idx.0) (kept ts)

module _ (s : State) (ts : List CounterTransition) where
  -- a kept transition changes an index at or above the next one
  abbrev pub ChangesUnallocated : Type 0
  ChangesUnallocated = Some (λ t. s.next ≤ t.idx.0) (kept ts)

  -- a kept transition's old count is false
  abbrev pub HasFalseOld : Type 0
  HasFalseOld = Some (λ t. OldIsFalse (stored_at t.idx.0 s.counts) t.old_raw) (kept ts)

  -- live + births exceeds 2^64 − 1, or deaths exceed live + births
  abbrev pub LeavesTotal : Type 0
  LeavesTotal = (max64 < s.live + births (kept ts)) ⊎ (s.live + births (kept ts) < deaths (kept ts))

  -- stored counts after the call exceed the table
  abbrev pub ExceedsTable : ℕ → Type 0
  ExceedsTable room = room < length (counts_after (kept ts) s.counts)

  -- stored counts after the call exceed the live total after it
  abbrev pub ExceedsCells : Type 0
  ExceedsCells = s.live + births (kept ts) - deaths (kept ts) < length (counts_after (kept ts) s.counts)

module _ (room : ℕ) (s : State) (ts : List CounterTransition) where
  unallocated-test : (any (unallocated s.next) (kept ts) ≡ true) ↔ ChangesUnallocated s ts
  unallocated-test = any_some (unallocated s.next) (λ t. leb-le s.next t.idx.0) (kept ts)

  repeated-test : (repeated (named (kept ts)) ≡ true) ↔ NamesTwice ts
  repeated-test = repeated-two (λ t. t.idx.0) (kept ts)

  false_old-test : (any (false_old s.counts) (kept ts) ≡ true) ↔ HasFalseOld s ts
  false_old-test = any_some (false_old s.counts) (λ t. false_old-false s.counts t) (kept ts)

  off_total-test : (off_total s.live (kept ts) ≡ true) ↔ LeavesTotal s ts
  unfolding off_total
  off_total-test =
      or-either (ltb max64 (s.live + births (kept ts))) (ltb (s.live + births (kept ts)) (deaths (kept ts)))
      (ltb-lt max64 (s.live + births (kept ts))) (ltb-lt (s.live + births (kept ts)) (deaths (kept ts)))

  full-test : (ltb room (length (counts_after (kept ts) s.counts)) ≡ true) ↔ ExceedsTable s ts room
  full-test = ltb-lt room (length (counts_after (kept ts) s.counts))

  -- by the totals that are left
  few-left : ((state_after (kept ts) s).live < length (state_after (kept ts) s).counts) ↔ ExceedsCells s ts
  unfolding state_after
  few-left = (λ h. h, λ h. h)

  -- the tests of the kept transitions, before 25
  kept-numbers : Refuses (2 ∷ 3 ∷ 5 ∷ 4 ∷ 6 ∷ []) (apply_kept room s (kept ts))
  unfolding apply_kept
  kept-numbers =
      refuses-step Unallocated (3 ∷ 5 ∷ 4 ∷ 6 ∷ []) unallocated-test
      (refuses-step Repeated (5 ∷ 4 ∷ 6 ∷ []) repeated-test
      (refuses-step FalseOld (4 ∷ 6 ∷ []) false_old-test
      (refuses-step OffTotal (6 ∷ []) off_total-test
      (refuses-step TableFull [] full-test (refuses-none [] (state_after (kept ts) s))))))

  kept-taken : (s' : State) → (apply_kept room s (kept ts) ≡ taken s')
      ↔ ((¬ ChangesUnallocated s ts) × (¬ NamesTwice ts) × (¬ HasFalseOld s ts) × (¬ LeavesTotal s ts) × (¬ ExceedsTable s ts room) × (s' ≡ state_after (kept ts) s))
  unfolding apply_kept
  kept-taken s' =
      flat-six
      (ends-later unallocated-test refused-taken
      (ends-later repeated-test refused-taken
      (ends-later false_old-test refused-taken
      (ends-later off_total-test refused-taken
      (ends-later full-test refused-taken (taken-same (state_after (kept ts) s) s'))))))

  -- the numbers but 25 are theirs
  before : {q : Refusal} → (number_of FewCells ≡ number_of q → ⊥) → (apply_batch room s ts ≡ refused q) ↔ (apply_kept room s (kept ts) ≡ refused q)
  unfolding apply_batch
  before other = bound-other (apply_kept room s (kept ts)) other

  -- 2, unallocated: an index at or above the next one is changed
  pub batch-unallocated : (apply_batch room s ts ≡ refused Unallocated) ↔ ChangesUnallocated s ts
  unfolding apply_kept
  batch-unallocated =
      exactly (before (omega arith))
      (ends-here unallocated-test
      (never_ends repeated-test (other-number (omega arith)) (never_ends false_old-test (other-number (omega arith)) (never_ends off_total-test (other-number (omega arith)) (never_ends full-test (other-number (omega arith)) taken_refused)))))

  -- 3, repeated: two kept transitions of a batch name one index
  pub batch-repeated : (apply_batch room s ts ≡ refused Repeated) ↔ ((¬ ChangesUnallocated s ts) × NamesTwice ts)
  unfolding apply_kept
  batch-repeated =
      exactly (before (omega arith))
      (ends-later unallocated-test (other-number (omega arith))
      (ends-here repeated-test (never_ends false_old-test (other-number (omega arith)) (never_ends off_total-test (other-number (omega arith)) (never_ends full-test (other-number (omega arith)) taken_refused)))))

  -- 5, false old: an old count isn't the stored one; with none stored, it isn't 0 or 1
  pub batch-false-old : (apply_batch room s ts ≡ refused FalseOld) ↔ ((¬ ChangesUnallocated s ts) × (¬ NamesTwice ts) × HasFalseOld s ts)
  unfolding apply_kept
  batch-false-old =
      exactly (before (omega arith))
      (flat-three
      (ends-later unallocated-test (other-number (omega arith))
      (ends-later repeated-test (other-number (omega arith))
      (ends-here false_old-test (never_ends off_total-test (other-number (omega arith)) (never_ends full-test (other-number (omega arith)) taken_refused))))))

  -- 4, off total: live + births exceeds 2^64 − 1, or deaths exceed live + births
  pub batch-off-total : (apply_batch room s ts ≡ refused OffTotal)
      ↔ ((¬ ChangesUnallocated s ts) × (¬ NamesTwice ts) × (¬ HasFalseOld s ts) × LeavesTotal s ts)
  unfolding apply_kept
  batch-off-total =
      exactly (before (omega arith))
      (flat-four
      (ends-later unallocated-test (other-number (omega arith))
      (ends-later repeated-test (other-number (omega arith))
      (ends-later false_old-test (other-number (omega arith))
      (ends-here off_total-test (never_ends full-test (other-number (omega arith)) taken_refused))))))

  -- 6, table full: stored counts after the call exceed the table
  pub batch-table-full : (apply_batch room s ts ≡ refused TableFull)
      ↔ ((¬ ChangesUnallocated s ts) × (¬ NamesTwice ts) × (¬ HasFalseOld s ts) × (¬ LeavesTotal s ts) × ExceedsTable s ts room)
  unfolding apply_kept
  batch-table-full =
      exactly (before (omega arith))
      (flat-five
      (ends-later unallocated-test (other-number (omega arith))
      (ends-later repeated-test (other-number (omega arith))
      (ends-later false_old-test (other-number (omega arith))
      (ends-later off_total-test (other-number (omega arith))
      (ends-here full-test taken_refused))))))

  -- 25, few cells: stored counts after the call exceed the live total after it
  pub batch-few : (apply_batch room s ts ≡ refused FewCells)
      ↔ ((¬ ChangesUnallocated s ts) × (¬ NamesTwice ts) × (¬ HasFalseOld s ts) × (¬ LeavesTotal s ts) × (¬ ExceedsTable s ts room) × ExceedsCells s ts)
  unfolding apply_batch any
  batch-few =
      exactly (bound-few (apply_kept room s (kept ts)) (λ e. false≢true (kept-numbers FewCells e))) (
        (λ (s', e, few). let (a, b, c, d, f, same) = (kept-taken s').0 e in (a, b, c, d, f, few-left.0 (rw same at few))),
        λ (a, b, c, d, f, few). (state_after (kept ts) s, (kept-taken (state_after (kept ts) s)).1 (a, b, c, d, f, refl), few-left.1 few),
      )

  -- taken: none of the six
  pub batch-taken : (s' : State) → (apply_batch room s ts ≡ taken s')
      ↔ ((¬ ChangesUnallocated s ts) × (¬ NamesTwice ts) × (¬ HasFalseOld s ts) × (¬ LeavesTotal s ts) × (¬ ExceedsTable s ts room) × (¬ ExceedsCells s ts) × (s' ≡ state_after (kept ts) s))
  unfolding apply_batch
  batch-taken s' =
      exactly (bound-taken (apply_kept room s (kept ts)) s') (
        (λ (e, many). let (a, b, c, d, f, same) = (kept-taken s').0 e in (a, b, c, d, f, enough same many, same)),
        λ (a, b, c, d, f, many, same). ((kept-taken s').1 (a, b, c, d, f, same), rw same (within many)),
      )
    where
      enough : s' ≡ state_after (kept ts) s → length s'.counts ≤ s'.live → ¬ ExceedsCells s ts
      enough same many few =
          let h = few-left.1 few in
          let k : length (state_after (kept ts) s).counts ≤ (state_after (kept ts) s).live = rw same at many in
          omega arith

      within : ¬ ExceedsCells s ts → length (state_after (kept ts) s).counts ≤ (state_after (kept ts) s).live
      within many = let h : ¬ ((state_after (kept ts) s).live < length (state_after (kept ts) s).counts) = λ l. many (few-left.0 l) in omega arith

  -- it is refused with no other number
  pub batch-numbers : Refuses (2 ∷ 3 ∷ 5 ∷ 4 ∷ 6 ∷ 25 ∷ []) (apply_batch room s ts)
  unfolding apply_batch
  batch-numbers = bound-numbers (apply_kept room s (kept ts)) (2 ∷ 3 ∷ 5 ∷ 4 ∷ 6 ∷ []) kept-numbers

-- ---- a batch that is taken leaves a state
module _ (room : ℕ) (s : State) (ts : List CounterTransition) (s' : State) (ok : apply_batch room s ts ≡ taken s') where
  -- what the kept transitions leave
  pub taken-state : s' ≡ state_after (kept ts) s
  taken-state = ((batch-taken room s ts s').0 ok).6

  pub taken_next : s'.next ≡ s.next
  unfolding state_after
  taken_next = ap (λ (r : State). r.next) taken-state

  counts-left : s'.counts ≡ counts_after (kept ts) s.counts
  unfolding state_after
  counts-left = ap (λ (r : State). r.counts) taken-state

  once : repeated (named (kept ts)) ≡ false
  once = (fails-not (repeated (named (kept ts))) (repeated-test room s ts)).1 ((batch-taken room s ts s').0 ok).1

  -- the stored counts stay ascending, at least 2, below the next index
  pub taken-ordered : ordered s.next s.counts ≡ true → ordered s'.next s'.counts ≡ true
  taken-ordered o =
      let allocated = (fails-not (any (unallocated s.next) (kept ts)) (unallocated-test room s ts)).1 ((batch-taken room s ts s').0 ok).0 in
      rw (taken_next, counts-left) (ordered-counts_after s.next (kept ts) s.counts o allocated)

  -- and there is room for them
  pub taken-fits : length s'.counts ≤ room
  taken-fits = rw counts-left (omega (arith, ((batch-taken room s ts s').0 ok).4))

  -- no more of them than cells
  pub bounded-after : length s'.counts ≤ s'.live
  unfolding state_after
  bounded-after =
      let left : s'.live ≡ s.live + births (kept ts) - deaths (kept ts) = ap (λ (r : State). r.live) taken-state in
      rw (counts-left, left) (omega (arith, ((batch-taken room s ts s').0 ok).5))

  -- the live total grows by the births, then falls by the deaths, and is a u64
  pub taken_live : (s'.live + deaths (kept ts) ≡ s.live + births (kept ts)) × (s'.live ≤ max64)
  unfolding state_after
  taken_live =
      let total = ((batch-taken room s ts s').0 ok).3 in
      let below : ¬ (max64 < s.live + births (kept ts)) = λ h. total (inl h) in
      let above : ¬ (s.live + births (kept ts) < deaths (kept ts)) = λ h. total (inr h) in
      let left : s'.live ≡ s.live + births (kept ts) - deaths (kept ts) = ap (λ (r : State). r.live) taken-state in
      omega arith

  -- each kept transition sets the count at its index to max(new, 1), and the others are as before
  pub taken-named : (i n : ℕ) → Some (λ t. (t.idx.0 ≡ i) × (t.new_raw ≡ n)) (kept ts) → count_at i s'.counts ≡ max n 1
  taken-named i n names = rw counts-left (count-named i (kept ts) s.counts n names once)

  pub taken-unnamed : (i : ℕ) → ¬ Some (λ t. t.idx.0 ≡ i) (kept ts) → count_at i s'.counts ≡ count_at i s.counts
  taken-unnamed i unnamed = rw counts-left (count-unnamed i (kept ts) s.counts ((fails-not (elem i (named (kept ts))) (elem-some (λ t. t.idx.0) i (kept ts))).1 (λ some. unnamed (some-weaker (λ t e. sym e) some))))
