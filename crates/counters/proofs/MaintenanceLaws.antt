-- The sets that a count is in, the members of a set, and the rules of shrinking, as the code decides them.
-- Assumes nothing.
use Rattle.std.specs.Prelude.{◌≡◌, Bool, true, List, [], ◌∷◌, ℕ, suc, ◌+◌, ◌-◌, ◌*◌, ◌/◌, ◌%◌, ◌^◌, ◌≤◌, ◌<◌, eqb, leb, ltb, take, drop, get_or, set, replicate}
use Rattle.std.proofs.Common.{sym, ◌∙◌, lt_of_lt_of_le, add-one, arith, pow_mono, take-suc, take-suc-set, take_all}
use Rattle.std.proofs.Math.Bool.{false}
use Rattle.std.proofs.Math.Nat.{zero-div, div-eq_of_lt}
use Rattle.std.proofs.Math.Decide.{dec_le}
use Rattle.std.proofs.Math.ListN.{length}
use Rattle.std.proofs.lemmas.List.{length-map}
use Rattle.std.proofs.Math.Seq.{drop-length}
use borrow.Author.Tests.{le-leb, lt-leb, lt-ltb, le-ltb, eq-eqb, ne_eqb}
use Rattle.base.specs.Logic.{pick, keep}
use Rattle.base.specs.ListLaws.{length-keep}
use Rattle.base.specs.Answers.{Taken, Refused}
use Rattle.base.specs.declared.Refusal.TheVariants.{Broken}
use Rattle.rows.specs.Table.{rows_of}
use Rattle.rows.proofs.TableLaws.{length-rows_of}
use Rattle.counters.specs.declared.ShrinkSettings.{ShrinkSettings}
use Rattle.counters.specs.declared.Counters.{Counters}
use Rattle.counters.specs.declared.CounterMaintenance.{CounterMaintenance}
use Rattle.counters.specs.Counts.{Entry, small_code, in_set, members, large}
use Rattle.counters.specs.declared.CounterTransition.{CounterTransition}
use Rattle.counters.specs.Maintenance.{in_range, adjust_shrink_threshold, adjusted, set_minimum, should_shrink, sets_shrink, reset_where, decide, shrunk, grown, grown_sets, clears}
use Rattle.counters.specs.Layout.{count_row, with_maintenance, state_of, holds}
use Rattle.counters.specs.Calls.{on_state, decided, shrink_call}
use Rattle.counters.proofs.RowLaws.{from_row}
use Rattle.counters.specs.Steps.{row_at}
use Rattle.counters.proofs.EachLaws.{length-each, each_at}

-- ---- the sets that a count is in
module _ (k n : ℕ) where
  pub low_count : n < 2 → false ≡ in_set k n
  unfolding in_set small_code
  low_count h = rw (lt-leb 2 n h, zero-div (2 ^ k))

  pub large-count : 256 < n → false ≡ in_set k n
  unfolding in_set small_code
  large-count h = rw (le-leb 2 n (omega arith), lt-leb n 256 h, zero-div (2 ^ k))

  small_count : 2 ≤ n → n ≤ 256 → small_code n ≡ n - 1
  unfolding small_code
  small_count h g = rw (le-leb 2 n h, le-leb n 256 g)

  pub bit-set : 2 ≤ n → n ≤ 256 → eqb ((n - 1) / 2 ^ k % 2) 1 ≡ in_set k n
  unfolding in_set
  bit-set h g = rw (small_count h g)

  -- a code has eight bits
  code-byte : small_code n < 2 ^ 8
  unfolding small_code
  code-byte =
      elim (dec_le 2 n) [
        | yes h ↦ elim (dec_le n 256) [
          | yes g ↦ rw (le-leb 2 n h, le-leb n 256 g) (omega arith)
          | no g ↦ rw (le-leb 2 n h, lt-leb n 256 (omega arith)) (omega arith)
        ]
        | no h ↦ rw (lt-leb 2 n (omega arith)) (omega arith)
      ]

  pub no-set : 8 ≤ k → false ≡ in_set k n
  unfolding in_set
  no-set h = rw (div-eq_of_lt {n = small_code n} (lt_of_lt_of_le code-byte (pow_mono h)))

-- a count is in a set or large, and not both
one-tier : (k n : ℕ) → pick {A = ℕ} (in_set k n) 1 0 + pick {A = ℕ} (leb 257 n) 1 0 ≤ 1
one-tier k n =
    elim (dec_le 257 n) [
      | yes h ↦ rw (← large-count k n (omega arith)) (omega (arith, at_most_one (leb 257 n)))
      | no h ↦ rw (lt-leb 257 n (omega arith)) (omega (arith, at_most_one (in_set k n)))
    ]
  where
    at_most_one : (b : Bool) → pick {A = ℕ} b 1 0 ≤ 1
    at_most_one true = omega arith
    at_most_one false = omega arith

-- ---- the members of a set, counted row after row
length-members : (k : ℕ) (e : Entry) (es : List Entry) → length (members k (e ∷ es)) ≡ pick (in_set k e.count) 1 0 + length (members k es)
unfolding members
length-members k e es = simp length-map (length-keep (λ x. in_set k x.count) e es)

-- with the large counts they are at most all
pub set-or-large : (k : ℕ) (es : List Entry) → length (members k es) + length (large es) ≤ length es
unfolding members large keep
set-or-large k [] = omega arith
set-or-large k (e ∷ es) =
    omega (arith, length-members k e es, length-keep (λ x. leb 257 x.count) e es, one-tier k e.count, set-or-large k es)

-- how many members there are from row i on
abbrev pub members_from : ℕ → ℕ → List ℕ → ℕ → ℕ
members_from k n t i = length (members k (drop i (rows_of count_row n t)))

module _ (k n : ℕ) (t : List ℕ) (i : ℕ) where
  row-members : i < n → members_from k n t i ≡ pick (in_set k (get_or t (i * 2 + 1) 0)) 1 0 + members_from k n t (suc i)
  row-members h = rw (from_row n t i h) (length-members k (row_at t i) (drop (suc i) (rows_of count_row n t)))

  pub member-next : i < n → in_set k (get_or t (i * 2 + 1) 0) ≡ true → members_from k n t i ≡ 1 + members_from k n t (i + 1)
  member-next h e = row-members h ∙ rw (e, add-one i)

  pub other-next : i < n → in_set k (get_or t (i * 2 + 1) 0) ≡ false → members_from k n t i ≡ 0 + members_from k n t (i + 1)
  other-next h e = row-members h ∙ rw (e, add-one i)

  pub members-end : n ≤ i → i ≤ n → members_from k n t i ≡ 0
  unfolding members keep
  members-end h g =
      let e : i ≡ length (rows_of count_row n t) = omega (arith, length-rows_of count_row n t) in
      rw (e, drop-length (rows_of count_row n t))

-- ---- the ranges of the settings
module _ (g : ShrinkSettings) where
  pub no-base : g.base ≡ 0 → false ≡ in_range g
  unfolding in_range
  no-base e = rw (lt-leb 1 g.base (omega arith))

  pub base-in : (g.base ≡ 0 → ⊥) → leb g.base g.max ≡ in_range g
  unfolding in_range
  base-in n = rw (le-leb 1 g.base (omega arith))

-- ---- the alive threshold
module _ (g : ShrinkSettings) (saved threshold : ℕ) where
  pub good-save : g.good_save ≤ saved → g.base ≡ adjust_shrink_threshold g saved threshold
  unfolding adjust_shrink_threshold
  good-save h = rw (le-leb g.good_save saved h)

  pub far-threshold : saved < g.good_save → g.max / 2 < threshold → g.max ≡ adjust_shrink_threshold g saved threshold
  unfolding adjust_shrink_threshold
  far-threshold h f = rw (lt-leb g.good_save saved h) (omega arith)

  pub doubled : saved < g.good_save → threshold ≤ g.max / 2 → threshold * 2 ≡ adjust_shrink_threshold g saved threshold
  unfolding adjust_shrink_threshold
  doubled h f = rw (lt-leb g.good_save saved h) (omega arith)

-- ---- whether to shrink
module _ (alive removed minimum : ℕ) where
  pub none-removed : removed ≡ 0 → false ≡ should_shrink alive removed minimum
  unfolding should_shrink
  none-removed e = rw (eq-eqb removed 0 e)

  pub none-alive : (removed ≡ 0 → ⊥) → alive ≡ 0 → true ≡ should_shrink alive removed minimum
  unfolding should_shrink
  none-alive r e = rw (ne_eqb removed 0 r, eq-eqb alive 0 e)

  pub few-removed : (removed ≡ 0 → ⊥) → (alive ≡ 0 → ⊥) → removed < minimum → false ≡ should_shrink alive removed minimum
  unfolding should_shrink
  few-removed r a h = rw (ne_eqb removed 0 r, ne_eqb alive 0 a, lt-leb minimum removed h)

  -- a third of alive, rounded up, is one more than a third of alive - 1
  pub third-removed : (removed ≡ 0 → ⊥) → (alive ≡ 0 → ⊥) → minimum ≤ removed → ltb ((alive - 1) / 3) removed ≡ should_shrink alive removed minimum
  unfolding should_shrink
  third-removed r a h =
      rw (ne_eqb removed 0 r, ne_eqb alive 0 a, le-leb minimum removed h)
      (elim (dec_le alive (3 * removed)) [
        | yes g ↦ rw (le-leb alive (3 * removed) g) (lt-ltb ((alive - 1) / 3) removed (omega arith))
        | no g ↦ rw (lt-leb alive (3 * removed) (omega arith)) (le-ltb ((alive - 1) / 3) removed (omega arith))
      ])

-- ---- an array filled from the front
module _ {A : Type 0} (d : A) (filled wanted : List A) (k : ℕ) (same : take k filled ≡ take k wanted) where
  pub filled_next : (v : A) → k < length filled → k < length wanted → v ≡ get_or wanted k d → take (k + 1) (set filled k v) ≡ take (k + 1) wanted
  filled_next v h g e = rw (add-one k, take-suc-set filled k v h, take-suc wanted k d g, e, same)

  pub filled-end : length filled ≤ k → length wanted ≤ k → filled ≡ wanted
  filled-end h g = sym (take_all k filled h) ∙ same ∙ take_all k wanted g

-- ---- the rule of the sets, at any of them
module _ (es : List Entry) where
  pub length-sets : (rs : List ℕ) → length (sets_shrink es rs) ≡ 8
  unfolding sets_shrink
  length-sets rs = length-each (λ k. should_shrink (length (members k es)) (get_or rs k 0) set_minimum) 0 8

  pub set_at : (rs : List ℕ) (i : ℕ) → i < 8 → get_or (sets_shrink es rs) i false ≡ should_shrink (length (members i es)) (get_or rs i 0) set_minimum
  unfolding sets_shrink
  set_at rs i h = each_at (λ k. should_shrink (length (members k es)) (get_or rs k 0) set_minimum) 8 i false h

pub length-reset : (ys : List Bool) (rs : List ℕ) → length (reset_where ys rs) ≡ 8
unfolding reset_where
length-reset ys rs = length-each (λ k. pick (get_or ys k false) 0 (get_or rs k 0)) 0 8

pub reset-at : (ys : List Bool) (rs : List ℕ) (i : ℕ) → i < 8 → get_or (reset_where ys rs) i 0 ≡ pick (get_or ys i false) 0 (get_or rs i 0)
unfolding reset_where
reset-at ys rs i h = each_at (λ k. pick (get_or ys k false) 0 (get_or rs k 0)) 8 i 0 h

-- ---- maintenance after the decisions
-- maintenance with other removal counts
abbrev pub with_removed : CounterMaintenance → ℕ → List ℕ → CounterMaintenance
with_removed m n ns =
    record {
      alive_removed_since_shrink = n;
      small_removed_since_shrink = ns;
      min_alive_removed_before_shrink = m.min_alive_removed_before_shrink;
    }

module _ (g : ShrinkSettings) (saved : ℕ) (alive : Bool) (small : List Bool) (m : CounterMaintenance) (n : ℕ) (ns : List ℕ)
    (alive-left : n ≡ pick alive 0 m.alive_removed_since_shrink) (small-left : ns ≡ reset_where small m.small_removed_since_shrink) where
  pub after-yes : alive ≡ true → adjusted g saved (with_removed m n ns) ≡ shrunk g saved (record { alive = alive; small = small }) m
  unfolding shrunk
  after-yes e = rw (alive-left, small-left, e)

  pub after-no : alive ≡ false → with_removed m n ns ≡ shrunk g saved (record { alive = alive; small = small }) m
  unfolding shrunk
  after-no e = rw (alive-left, small-left, e)

-- ---- the call, by the check of its table
module _ (c : Counters) (t : List ℕ) (saved : ℕ) where
  pub shrink-broken : holds c t ≡ false → record { answer = Refused Broken; alive = false; small = replicate 8 false; counters = c } ≡ shrink_call c t saved
  unfolding shrink_call decided on_state
  shrink-broken h = rw h

  pub shrink-held : (alive : Bool) (small : List Bool) (m : CounterMaintenance) → holds c t ≡ true
      → alive ≡ should_shrink c.stored c.maintenance.alive_removed_since_shrink c.maintenance.min_alive_removed_before_shrink
      → small ≡ sets_shrink (rows_of count_row c.stored t) c.maintenance.small_removed_since_shrink
      → m ≡ shrunk c.settings saved (record { alive = alive; small = small }) c.maintenance
      → record { answer = Taken; alive = alive; small = small; counters = with_maintenance c m } ≡ shrink_call c t saved
  unfolding shrink_call decided on_state decide state_of
  shrink-held alive small m h a s e = rw (h, length-rows_of count_row c.stored t, e, a, s)

-- ---- the sets' removal counts after kept transitions
module _ (ts : List CounterTransition) where
  pub length-grown : (rs : List ℕ) → length (grown_sets ts rs) ≡ 8
  unfolding grown_sets
  length-grown rs = length-each (λ k. grown (get_or rs k 0) (length (keep (clears k) ts))) 0 8

  pub grown-at : (rs : List ℕ) (i : ℕ) → i < 8 → get_or (grown_sets ts rs) i 0 ≡ grown (get_or rs i 0) (length (keep (clears i) ts))
  unfolding grown_sets
  grown-at rs i h = each_at (λ k. grown (get_or rs k 0) (length (keep (clears k) ts))) 8 i 0 h
