-- The rows of the table of counts as a loop or a search meets them.
-- Assumes nothing.
use Rattle.std.specs.Prelude.{◌≡◌, Bool, ◌&&◌, List, [], ◌∷◌, ◌++◌, map, ℕ, zero, suc, ◌+◌, ◌-◌, ◌*◌, ◌≤◌, ◌<◌, drop, set}
use Rattle.std.proofs.Math.Path.{refl, sym}
use Rattle.std.proofs.Common.{ap, ap₂, ◌∙◌, append-nil, arith, get_or-drop}
use Rattle.std.proofs.Math.Bool.{true, false, and-false}
use Rattle.std.proofs.Math.Decide.{dec_le}
use Rattle.std.proofs.Math.Dec.{leb}
use borrow.Author.Tests.{le-leb, lt-leb, le-ltb, lt-ltb, eq-eqb, ne_eqb}
use Rattle.std.proofs.Math.ListN.{length, get_or}
use Rattle.std.proofs.Math.Seq.{drop-length, take-length}
use Rattle.base.specs.Logic.{all, ascending_from, sorted_from}
use Rattle.base.specs.Laws.{and_left, ascending-head, ascending-tail, ascending-sorted}
use Rattle.slices.specs.Laws.{paste-right, paste-two}
use Rattle.rows.specs.Table.{rows_of, table_of, holds_rows}
use Rattle.rows.proofs.TableLaws.{length-rows_of, drop-row, rows_of-table, length-table, laid_table, inserted}
use Rattle.rows.specs.Keys.{keys, first_word, place}
use Rattle.rows.proofs.KeyLaws.{place-le, place_at, length-keys, word_at, keys-rows_of}
use Rattle.counters.specs.Counts.{Entry, stored_at}
use Rattle.counters.specs.declared.Counters.{Counters}
use Rattle.counters.specs.Maintenance.{in_range}
use Rattle.counters.specs.Layout.{count_row, sound, ordered, holds}
use Rattle.counters.proofs.CodingLaws.{count-lawful}
use Rattle.counters.proofs.LayoutLaws.{held}
use Rattle.counters.specs.Steps.{row_at}
use Rattle.counters.specs.Held.{InOrder}

pub from_row : (n : ℕ) (t : List ℕ) (k : ℕ) → k < n → drop k (rows_of count_row n t) ≡ row_at t k ∷ drop (suc k) (rows_of count_row n t)
from_row n t k h =
    drop-row count_row n t k h
    ∙ ap₂ (λ (i m : ℕ). record { idx = i; count = m } ∷ drop (suc k) (rows_of count_row n t))
    (get_or-drop (k * 2) t 0 0 ∙ ap (λ (i : ℕ). get_or t i 0) (omega arith)) (get_or-drop (k * 2) t 1 0)

-- a row laid behind the others
pub row-behind : (len : ℕ) (es : List Entry) (i n : ℕ) → length es * 2 + 2 ≤ len
    → set (set (table_of count_row len es) (length es * 2) i) (length es * 2 + 1) n ≡ table_of count_row len (es ++ (record { idx = i; count = n } ∷ []))
row-behind len es i n room =
    let t = table_of count_row len es in
    let k = length es in
    let e : Entry = record { idx = i; count = n } in
    let l : length t ≡ len = length-table count-lawful len es (omega arith) in
    let z : k * 2 - k * 2 ≡ 0 = omega arith in
    let g = inserted count-lawful k t (laid_table count-lawful len es (omega arith)) k e (omega arith) (omega arith) in
    paste-two t (k * 2) i n (omega arith)
    ∙ paste-right t (k * 2) (i ∷ n ∷ []) 2
    ∙ (rw (z, rows_of-table count-lawful len es, take-length es, drop-length es, append-nil (e ∷ []), l) at g)

-- the indices of the rows are the keys of the table
pub indices : (n : ℕ) (t : List ℕ) → map (λ e. e.idx) (rows_of count_row n t) ≡ keys first_word 2 n t
indices n t = keys-rows_of count_row (λ e. e.idx) first_word (λ u. refl) n t

pub in-order-sorted : (n : ℕ) (t : List ℕ) → InOrder n t → sorted_from 0 (keys first_word 2 n t) ≡ true
in-order-sorted n t h = ascending-sorted 0 (keys first_word 2 n t) h.ascends

-- ---- a test of row after row
module _ (p : Entry → Bool) (n : ℕ) (t : List ℕ) (i : ℕ) (h : i < n) where
  pub all-next : p (row_at t i) ≡ true → all p (drop i (rows_of count_row n t)) ≡ all p (drop (suc i) (rows_of count_row n t))
  unfolding all
  all-next e = rw (from_row n t i h, e)

  pub all-not : p (row_at t i) ≡ false → all p (drop i (rows_of count_row n t)) ≡ false
  unfolding all
  all-not e = rw (from_row n t i h, e)

pub all_end : (p : Entry → Bool) (n : ℕ) (t : List ℕ) (i : ℕ) → n ≤ i → i ≤ n → all p (drop i (rows_of count_row n t)) ≡ true
unfolding all
all_end p n t i h k =
    let e : i ≡ length (rows_of count_row n t) = omega (arith, length-rows_of count_row n t) in
    rw (e, drop-length (rows_of count_row n t))

pub sound-row : (next i m : ℕ) → i < next → 2 ≤ m → sound next (record { idx = i; count = m }) ≡ true
sound-row next i m h k = rw (lt-ltb i next h, le-leb 2 m k)

pub far-row : (next i m : ℕ) → next ≤ i → sound next (record { idx = i; count = m }) ≡ false
far-row next i m h = rw (le-ltb i next h)

pub low-row : (next i m : ℕ) → i < next → m < 2 → sound next (record { idx = i; count = m }) ≡ false
low-row next i m h k = rw (lt-ltb i next h, lt-leb 2 m k)

-- ---- a search for an index
-- rows before the place of an index are none of its own
stored-from-place : (i : ℕ) (es : List Entry) → stored_at i es ≡ stored_at i (drop (place i (map (λ e. e.idx) es)) es)
unfolding stored_at place
stored-from-place i [] = refl
stored-from-place i (e ∷ es) =
    elim (dec_le i e.idx) [
      | yes h ↦ rw (le-ltb e.idx i h)
      | no h ↦ rw (lt-ltb e.idx i (omega arith), ne_eqb e.idx i (omega arith)) (stored-from-place i es)
    ]

stored-none : (i lo : ℕ) (es : List Entry) → ascending_from lo (map (λ e. e.idx) es) ≡ true → i < lo → stored_at i es ≡ 0
unfolding stored_at
stored-none i lo [] o h = refl
stored-none i lo (e ∷ es) o h =
    let l = ascending-head lo e.idx (map (λ x. x.idx) es) o in
    rw (ne_eqb e.idx i (omega arith)) (stored-none i (suc e.idx) es (ascending-tail lo e.idx (map (λ x. x.idx) es) o) (omega arith))

-- the rows behind one of ascending rows
ascending-drop : (lo k : ℕ) (es : List Entry) (e : Entry) (r : List Entry) → ascending_from lo (map (λ x. x.idx) es) ≡ true → drop k es ≡ e ∷ r
    → ascending_from (suc e.idx) (map (λ x. x.idx) r) ≡ true
ascending-drop lo zero (x ∷ es) e r o q = let s = ascending-tail lo x.idx (map (λ y. y.idx) es) o in cc
ascending-drop lo (suc k) (x ∷ es) e r o q = ascending-drop (suc x.idx) k es e r (ascending-tail lo x.idx (map (λ y. y.idx) es) o) q
ascending-drop lo zero [] e r o q = let z : ◌≡◌ {A = ℕ} 0 1 = cc in absurd (omega arith)
ascending-drop lo (suc k) [] e r o q = let z : ◌≡◌ {A = ℕ} 0 1 = cc in absurd (omega arith)

module _ (n : ℕ) (t : List ℕ) (ok : InOrder n t) (i k : ℕ) (here : k ≡ place i (keys first_word 2 n t)) where
  at_place : stored_at i (rows_of count_row n t) ≡ stored_at i (drop k (rows_of count_row n t))
  at_place = stored-from-place i (rows_of count_row n t) ∙ rw (indices n t, here)

  pub found-row : k < n → get_or t (k * 2) 0 ≡ i → get_or t (k * 2 + 1) 0 ≡ stored_at i (rows_of count_row n t)
  unfolding stored_at
  found-row h e = sym (at_place ∙ rw (from_row n t k h, eq-eqb (get_or t (k * 2) 0) i e))

  pub no_row : k < n → (get_or t (k * 2) 0 ≡ i → ⊥) → 0 ≡ stored_at i (rows_of count_row n t)
  unfolding stored_at
  no_row h e =
      let l : i ≤ get_or t (k * 2) 0 =
      rw (← word_at 2 n t k h, here) (place_at i (keys first_word 2 n t) (omega (arith, length-keys first_word 2 n t))) in
      let a : ascending_from (suc (get_or t (k * 2) 0)) (map (λ x. x.idx) (drop (suc k) (rows_of count_row n t))) ≡ true =
      ascending-drop 0 k (rows_of count_row n t) (row_at t k) (drop (suc k) (rows_of count_row n t)) (rw (indices n t) ok.ascends) (from_row n t k h) in
      sym (at_place ∙ rw (from_row n t k h, ne_eqb (get_or t (k * 2) 0) i e) (stored-none i (suc (get_or t (k * 2) 0)) (drop (suc k) (rows_of count_row n t)) a (omega arith)))

  pub past-rows : n ≤ k → 0 ≡ stored_at i (rows_of count_row n t)
  unfolding stored_at
  past-rows h =
      let e : k ≡ length (rows_of count_row n t) =
      omega (arith, length-rows_of count_row n t, length-keys first_word 2 n t, place-le i (keys first_word 2 n t)) in
      sym (at_place ∙ rw (e, drop-length (rows_of count_row n t)))

-- ---- the check of record and table, test after test
module _ (c : Counters) (t : List ℕ) where
  pub holds-not-rows : holds_rows 2 c.stored t ≡ false → holds c t ≡ false
  unfolding holds
  holds-not-rows e = rw e

  pub holds-not-order : holds_rows 2 c.stored t ≡ true → ascending_from 0 (keys first_word 2 c.stored t) ≡ false → holds c t ≡ false
  unfolding holds ordered
  holds-not-order e a = rw (e, indices c.stored t, a)

  -- a test that fails behind two others
  neither : (a b d : Bool) → (a && b && false && d) ≡ false
  neither true true d = refl
  neither true false d = refl
  neither false b d = refl

  pub holds-few : c.live_cells < c.stored → holds c t ≡ false
  unfolding holds
  holds-few l =
      rw (lt-leb c.stored c.live_cells l)
      (neither (holds_rows 2 c.stored t) (ordered c.next_idx.0 (rows_of count_row c.stored t)) (in_range c.settings))

  pub holds-not-ranged : in_range c.settings ≡ false → holds c t ≡ false
  unfolding holds
  holds-not-ranged e =
      rw e
      (and-false (holds_rows 2 c.stored t && ordered c.next_idx.0 (rows_of count_row c.stored t) && leb c.stored c.live_cells))

  pub holds-sound : in_range c.settings ≡ true → c.stored ≤ c.live_cells → holds_rows 2 c.stored t ≡ true → ascending_from 0 (keys first_word 2 c.stored t) ≡ true
      → holds c t ≡ all (sound c.next_idx.0) (rows_of count_row c.stored t)
  unfolding holds ordered
  holds-sound r b e a =
      rw (e, indices c.stored t, a, le-leb c.stored c.live_cells b, r) (both (all (sound c.next_idx.0) (rows_of count_row c.stored t)))
    where
      both : (d : Bool) → (d && true && true) ≡ d
      both true = refl
      both false = refl

  -- a table that holds a state has its rows in order
  pub in_order : holds c t ≡ true → InOrder c.stored t
  unfolding ordered
  in_order h =
      let s = held c t h in
      record {
        laid = s.laid;
        ascends =
            rw (indices c.stored t) at (and_left (ascending_from 0 (map (λ e. e.idx) (rows_of count_row c.stored t))) (all (sound c.next_idx.0) (rows_of count_row c.stored t)) s.sorted);
      }
