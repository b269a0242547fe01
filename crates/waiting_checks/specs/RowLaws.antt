-- What the code finds out of one waiting row: in which window it lies, whether it names an entry, and what it leaves of the marks.
-- Assumes nothing.
use Rattle.std.specs.Prelude.{◌≡◌, Bool, true, false, List, ℕ, ◌+◌, ◌-◌, ◌*◌, ◌≤◌, ◌<◌, length, drop, leb, ltb, eqb}
use Rattle.std.proofs.Common.{sym, arith, drop_of_length-le}
use Rattle.std.proofs.Math.Decide.{dec_lt}
use Rattle.std.proofs.Math.ListN.{get_or}
use borrow.Author.Tests.{le-leb, lt-leb, le-ltb, lt-ltb, eq-eqb, ne_eqb}
use Rattle.base.specs.Logic.{sorted_from}
use Rattle.base.specs.Laws.{ascending-sorted}
use Rattle.rows.specs.Table.{rows_of}
use Rattle.rows.proofs.TableLaws.{length-rows_of}
use Rattle.rows.specs.Keys.{first_four, keys, place}
use Rattle.rows.proofs.KeyLaws.{length-keys, key-at, place-le, place_at, place_up, place_down}
use Rattle.cell_nursery.specs.declared.Nursery.{Nursery}
use Rattle.cell_nursery.specs.Layout.{hash_of, WaitingRow, waiting_row}
use Rattle.cell_nursery.specs.Held.{EntriesHeld}
use Rattle.cell_nursery.proofs.CheckLaws.{from-waiter}
use Rattle.cell_nursery.specs.Rows.{waiter_at_row}
use Rattle.waiting_checks.specs.Marks.{is_marked, with_mark, within, passes, marks_with, place_of, names_at}
use Rattle.waiting_checks.specs.WindowLaws.{all_pass}

-- ---- the window of a hash
module _ (r : Nursery) (es : List ℕ) (x : EntriesHeld r es) (h : ℕ) where
  number : length (keys first_four 8 r.entries es) ≡ r.entries
  number = length-keys first_four 8 r.entries es

  sorted : sorted_from 0 (keys first_four 8 r.entries es) ≡ true
  sorted = ascending-sorted 0 (keys first_four 8 r.entries es) x.hashes

  pub reach-past : (k : ℕ) → r.entries < k → false ≡ leb k (place h (keys first_four 8 r.entries es))
  reach-past k l = sym (lt-leb k (place h (keys first_four 8 r.entries es)) (omega (arith, number, place-le h (keys first_four 8 r.entries es))))

  -- entry k - 1 is below a hash exactly where the hash's place is k or behind it
  pub reach-in : (k : ℕ) → 0 < k → k ≤ r.entries → ltb (first_four (drop ((k - 1) * 8) es)) h ≡ leb k (place h (keys first_four 8 r.entries es))
  reach-in k p l =
      let ks = keys first_four 8 r.entries es in
      let at : get_or ks (k - 1) 0 ≡ first_four (drop ((k - 1) * 8) es) = key-at first_four 8 r.entries es (k - 1) (omega arith) in
      let inside : k - 1 < length ks = omega (arith, number) in
      elim (dec_lt (get_or ks (k - 1) 0) h) [
        | yes g ↦ rw (← at, lt-ltb (get_or ks (k - 1) 0) h g, le-leb k (place h ks) (omega (arith, place_up h 0 ks (k - 1) sorted inside g)))
        | no g ↦ rw (← at, le-ltb (get_or ks (k - 1) 0) h (omega arith), lt-leb k (place h ks) (omega (arith, place_down h ks (k - 1) inside (omega arith))))
      ]

-- ---- the entry that a row names
module _ (r : Nursery) (es : List ℕ) (w : WaitingRow) (k : ℕ) (here : k ≡ place_of r es w) where
  pub names-past : r.entries ≤ k → false ≡ names_at r es w
  unfolding names_at
  names-past l = rw (← here, le-ltb k r.entries l)

  module _ (l : k < r.entries) where
    at : get_or (keys first_four 8 r.entries es) k 0 ≡ first_four (drop (k * 8) es)
    at = key-at first_four 8 r.entries es k l

    pub names-other : (first_four (drop (k * 8) es) ≡ hash_of w.hash → ⊥) → false ≡ names_at r es w
    unfolding names_at
    names-other ne = rw (← here, lt-ltb k r.entries l, at, ne_eqb (first_four (drop (k * 8) es)) (hash_of w.hash) ne)

    pub names-round : first_four (drop (k * 8) es) ≤ hash_of w.hash → eqb (get_or es (k * 8 + 5) 0) w.born ≡ names_at r es w
    unfolding names_at
    names-round g =
        let p : hash_of w.hash ≤ get_or (keys first_four 8 r.entries es) k 0 = rw here (place_at (hash_of w.hash) (keys first_four 8 r.entries es) (omega (arith, length-keys first_four 8 r.entries es))) in
        rw (← here, lt-ltb k r.entries l, at, eq-eqb (first_four (drop (k * 8) es)) (hash_of w.hash) (omega (arith, at)))

-- ---- the marks that a row leaves
module _ {A : Type 0} (key : A → ℕ) (ok : A → Bool) (lo : ℕ) (m : List ℕ) (x : A) where
  pub row-outside : within lo (key x) ≡ false → (true ≡ passes key ok lo m x) × (m ≡ marks_with key ok lo m x)
  unfolding passes marks_with
  row-outside e = (rw e, rw e)

  module _ (inside : within lo (key x) ≡ true) where
    pub row-wrong : ok x ≡ false → (false ≡ passes key ok lo m x) × (m ≡ marks_with key ok lo m x)
    unfolding passes marks_with
    row-wrong e = (rw (inside, e), rw (inside, e))

    module _ (right : ok x ≡ true) where
      pub row-again : is_marked m (key x - lo) ≡ true → (false ≡ passes key ok lo m x) × (m ≡ marks_with key ok lo m x)
      unfolding passes marks_with
      row-again e = (rw (inside, right, e), rw (inside, right, e))

      pub row_new : is_marked m (key x - lo) ≡ false → (true ≡ passes key ok lo m x) × (with_mark m (key x - lo) ≡ marks_with key ok lo m x)
      unfolding passes marks_with
      row_new e = (rw (inside, right, e), rw (inside, right, e))

-- ---- the rows of a table in turn
module _ (key : WaitingRow → ℕ) (ok : WaitingRow → Bool) (lo : ℕ) (m : List ℕ) (n : ℕ) (ws : List ℕ) (j : ℕ) where
  module _ (h : j < n) where
    pub pass-stops : passes key ok lo m (waiter_at_row ws j) ≡ false → all_pass key ok lo m (drop j (rows_of waiting_row n ws)) ≡ false
    unfolding all_pass
    pass-stops e = rw (from-waiter n ws j h, e)

    pub pass-goes : passes key ok lo m (waiter_at_row ws j) ≡ true
        → all_pass key ok lo m (drop j (rows_of waiting_row n ws)) ≡ all_pass key ok lo (marks_with key ok lo m (waiter_at_row ws j)) (drop (j + 1) (rows_of waiting_row n ws))
    unfolding all_pass
    pass-goes e = rw (from-waiter n ws j h, e)

  pub pass-ends : n ≤ j → all_pass key ok lo m (drop j (rows_of waiting_row n ws)) ≡ true
  unfolding all_pass
  pass-ends h = rw (drop_of_length-le (rows_of waiting_row n ws) {i = j} (rw (length-rows_of waiting_row n ws) h))
