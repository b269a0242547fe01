-- The waiting rows are right and no two have one place exactly where they are tied to the entries, whatever the cells hold.
-- Assumes nothing.
use Rattle.std.specs.Prelude.{◌≡◌, Bool, ◌&&◌, ℕ, suc, ◌+◌, ◌*◌, ◌≤◌, length, ltb}
use Rattle.std.proofs.Math.Path.{refl, sym, ap, fun_ext}
use Rattle.std.proofs.Common.{◌∙◌, arith}
use Rattle.std.proofs.Math.Bool.{true, false, not, and-false, or-false}
use mathlib.Core.List.{List, [], ◌∷◌, map, map-map}
use Rattle.std.proofs.Math.Decide.{dec_lt, ℕ_discrete}
use Rattle.std.proofs.Math.ListN.{get_or}
use Rattle.std.proofs.Math.Dec.{eqb}
use borrow.Author.Tests.{le-ltb, lt-ltb, eq-eqb, ne_eqb, eqb-true}
use Rattle.base.specs.Logic.{all, any, elem, repeated, ascending_from}
use Rattle.base.specs.Laws.{and_left, and_right, ascending-head, ascending-tail}
use Rattle.base.specs.ListLaws.{any-map}
use Rattle.base.specs.SumLaws.{all_map}
use Rattle.rows.specs.Table.{rows_of}
use Rattle.rows.proofs.TableLaws.{length-rows_of}
use Rattle.rows.specs.Keys.{first_four, keys, place}
use Rattle.rows.proofs.KeyLaws.{place-lt, place-ge}
use Rattle.cell_nursery.specs.declared.Nursery.{Nursery}
use Rattle.cell_nursery.specs.Entries.{names, tied}
use Rattle.cell_nursery.specs.Layout.{hash_of, entry_row, WaitingRow, waiting_row, entry_of, waiter_of, entries_of, waiting_of, state_of}
use Rattle.cell_nursery.proofs.LayoutLaws.{hashes-keys}
use Rattle.cell_nursery.specs.Held.{EntriesHeld}
use Rattle.cell_nursery.proofs.SearchLaws.{row_of}
use Rattle.waiting_checks.specs.Marks.{clean, place_of, names_at}

ltb-suc : (a b : ℕ) → ltb (suc a) (suc b) ≡ ltb a b
ltb-suc a b =
    elim (dec_lt a b) [
      | yes h ↦ rw (lt-ltb a b h, lt-ltb (suc a) (suc b) (omega arith))
      | no h ↦ rw (le-ltb a b (omega arith), le-ltb (suc a) (suc b) (omega arith))
    ]

-- ---- a key among ascending ones is found at its place alone
module _ {A : Type 0} (key : A → ℕ) (ok : A → Bool) where
  above-none : (h x : ℕ) (xs : List A) → h ≤ x → ascending_from (suc x) (map key xs) ≡ true → any (λ e. eqb (key e) h && ok e) xs ≡ false
  unfolding any
  above-none h x [] l a = refl
  above-none h x (y ∷ ys) l a =
      let g = ascending-head (suc x) (key y) (map key ys) a in
      rw (ne_eqb (key y) h (omega arith)) (above-none h (key y) ys (omega arith) (ascending-tail (suc x) (key y) (map key ys) a))

  any-at-place : (h lo : ℕ) (xs : List A) (d : A) → ascending_from lo (map key xs) ≡ true
      → any (λ e. eqb (key e) h && ok e) xs
      ≡ ((ltb (place h (map key xs)) (length xs) && eqb (get_or (map key xs) (place h (map key xs)) 0) h) && ok (get_or xs (place h (map key xs)) d))
  unfolding any
  any-at-place h lo [] d a = rw (le-ltb (place h []) 0 (omega arith))
  any-at-place h lo (x ∷ xs) d a =
      let t = ascending-tail lo (key x) (map key xs) a in
      elim (dec_lt (key x) h) [
        | yes l ↦ rw (place-lt h (key x) (map key xs) l, ne_eqb (key x) h (omega arith)) (any-at-place h (suc (key x)) xs d t ∙ ap (λ (b : Bool). (b && eqb (get_or (map key xs) (place h (map key xs)) 0) h) && ok (get_or xs (place h (map key xs)) d)) (sym (ltb-suc (place h (map key xs)) (length xs))))
        | no l ↦ elim (ℕ_discrete (key x) h) [
          | yes e ↦ rw (place-ge h (key x) (map key xs) (omega arith), eq-eqb (key x) h e, above-none h (key x) xs (omega arith) t, lt-ltb 0 (suc (length xs)) (omega arith)) (or-false (ok x))
          | no e ↦ rw (place-ge h (key x) (map key xs) (omega arith), ne_eqb (key x) h e, above-none h (key x) xs (omega arith) t) (sym (rw (and-false (ltb 0 (suc (length xs))))))
        ]
      ]

-- ---- what an entry's row says of a waiting row
module _ (r : Nursery) (es cs : List ℕ) (x : EntriesHeld r es) (w : WaitingRow) where
  -- the born round of the row at a place, where there is one
  born-at : (k : ℕ) (b : Bool) → ((ltb k r.entries && b) && eqb (get_or (rows_of entry_row r.entries es) k (entry_row.dec [])).born w.born) ≡ ((ltb k r.entries && b) && eqb (get_or es (k * 8 + 5) 0) w.born)
  born-at k b =
      elim (dec_lt k r.entries) [
        | yes l ↦ rw (row_of r.entries es k (entry_row.dec []) l)
        | no l ↦ rw (le-ltb k r.entries (omega arith))
      ]

  names_same : names_at r es w ≡ any (names (waiter_of w)) (entries_of r.entries es cs)
  unfolding names entries_of names_at
  names_same =
      let rs = rows_of entry_row r.entries es in
      let ks = keys first_four 8 r.entries es in
      let h = hash_of w.hash in
      let same = hashes-keys r.entries es in
      let at = any-at-place (λ e. hash_of e.hash) (λ e. eqb e.born w.born) h 0 rs (entry_row.dec []) (rw same x.hashes) in
      sym (any-map (entry_of cs) (names (waiter_of w)) rs ∙ rw (same, length-rows_of entry_row r.entries es) at at ∙ born-at (place h ks) (eqb (get_or ks (place h ks) 0) h))

-- ---- places in place of hashes
module _ {A : Type 0} (f g : A → ℕ) (ok : A → Bool) (one : (x y : A) → ok x ≡ true → ok y ≡ true → eqb (f x) (f y) ≡ eqb (g x) (g y)) where
  elem-through : (x : A) (xs : List A) → ok x ≡ true → all ok xs ≡ true → elem (f x) (map f xs) ≡ elem (g x) (map g xs)
  unfolding any all
  elem-through x [] o a = refl
  elem-through x (y ∷ ys) o a = rw (one x y o (and_left _ _ a), elem-through x ys o (and_right (ok y) _ a))

  repeated-through : (xs : List A) → all ok xs ≡ true → repeated (map f xs) ≡ repeated (map g xs)
  unfolding repeated all
  repeated-through [] a = refl
  repeated-through (x ∷ xs) a = rw (elem-through x xs (and_left _ _ a) (and_right (ok x) _ a), repeated-through xs (and_right (ok x) _ a))

module _ (r : Nursery) (es : List ℕ) where
  -- two rows that name entries have one place exactly where they have one hash
  one_place : (v w : WaitingRow) → names_at r es v ≡ true → names_at r es w ≡ true → eqb (place_of r es v) (place_of r es w) ≡ eqb (hash_of v.hash) (hash_of w.hash)
  unfolding names_at
  one_place v w a b =
      let p = eqb-true _ _ (and_right (ltb (place_of r es v) r.entries) _ (and_left _ _ a)) in
      let q = eqb-true _ _ (and_right (ltb (place_of r es w) r.entries) _ (and_left _ _ b)) in
      elim (ℕ_discrete (hash_of v.hash) (hash_of w.hash)) [
        | yes e ↦ rw (e, eq-eqb (hash_of w.hash) (hash_of w.hash) refl) (eq-eqb (place_of r es w) (place_of r es w) refl)
        | no e ↦ rw (ne_eqb (hash_of v.hash) (hash_of w.hash) e) (ne_eqb (place_of r es v) (place_of r es w) (λ m. e (sym p ∙ ap (λ (k : ℕ). get_or (keys first_four 8 r.entries es) k 0) m ∙ q)))
      ]

module _ (r : Nursery) (es ws cs : List ℕ) (x : EntriesHeld r es) where
  abbrev rows : List WaitingRow
  rows = rows_of waiting_row r.waiting ws

  hashes : map (λ w. w.hash) (waiting_of r.waiting ws) ≡ map (λ w. hash_of w.hash) rows
  unfolding waiting_of
  hashes = map-map (λ w. w.hash) waiter_of rows

  all_named : all (λ w. any (names w) (entries_of r.entries es cs)) (waiting_of r.waiting ws) ≡ all (names_at r es) rows
  unfolding waiting_of
  all_named =
      all_map (λ w. any (names w) (entries_of r.entries es cs)) waiter_of rows
      ∙ ap (λ (p : WaitingRow → Bool). all p rows) (fun_ext (λ w. sym (names_same r es cs x w)))

  pub tied-clean : clean (place_of r es) (names_at r es) (rows_of waiting_row r.waiting ws) ≡ tied (state_of r es ws cs)
  unfolding clean tied state_of
  tied-clean = rw (all_named, hashes) (go (all (names_at r es) rows) refl)
    where
      go : (b : Bool) → all (names_at r es) rows ≡ b → (b && not (repeated (map (place_of r es) rows))) ≡ (b && not (repeated (map (λ w. hash_of w.hash) rows)))
      go true e = ap not (repeated-through (place_of r es) (λ w. hash_of w.hash) (names_at r es) (one_place r es) rows e)
      go false e = refl
