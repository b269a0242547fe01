-- Rows of the entries whose cells come to lie elsewhere: one place at a time, from a row on.
-- Assumes nothing.
use Rattle.std.specs.Prelude.{◌≡◌, refl, List, [], ◌∷◌, ◌++◌, map, ℕ, suc, ◌+◌, ◌*◌, ◌-◌, ◌≤◌, ◌<◌, length, take, drop, get_or, set}
use Rattle.std.proofs.Common.{sym, ap, ◌∙◌, append-nil, append_assoc, add-one, arith, length-append, length-take, length-drop, length-set, take-append-drop, drop_of_length-le, take_at, drop_at, take_all, take-take, drop-drop, drop-set-lt, get_or-drop, length-take-le}
use Rattle.std.proofs.lemmas.List.{length-map, take-append-le, drop-set-add, take-set-le}
use Rattle.std.proofs.Math.Seq.{append_snoc}
use Rattle.base.specs.Logic.{zeros}
use Rattle.rows.specs.Table.{rows_of, table_of, Laid}
use Rattle.rows.proofs.TableLaws.{length-rows_of, drop-row, holds-laid, replaced, table-rows_of, inserted, removed}
use Rattle.rows.proofs.RowLaws.{IsTable, is-table}
use Rattle.cell_nursery.specs.Layout.{EntryRow, entry_row}
use Rattle.cell_nursery.proofs.CodingLaws.{entry-lawful}

-- a row with its cell at another place
abbrev pub moved : (ℕ → ℕ) → EntryRow → EntryRow
moved g r = record { hash = r.hash; idx = r.idx; born = r.born; place = g r.place; len = r.len }

-- the rows from k on with their cells at other places
abbrev pub moved_from : (ℕ → ℕ) → ℕ → List EntryRow → List EntryRow
moved_from g k rs = take k rs ++ map (moved g) (drop k rs)

-- a place is written in a row's seventh word
place_set : (t : List ℕ) (i v : ℕ) (r : EntryRow) → r ≡ entry_row.dec (drop (i * 8) t) → i * 8 + 8 ≤ length t
    → set t (i * 8 + 6) v ≡ take (i * 8) t ++ (entry_row.enc (moved (λ p. v) r) ++ drop (i * 8 + 8) t)
place_set t i v r is h =
    let a : ℕ = i * 8 in
    let long : 8 ≤ length (drop a t) = rw (length-drop a t) (omega arith) in
    let parts : drop a t ≡ entry_row.enc r ++ drop 8 (drop a t) = sym (take-append-drop 8 (drop a t)) ∙ ap (λ (l : List ℕ). l ++ drop 8 (drop a t)) (sym (entry-lawful.forth (drop a t) long)) ∙ rw is in
    let after : drop a (set t (a + 6) v) ≡ entry_row.enc (moved (λ p. v) r) ++ drop 8 (drop a t) = drop-set-add a t 6 v ∙ ap (λ (l : List ℕ). set l 6 v) parts in
    sym (take-append-drop a (set t (a + 6) v)) ∙ rw (take-set-le a t (a + 6) v (omega arith), after, drop-drop 8 a t)

module _ (g : ℕ → ℕ) (n k : ℕ) (t₀ : List ℕ) where
  -- before row i the places are written, from it on they are still to be
  pub record Moving (t : List ℕ) (i : ℕ) : Type 0 where
    pub laid : Laid 8 n t
    pub size : length t ≡ length t₀
    pub left : moved_from g i (rows_of entry_row n t) ≡ moved_from g k (rows_of entry_row n t₀)
    pub behind : drop (i * 8) t ≡ drop (i * 8) t₀

  pub moving-start : Laid 8 n t₀ → Moving t₀ k
  moving-start l = record { laid = l; size = refl; left = refl; behind = refl }

  module _ (t : List ℕ) (i : ℕ) (m : Moving t i) where
    pub place-left : get_or t (i * 8 + 6) 0 ≡ get_or t₀ (i * 8 + 6) 0
    place-left = sym (get_or-drop (i * 8) t 6 0) ∙ ap (λ (l : List ℕ). get_or l 6 0) m.behind ∙ get_or-drop (i * 8) t₀ 6 0

    pub moving-turn : i < n → Moving (set t (i * 8 + 6) (g (get_or t (i * 8 + 6) 0))) (i + 1)
    moving-turn l =
        let a : ℕ = i * 8 in
        let f = m.laid.fits in
        let v : ℕ = g (get_or t (a + 6) 0) in
        let rs : List EntryRow = rows_of entry_row n t in
        let r : EntryRow = entry_row.dec (drop a t) in
        let e : EntryRow = moved g r in
        let same : moved (λ p. v) r ≡ e = rw (get_or-drop a t 6 0) in
        let new : List EntryRow = take i rs ++ ((e ∷ []) ++ drop (suc i) rs) in
        let count : length rs ≡ n = length-rows_of entry_row n t in
        let front : length (take i rs) ≡ i = length-take-le i rs (omega arith) in
        let number : length new ≡ n = simp (length-append, length-drop) (omega (arith, front)) in
        let is : set t (a + 6) v ≡ table_of entry_row (length t) new = place_set t i v r refl (omega arith) ∙ ap (λ (x : EntryRow). take a t ++ (entry_row.enc x ++ drop (a + 8) t)) same ∙ replaced entry-lawful n t m.laid i e l in
        let table : IsTable entry_row n (length t) new (set t (a + 6) v) = rw is (is-table entry-lawful n (length t) new number (f)) in
        let one : take (suc i) new ≡ take i rs ++ (e ∷ []) = ap (λ (x : List EntryRow). take (suc i) x) (sym (append_assoc (take i rs) (e ∷ []) (drop (suc i) rs))) ∙ take_at (take i rs ++ (e ∷ [])) (drop (suc i) rs) (suc i) (simp length-append (omega (arith, front))) in
        let two : drop (suc i) new ≡ drop (suc i) rs = ap (λ (x : List EntryRow). drop (suc i) x) (sym (append_assoc (take i rs) (e ∷ []) (drop (suc i) rs))) ∙ drop_at (take i rs ++ (e ∷ [])) (drop (suc i) rs) (suc i) (simp length-append (omega (arith, front))) in
        let whole : moved_from g (suc i) new ≡ moved_from g i rs = rw (one, two, drop-row entry_row n t i l) (append_snoc (take i rs) e (map (moved g) (drop (suc i) rs))) in
        let q : suc i * 8 ≡ a + 8 = omega arith in
        rw (add-one i)
        (record {
          laid = holds-laid 8 n (set t (a + 6) v) table.holds;
          size = length-set t (a + 6) v ∙ m.size;
          left = rw table.spells (whole ∙ m.left);
          behind = rw (q, drop-set-lt (a + 8) t (a + 6) v (omega arith), ← drop-drop 8 a t, m.behind) (drop-drop 8 a t₀);
        })

    pub moving-done : n ≤ i → t ≡ table_of entry_row (length t₀) (moved_from g k (rows_of entry_row n t₀))
    moving-done h =
        let count : length (rows_of entry_row n t) ≡ n = length-rows_of entry_row n t in
        let past : length (rows_of entry_row n t) ≤ i = omega arith in
        let all_there : moved_from g i (rows_of entry_row n t) ≡ rows_of entry_row n t =
        rw (take_all i (rows_of entry_row n t) (omega arith), drop_of_length-le (rows_of entry_row n t) past) (append-nil (rows_of entry_row n t)) in
        sym (rw (← m.left, all_there, ← m.size) (table-rows_of entry-lawful n t m.laid))

-- ---- a row that goes in, and one that goes, once the places behind it are written
module _ (g : ℕ → ℕ) (n k : ℕ) (t s : List ℕ) (laid : Laid 8 n t) where
  the-moved : (j : ℕ) → j ≤ n → s ≡ table_of entry_row (length t) (moved_from g j (rows_of entry_row n t)) → IsTable entry_row n (length t) (moved_from g j (rows_of entry_row n t)) s
  the-moved j h e =
      let count : length (rows_of entry_row n t) ≡ n = length-rows_of entry_row n t in
      rw e (is-table entry-lawful n (length t) (moved_from g j (rows_of entry_row n t)) (simp (length-append, length-map, length-drop, length-take) (omega arith)) laid.fits)

  pub row_in : k ≤ n → s ≡ table_of entry_row (length t) (moved_from g k (rows_of entry_row n t)) → (e : EntryRow) → n * 8 + 8 ≤ length t
      → take (k * 8) s ++ (entry_row.enc e ++ (take (n * 8 - k * 8) (drop (k * 8) s) ++ drop (n * 8 + 8) s))
      ≡ table_of entry_row (length t) (take k (rows_of entry_row n t) ++ e ∷ map (moved g) (drop k (rows_of entry_row n t)))
  row_in h is e room =
      let rs : List EntryRow = rows_of entry_row n t in
      let table = the-moved k h is in
      let count : length rs ≡ n = length-rows_of entry_row n t in
      let front : length (take k rs) ≡ k = length-take-le k rs (omega arith) in
      inserted entry-lawful n s (holds-laid 8 n s table.holds) k e h (omega (arith, table.size))
      ∙ rw (table.size, table.spells, take_at (take k rs) (map (moved g) (drop k rs)) k front, drop_at (take k rs) (map (moved g) (drop k rs)) k front)

  pub row_out : k < n → s ≡ table_of entry_row (length t) (moved_from g (suc k) (rows_of entry_row n t))
      → take (k * 8) s ++ (take (n * 8 - (k * 8 + 8)) (drop (k * 8 + 8) s) ++ (zeros 8 ++ drop (n * 8) s))
      ≡ table_of entry_row (length t) (take k (rows_of entry_row n t) ++ map (moved g) (drop (suc k) (rows_of entry_row n t)))
  row_out h is =
      let rs : List EntryRow = rows_of entry_row n t in
      let table = the-moved (suc k) h is in
      let count : length rs ≡ n = length-rows_of entry_row n t in
      let front : length (take (suc k) rs) ≡ suc k = length-take-le (suc k) rs (omega arith) in
      removed entry-lawful n s (holds-laid 8 n s table.holds) k h
      ∙ rw (
        table.size,
        table.spells,
        take-append-le k (take (suc k) rs) (map (moved g) (drop (suc k) rs)) (omega (arith, front)),
        take-take k (suc k) rs (omega arith),
        drop_at (take (suc k) rs) (map (moved g) (drop (suc k) rs)) (suc k) front,
      )
