-- A hash looked up in the entries: the row that has it, its index, and its cell.
-- Assumes nothing.
use Rattle.std.specs.Prelude.{◌≡◌, refl, true, ℕ, zero, suc, ◌+◌, ◌*◌, ◌≤◌, ◌<◌, length, take, drop, get_or, eqb}
use Rattle.std.proofs.Common.{sym, ap, ◌∙◌, arith, length-append, take-append-drop, take_at, drop_at, le-ltb, lt-ltb, eq-eqb, ne_eqb, eqb-true}
use Rattle.std.proofs.Math.Bool.{false}
use Rattle.std.proofs.Math.Option.{none, some}
use mathlib.Core.List.{List, [], ◌∷◌, ◌++◌, map, append_assoc}
use Rattle.std.proofs.Math.Decide.{dec_lt, ℕ_discrete}
use Rattle.std.proofs.lemmas.Bool.{eqb-false}
use Rattle.base.specs.Logic.{any, elem, flat, sorted_from}
use Rattle.base.specs.Maybe.{maybe}
use Rattle.base.specs.Laws.{and_left, and_right, ascending-sorted}
use Rattle.base.specs.SumLaws.{or_left, or_right}
use Rattle.base.specs.Answers.{Taken, Refused}
use Rattle.base.specs.declared.Refusal.TheVariants.{Broken}
use Rattle.slices.specs.Laws.{length_part}
use Rattle.rows.specs.Table.{rows_of}
use Rattle.rows.proofs.TableLaws.{row_at, length-rows_of}
use Rattle.rows.specs.Keys.{first_four, keys, place}
use Rattle.rows.proofs.KeyLaws.{length-keys, place_at}
use Rattle.rows.proofs.RowLaws.{elem-miss}
use Rattle.cell_nursery.specs.declared.Nursery.{Nursery}
use Rattle.cell_nursery.specs.Entries.{Entry}
use Rattle.cell_nursery.specs.Layout.{hash_of, EntryRow, entry_row, entry_of, cells_of, end_to_end, entries_of, holds_entries, holds_cells}
use Rattle.cell_nursery.specs.Calls.{found_of, lookup_call, cell_at, data_of, data_call}
use Rattle.cell_nursery.proofs.EntryLaws.{entry_at}
use Rattle.cell_nursery.proofs.LayoutLaws.{hashes-keys, ends-after, entries-held, cells_same}
use Rattle.cell_nursery.specs.Held.{CellsHeld, EntriesHeld}
use Rattle.cell_nursery.proofs.StepLaws.{lookup-hit, lookup-miss}
use Rattle.cell_nursery.proofs.CheckLaws.{entry-row}
use Rattle.cell_nursery.specs.Rows.{entry_at_row, index_of}

-- ---- the row of a hash

pub index-found : (x : ℕ) (ks : List ℕ) → index_of x ks < length ks → get_or ks (index_of x ks) 0 ≡ x
unfolding index_of
index-found x [] h = absurd (omega arith)
index-found x (k ∷ ks) h =
    elim (ℕ_discrete k x) [
      | yes m ↦ rw (eq-eqb k x m) m
      | no m ↦ rw (ne_eqb k x m) (index-found x ks (omega (arith, rw (ne_eqb k x m) at h)))
    ]

pub index-none : (x : ℕ) (ks : List ℕ) → length ks ≤ index_of x ks → elem x ks ≡ false
unfolding index_of any
index-none x [] h = refl
index-none x (k ∷ ks) h =
    elim (ℕ_discrete k x) [
      | yes m ↦ absurd (omega (arith, rw (eq-eqb k x m) at h))
      | no m ↦ rw (ne_eqb x k (λ q. m (sym q))) (index-none x ks (omega (arith, rw (ne_eqb k x m) at h)))
    ]

index-absent : (x : ℕ) (ks : List ℕ) → elem x ks ≡ false → index_of x ks ≡ length ks
unfolding index_of any
index-absent x [] a = refl
index-absent x (k ∷ ks) a =
    let ne = eqb-false x k (or_left _ _ a) in
    rw (ne_eqb k x (λ q. ne (sym q))) (ap suc (index-absent x ks (or_right (eqb x k) _ a)))

-- the place of x among keys in order, where x stands there
index-place : (x : ℕ) (ks : List ℕ) → place x ks < length ks → get_or ks (place x ks) 0 ≡ x → place x ks ≡ index_of x ks
unfolding index_of place
index-place x [] h m = refl
index-place x (k ∷ ks) h m =
    elim (dec_lt k x) [
      | yes l ↦ rw (lt-ltb k x l, ne_eqb k x (omega arith)) (ap suc (index-place x ks (omega (arith, rw (lt-ltb k x l) at h)) (rw (lt-ltb k x l) at m)))
      | no l ↦ rw (le-ltb k x (omega arith), eq-eqb k x (rw (le-ltb k x (omega arith)) at m))
    ]

-- what a search by halves finds
module _ (r : Nursery) (es : List ℕ) (x : EntriesHeld r es) (h k : ℕ) (here : k ≡ place h (keys first_four 8 r.entries es)) where
  number : length (keys first_four 8 r.entries es) ≡ r.entries
  number = length-keys first_four 8 r.entries es

  sorted : sorted_from 0 (keys first_four 8 r.entries es) ≡ true
  sorted = ascending-sorted 0 (keys first_four 8 r.entries es) x.hashes

  pub search-hit : (k < r.entries) → (h < get_or (keys first_four 8 r.entries es) k 0 → ⊥) → k ≡ index_of h (keys first_four 8 r.entries es)
  search-hit l m =
      let p : place h (keys first_four 8 r.entries es) < length (keys first_four 8 r.entries es) = omega (arith, number) in
      let le = place_at h (keys first_four 8 r.entries es) p in
      let n : h < get_or (keys first_four 8 r.entries es) (place h (keys first_four 8 r.entries es)) 0 → ⊥ = rw here at m in
      here ∙ index-place h (keys first_four 8 r.entries es) p (omega (arith, n))

  pub search-miss : (k < r.entries → h < get_or (keys first_four 8 r.entries es) k 0) → r.entries ≡ index_of h (keys first_four 8 r.entries es)
  search-miss m =
      let n : place h (keys first_four 8 r.entries es) < length (keys first_four 8 r.entries es) → get_or (keys first_four 8 r.entries es) (place h (keys first_four 8 r.entries es)) 0 ≡ h → ⊥ =
      λ p q. let l = rw here at (m (omega (arith, number))) in omega arith in
      sym (index-absent h (keys first_four 8 r.entries es) (elem-miss h 0 (keys first_four 8 r.entries es) sorted n) ∙ number)

-- ---- its index
module _ (r : Nursery) (es : List ℕ) (h : ℕ) where
  pub get-broken : holds_entries r es ≡ false → record { answer = Refused Broken; found = false; idx = record { 0 = 0 } } ≡ lookup_call r es h
  unfolding lookup_call found_of
  get-broken e = rw e

  module _ (ok : holds_entries r es ≡ true) (k : ℕ) (here : k ≡ index_of h (keys first_four 8 r.entries es)) where
    key_here : k < r.entries → get_or (keys first_four 8 r.entries es) k 0 ≡ h
    key_here l = rw here (index-found h (keys first_four 8 r.entries es) (omega (arith, length-keys first_four 8 r.entries es)))

    none_here : r.entries ≤ k → elem h (keys first_four 8 r.entries es) ≡ false
    none_here l = index-none h (keys first_four 8 r.entries es) (omega (arith, length-keys first_four 8 r.entries es))

    pub get-found : k < r.entries → record { answer = Taken; found = true; idx = record { 0 = get_or es (k * 8 + 4) 0 } } ≡ lookup_call r es h
    unfolding lookup_call found_of
    get-found l = rw (ok, lookup-hit r es [] (entries-held r es ok) h k l (key_here l))

    pub get_absent : r.entries ≤ k → record { answer = Taken; found = false; idx = record { 0 = 0 } } ≡ lookup_call r es h
    unfolding lookup_call found_of
    get_absent l = rw (ok, lookup-miss r es [] (entries-held r es ok) h (none_here l))

-- ---- its cell

-- a cell lies before the end of the cells
pub row_ends : (p last : ℕ) (rs : List EntryRow) (k : ℕ) (d : EntryRow) → end_to_end p last rs ≡ true → k < length rs → (get_or rs k d).place + (get_or rs k d).len ≤ last
unfolding end_to_end
row_ends p last [] k d e h = absurd (omega arith)
row_ends p last (r ∷ rs) zero d e h = omega (arith, eqb-true r.place p (and_left _ _ e), ends-after (p + r.len) last rs (and_right (eqb r.place p) _ e))
row_ends p last (r ∷ rs) (suc k) d e h = row_ends (p + r.len) last rs k d (and_right (eqb r.place p) _ e) (omega arith)

-- the first row with the hash says where its cell lies
cell-found : (h p last : ℕ) (rs : List EntryRow) (cs : List ℕ) (d : EntryRow) → end_to_end p last rs ≡ true → last ≤ length cs
    → index_of h (map (λ r. hash_of r.hash) rs) < length rs
    → cell_at h p (map (entry_of cs) rs) ≡ some ((get_or rs (index_of h (map (λ r. hash_of r.hash) rs)) d).place, (get_or rs (index_of h (map (λ r. hash_of r.hash) rs)) d).len)
unfolding end_to_end cell_at index_of
cell-found h p last [] cs d e f l = absurd (omega arith)
cell-found h p last (r ∷ rs) cs d e f l =
    let there : end_to_end (p + r.len) last rs ≡ true = and_right (eqb r.place p) _ e in
    let here : r.place ≡ p = eqb-true r.place p (and_left _ _ e) in
    let n : length (take r.len (drop r.place cs)) ≡ r.len = length_part cs r.place r.len (omega (arith, ends-after (p + r.len) last rs there)) in
    elim (ℕ_discrete (hash_of r.hash) h) [
      | yes m ↦ rw (eq-eqb (hash_of r.hash) h m, n, here)
      | no m ↦ rw (ne_eqb (hash_of r.hash) h m, n) (cell-found h (p + r.len) last rs cs d there f (omega (arith, rw (ne_eqb (hash_of r.hash) h m) at l)))
    ]

cell-absent : (h p : ℕ) (rs : List EntryRow) (cs : List ℕ) → elem h (map (λ r. hash_of r.hash) rs) ≡ false → cell_at h p (map (entry_of cs) rs) ≡ none
unfolding cell_at any
cell-absent h p [] cs a = refl
cell-absent h p (r ∷ rs) cs a =
    let ne = eqb-false h (hash_of r.hash) (or_left _ _ a) in
    rw (ne_eqb (hash_of r.hash) h (λ q. ne (sym q))) (cell-absent h (p + length (take r.len (drop r.place cs))) rs cs (or_right (eqb h (hash_of r.hash)) _ a))

-- row k of a table that holds entries
pub row_of : (n : ℕ) (t : List ℕ) (k : ℕ) (d : EntryRow) → k < n → get_or (rows_of entry_row n t) k d ≡ entry_at_row t k
row_of n t k d h = row_at entry_row n t k d h ∙ entry-row t k

pub cell-ends : (r : Nursery) (es : List ℕ) → EntriesHeld r es → (k : ℕ) → k < r.entries → get_or es (k * 8 + 6) 0 + get_or es (k * 8 + 7) 0 ≤ r.cell_bytes
cell-ends r es x k l =
    let d : EntryRow = entry_row.dec [] in
    rw (row_of r.entries es k d l) at (row_ends 0 r.cell_bytes (rows_of entry_row r.entries es) k d x.places (rw (length-rows_of entry_row r.entries es) l))

module _ (r : Nursery) (es cs : List ℕ) (h : ℕ) where
  pub data-not-entries : holds_entries r es ≡ false → record { answer = Refused Broken; found = false; place = 0; len = 0 } ≡ data_call r es cs h
  unfolding data_call data_of
  data-not-entries e = rw e

  pub data-not-cells : holds_entries r es ≡ true → holds_cells r cs ≡ false → record { answer = Refused Broken; found = false; place = 0; len = 0 } ≡ data_call r es cs h
  unfolding data_call data_of
  data-not-cells e f = rw (e, f)

  module _ (x : EntriesHeld r es) (z : CellsHeld r cs) (a : holds_entries r es ≡ true) (b : holds_cells r cs ≡ true) (k : ℕ) (here : k ≡ index_of h (keys first_four 8 r.entries es)) where
    pub data-found : k < r.entries → record { answer = Taken; found = true; place = get_or es (k * 8 + 6) 0; len = get_or es (k * 8 + 7) 0 } ≡ data_call r es cs h
    unfolding data_call data_of entries_of
    data-found l =
        let rs = rows_of entry_row r.entries es in
        let d : EntryRow = entry_row.dec [] in
        let same : index_of h (map (λ q. hash_of q.hash) rs) ≡ k = rw (hashes-keys r.entries es) (sym here) in
        let at : cell_at h 0 (map (entry_of cs) rs) ≡ some ((get_or rs k d).place, (get_or rs k d).len) =
        rw same at (cell-found h 0 r.cell_bytes rs cs d x.places z.fits (rw (same, length-rows_of entry_row r.entries es) l)) in
        rw (a, b, at, row_of r.entries es k d l)

    pub data-absent : r.entries ≤ k → record { answer = Taken; found = false; place = 0; len = 0 } ≡ data_call r es cs h
    unfolding data_call data_of entries_of
    data-absent l =
        let no : elem h (keys first_four 8 r.entries es) ≡ false = index-none h (keys first_four 8 r.entries es) (omega (arith, length-keys first_four 8 r.entries es)) in
        rw (a, b, cell-absent h 0 (rows_of entry_row r.entries es) cs (rw (hashes-keys r.entries es) no))

-- the part of the cells at that place is the entry's cell
part_of : (h : ℕ) (pre post : List ℕ) (es : List Entry)
    → maybe none (λ (c : ℕ × ℕ). some (take c.1 (drop c.0 (pre ++ (cells_of es ++ post))))) (cell_at h (length pre) es) ≡ maybe none (λ e. some e.cell) (entry_at h es)
unfolding cell_at entry_at cells_of flat
part_of h pre post [] = refl
part_of h pre post (e ∷ es) =
    let rest = part_of h (pre ++ e.cell) post es in
    elim (ℕ_discrete e.hash h) [
      | yes m ↦ rw (eq-eqb e.hash h m, append_assoc e.cell (cells_of es) post, drop_at pre (e.cell ++ (cells_of es ++ post)) (length pre) refl, take_at e.cell (cells_of es ++ post) (length e.cell) refl)
      | no m ↦ rw (ne_eqb e.hash h m, append_assoc e.cell (cells_of es) post) (rw (append_assoc pre e.cell (cells_of es ++ post), length-append pre e.cell) at rest)
    ]

pub data-cell : (r : Nursery) (es cs : List ℕ) (h : ℕ) → EntriesHeld r es → CellsHeld r cs
    → maybe none (λ (c : ℕ × ℕ). some (take c.1 (drop c.0 cs))) (cell_at h 0 (entries_of r.entries es cs)) ≡ maybe none (λ e. some e.cell) (entry_at h (entries_of r.entries es cs))
data-cell r es cs h x z =
    let whole : cells_of (entries_of r.entries es cs) ++ drop r.cell_bytes cs ≡ cs = rw (cells_same r es cs x z) (take-append-drop r.cell_bytes cs) in
    let p = part_of h [] (drop r.cell_bytes cs) (entries_of r.entries es cs) in
    ap (λ (l : List ℕ). maybe none (λ (c : ℕ × ℕ). some (take c.1 (drop c.0 l))) (cell_at h 0 (entries_of r.entries es cs))) (sym whole) ∙ p
