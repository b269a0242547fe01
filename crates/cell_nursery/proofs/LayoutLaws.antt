-- A record and tables hold a state exactly when they are the record and the tables of one: `held` and `holds-laid`.
-- Assumes nothing.
use Rattle.std.specs.Prelude.{◌≡◌, refl, ◌&&◌, ℕ, zero, suc, ◌+◌, ◌-◌, ◌/◌, ◌^◌, ◌≤◌, min, length, take, drop, ltb, eqb}
use Rattle.std.proofs.Math.Path.{sym, ap}
use Rattle.std.proofs.Common.{◌∙◌, arith, length-append, length-take, length-drop, take-append-drop, take_at, take-add, drop-drop, length-take-le}
use Rattle.std.proofs.Math.Bool.{true}
use mathlib.Core.List.{List, [], ◌∷◌, ◌++◌, map, map-map, append_assoc}
use Rattle.std.proofs.Math.Nat.{sub-zero}
use Rattle.std.proofs.lemmas.List.{length-replicate}
use Rattle.std.proofs.Math.ListN.{length-map}
use Rattle.std.proofs.Math.Seq.{drop_at}
use Rattle.std.proofs.Math.Dec.{leb}
use borrow.Author.Tests.{le-leb, leb-true, eqb-true, eq-eqb, lt-ltb, ltb-true}
use Rattle.base.specs.Logic.{all, flat, sum_of, zeros, ascending, sorted_from}
use Rattle.base.specs.Laws.{and_left, and_right, and_both, zeros-all_zero, all_zero-zeros}
use Rattle.rows.specs.Table.{rows_of, holds_rows}
use Rattle.rows.specs.Keys.{first_word, first_four, keys}
use Rattle.rows.proofs.TableLaws as rows
use Rattle.rows.proofs.TableLaws.{length-rows_of, table-rows_of}
use Rattle.rows.proofs.KeyLaws.{keys-rows_of}
use Rattle.cell_nursery.specs.declared.Nursery.{Nursery}
use Rattle.cell_nursery.specs.Entries.{Entry, Waiting, State, cell_bytes}
use Rattle.cell_nursery.specs.Layout.{hash_of, hash_at, EntryRow, entry_row, waiting_row, entry_of, waiting_row_of, waiter_of, entry_rows, cells_of, record_of, entries_table, waiting_table, cells_table, room_of, entries_of, waiting_of, state_of, end_to_end, in_bounds, by_hash, by_round, delay_in_range, holds_entries, holds_waiting, holds_cells, holds}
use Rattle.cell_nursery.proofs.CodingLaws.{entry-lawful, waiting-lawful}
use Rattle.base.specs.ListLaws.{all_weaker}
use Rattle.base.specs.SumLaws.{all_map}
use Rattle.rows.proofs.RowLaws.{IsTable, is-table}
use Rattle.cell_nursery.proofs.ItemLaws.{item-fits, fits-item}
use Rattle.cell_nursery.proofs.WaitLaws.{tied-few}
use Rattle.cell_nursery.proofs.HashLaws.{hash-words, words-hash, hash-small, u64-drop, words-at, hash-first}
use Rattle.cell_nursery.specs.Held.{CellsHeld, EntriesHeld, WaitingHeld, fits_item, U64, fits_waiting, WellFormed, Held}

-- ---- the tests as facts

-- the keys that a table's words spell are its rows' hashes, or rounds
pub hashes-keys : (n : ℕ) (t : List ℕ) → map (λ r. hash_of r.hash) (rows_of entry_row n t) ≡ keys first_four 8 n t
hashes-keys n t = keys-rows_of entry_row (λ r. hash_of r.hash) first_four hash-first n t

pub rounds-keys : (n : ℕ) (t : List ℕ) → map (λ r. r.born) (rows_of waiting_row n t) ≡ keys first_word 5 n t
rounds-keys n t = keys-rows_of waiting_row (λ r. r.born) first_word (λ u. refl) n t

-- what each table's test says
module _ (r : Nursery) (t : List ℕ) where
  pub entries-held : holds_entries r t ≡ true → EntriesHeld r t
  unfolding holds_entries by_hash
  entries-held e =
      let rs = rows_of entry_row r.entries t in
      let a = ascending (map (λ x. hash_of x.hash) rs) in
      let tables = and_left (holds_rows 8 r.entries t && by_hash r.cell_bytes rs) _ e in
      let laid = rows.holds-laid 8 r.entries t (and_left _ _ tables) in
      let abc = and_right (holds_rows 8 r.entries t) _ tables in
      let ab = and_left (a && all in_bounds rs) _ abc in
      record {
        laid = laid;
        hashes = rw (← hashes-keys r.entries t) (and_left _ _ ab);
        bounds = and_right a _ ab;
        places = and_right (a && all in_bounds rs) _ abc;
        delay = and_right (holds_rows 8 r.entries t && by_hash r.cell_bytes rs) _ e;
      }

  pub waiting-held : holds_waiting r t ≡ true → WaitingHeld r t
  unfolding holds_waiting by_round
  waiting-held e =
      let a = sorted_from 0 (map (λ x. x.born) (rows_of waiting_row r.waiting t)) in
      let ab = and_right (holds_rows 5 r.waiting t) _ e in
      record {
        laid = rows.holds-laid 5 r.waiting t (and_left _ _ e);
        rounds = rw (← rounds-keys r.waiting t) (and_left _ _ ab);
        bounds = and_right a _ ab;
      }

  pub cells-held : holds_cells r t ≡ true → CellsHeld r t
  unfolding holds_cells
  cells-held e =
      let n = r.cell_bytes in
      record {
        fits = leb-true n (length t) (and_left _ _ e);
        rest = all_zero-zeros (drop n t) (and_right (leb n (length t)) _ e) ∙ ap (λ (k : ℕ). zeros k) (length-drop n t);
      }

-- ---- the tables of what tables spell

pub length-cells : (es : List Entry) → length (cells_of es) ≡ cell_bytes es
unfolding cells_of cell_bytes flat sum_of
length-cells [] = refl
length-cells (e ∷ es) = simp (length-append, length-cells es)

-- the cells end behind where they start
pub ends-after : (p last : ℕ) (rs : List EntryRow) → end_to_end p last rs ≡ true → p ≤ last
unfolding end_to_end
ends-after p last [] e = omega (arith, eqb-true p last e)
ends-after p last (r ∷ rs) e = omega (arith, ends-after (p + r.len) last rs (and_right (eqb r.place p) _ e))

-- rows whose cells lie end to end are those of their entries
rows-entries : (n p last : ℕ) (t cs : List ℕ) → U64 t → end_to_end p last (rows_of entry_row n t) ≡ true → last ≤ length cs
    → entry_rows p (map (entry_of cs) (rows_of entry_row n t)) ≡ rows_of entry_row n t
unfolding rows_of entry_rows end_to_end
rows-entries zero p last t cs u e h = refl
rows-entries (suc n) p last t cs u e h =
    let r : EntryRow = entry_row.dec t in
    let rs = rows_of entry_row n (drop 8 t) in
    let here = eqb-true r.place p (and_left _ _ e) in
    let there = and_right (eqb r.place p) _ e in
    let f = ends-after (p + r.len) last rs there in
    let l : length (take r.len (drop r.place cs)) ≡ r.len = simp (length-take, length-drop) (omega arith) in
    rw (words-hash (hash_at 0 t) (words-at 0 t u), l, rows-entries n (p + r.len) last (drop 8 t) cs (u64-drop 8 t u) there h, ← here)

-- their cells are what lies between the two places
cells-entries : (p last : ℕ) (rs : List EntryRow) (cs : List ℕ) → end_to_end p last rs ≡ true
    → cells_of (map (entry_of cs) rs) ≡ take (last - p) (drop p cs)
unfolding cells_of end_to_end flat
cells-entries p last [] cs e = let z : last - p ≡ 0 = omega (arith, eqb-true p last e) in rw z
cells-entries p last (r ∷ rs) cs e =
    let there = and_right (eqb r.place p) _ e in
    let f = ends-after (p + r.len) last rs there in
    let q : last - p ≡ r.len + (last - (p + r.len)) = omega arith in
    rw (
      eqb-true r.place p (and_left _ _ e),
      cells-entries (p + r.len) last rs cs there,
      q,
      take-add r.len (last - (p + r.len)) (drop p cs),
      drop-drop r.len p cs,
    )

-- waiting rows are those of what waits
rows-waiters : (n : ℕ) (t : List ℕ) → U64 t → map waiting_row_of (map waiter_of (rows_of waiting_row n t)) ≡ rows_of waiting_row n t
unfolding rows_of
rows-waiters zero t u = refl
rows-waiters (suc n) t u = rw (words-hash (hash_at 1 t) (words-at 1 t u), rows-waiters n (drop 5 t) (u64-drop 5 t u))

-- ---- the states that tables can hold

entries_fit : (n : ℕ) (t cs : List ℕ) → U64 t → all in_bounds (rows_of entry_row n t) ≡ true → all fits_item (map (entry_of cs) (rows_of entry_row n t)) ≡ true
unfolding rows_of all
entries_fit zero t cs u e = refl
entries_fit (suc n) t cs u e =
    let r : EntryRow = entry_row.dec t in
    let ab = and_left (in_bounds r) _ e in
    let long = leb-true r.len 65535 (and_right (ltb r.born (2 ^ 32)) _ ab) in
    and_both _ _
    (fits-item (entry_of cs r)
    (record {
      hash = hash-small (hash_at 0 t) (words-at 0 t u);
      idx = u 4;
      born = ltb-true r.born (2 ^ 32) (and_left _ _ ab);
      cell = simp length-take (omega arith);
    }))
    (entries_fit n (drop 8 t) cs (u64-drop 8 t u) (and_right (in_bounds r) _ e))

waiters-fit : (n : ℕ) (t : List ℕ) → U64 t → all (λ x. ltb x.born (2 ^ 32)) (rows_of waiting_row n t) ≡ true
    → all fits_waiting (map waiter_of (rows_of waiting_row n t)) ≡ true
unfolding rows_of all fits_waiting
waiters-fit zero t u e = refl
waiters-fit (suc n) t u e =
    let a = ltb (first_word t) (2 ^ 32) in
    rw (
      lt-ltb (hash_of (hash_at 1 t)) (2 ^ 256) (hash-small (hash_at 1 t) (words-at 1 t u)),
      and_left a _ e,
      waiters-fit n (drop 5 t) (u64-drop 5 t u) (and_right a _ e),
    )

-- ---- what holds a state

module _ (r : Nursery) (es cs : List ℕ) where
  pub number-entries : length (entries_of r.entries es cs) ≡ r.entries
  unfolding entries_of
  number-entries = length-map (rows_of entry_row r.entries es) (entry_of cs) ∙ length-rows_of entry_row r.entries es

  module _ (x : EntriesHeld r es) where
    -- the keys in the table are the hashes of the entries
    pub entries-keys : map (λ e. e.hash) (entries_of r.entries es cs) ≡ keys first_four 8 r.entries es
    unfolding entries_of
    entries-keys = map-map (λ e. e.hash) (entry_of cs) (rows_of entry_row r.entries es) ∙ hashes-keys r.entries es

    module _ (z : CellsHeld r cs) where
      pub cells_same : cells_of (entries_of r.entries es cs) ≡ take r.cell_bytes cs
      unfolding entries_of
      cells_same = cells-entries 0 r.cell_bytes (rows_of entry_row r.entries es) cs x.places ∙ rw sub-zero

      pub bytes_same : cell_bytes (entries_of r.entries es cs) ≡ r.cell_bytes
      bytes_same = sym (length-cells (entries_of r.entries es cs)) ∙ ap length cells_same ∙ length-take-le r.cell_bytes cs z.fits

      pub rows_same : U64 es → entry_rows 0 (entries_of r.entries es cs) ≡ rows_of entry_row r.entries es
      unfolding entries_of
      rows_same u = rows-entries r.entries 0 r.cell_bytes es cs u x.places z.fits

module _ (r : Nursery) (ws : List ℕ) where
  pub number-waiting : length (waiting_of r.waiting ws) ≡ r.waiting
  unfolding waiting_of
  number-waiting = length-map (rows_of waiting_row r.waiting ws) waiter_of ∙ length-rows_of waiting_row r.waiting ws

  -- the keys in the table are the rounds of what waits
  pub waiting-keys : map (λ w. w.born) (waiting_of r.waiting ws) ≡ keys first_word 5 r.waiting ws
  unfolding waiting_of
  waiting-keys = map-map (λ w. w.born) waiter_of (rows_of waiting_row r.waiting ws) ∙ rounds-keys r.waiting ws

  pub waiters-same : U64 ws → map waiting_row_of (waiting_of r.waiting ws) ≡ rows_of waiting_row r.waiting ws
  unfolding waiting_of
  waiters-same v = rows-waiters r.waiting ws v

module _ (r : Nursery) (es ws cs : List ℕ) where
  pub held : U64 es → U64 ws → holds r es ws cs ≡ true → Held r es ws cs
  unfolding holds room_of record_of state_of entries_table waiting_table cells_table entries_of waiting_of
  held u v e =
      let abcd = and_left (holds_entries r es && holds_waiting r ws && holds_cells r cs && leb r.entries (min (length es / 8) (length ws / 5))) _ e in
      let abc = and_left (holds_entries r es && holds_waiting r ws && holds_cells r cs) _ abcd in
      let ab = and_left (holds_entries r es && holds_waiting r ws) _ abc in
      let x = entries-held r es (and_left _ _ ab) in
      let y = waiting-held r ws (and_right (holds_entries r es) _ ab) in
      let z = cells-held r cs (and_right (holds_entries r es && holds_waiting r ws) _ abc) in
      let ties = and_right (holds_entries r es && holds_waiting r ws && holds_cells r cs && leb r.entries (min (length es / 8) (length ws / 5))) _ e in
      let hashes : ascending (map (λ (q : Entry). q.hash) (entries_of r.entries es cs)) ≡ true = rw (entries-keys r es cs x) x.hashes in
      record {
        entries = x;
        waiting = y;
        cells = z;
        room = leb-true r.entries _ (and_right (holds_entries r es && holds_waiting r ws && holds_cells r cs) _ abcd);
        fewer = rw (number-entries r es cs, number-waiting r ws) at (tied-few (state_of r es ws cs) hashes ties);
        well =
            record {
              hashes = hashes;
              entries = entries_fit r.entries es cs u x.bounds;
              rounds = rw (waiting-keys r ws) y.rounds;
              waiting = waiters-fit r.waiting ws v y.bounds;
              ties = ties;
            };
        same_record = rw (number-entries r es cs, number-waiting r ws, bytes_same r es cs x z);
        same_entries = rw (rows_same r es cs x z u) (table-rows_of entry-lawful r.entries es x.laid);
        same_waiting = rw (waiters-same r ws v) (table-rows_of waiting-lawful r.waiting ws y.laid);
        same_cells = rw (cells_same r es cs x z, bytes_same r es cs x z, ← z.rest) (take-append-drop r.cell_bytes cs);
      }

-- ---- the other way: the record and the tables of a state hold it

pub length-entry_rows : (p : ℕ) (es : List Entry) → length (entry_rows p es) ≡ length es
unfolding entry_rows
length-entry_rows p [] = refl
length-entry_rows p (e ∷ es) = ap suc (length-entry_rows (p + length e.cell) es)

-- the entries of their rows, with the cells between other bytes
entries-rows : (pre post : List ℕ) (es : List Entry) → all fits_item es ≡ true
    → map (entry_of (pre ++ (cells_of es ++ post))) (entry_rows (length pre) es) ≡ es
unfolding entry_rows cells_of flat all
entries-rows pre post [] ok = refl
entries-rows pre post (e ∷ es) ok =
    let rest = entries-rows (pre ++ e.cell) post es (and_right (fits_item e) _ ok) in
    rw (
      append_assoc e.cell (cells_of es) post,
      hash-words e.hash (item-fits e (and_left _ _ ok)).hash,
      drop_at pre (e.cell ++ (cells_of es ++ post)) (length pre) refl,
      take_at e.cell (cells_of es ++ post) (length e.cell) refl,
    )
    (ap (λ (x : List Entry). e ∷ x) (rw (append_assoc pre e.cell (cells_of es ++ post), length-append pre e.cell, ← append_assoc e.cell (cells_of es) post) at rest))

rows-bounds : (p : ℕ) (es : List Entry) → all fits_item es ≡ true → all in_bounds (entry_rows p es) ≡ true
unfolding entry_rows all
rows-bounds p [] ok = refl
rows-bounds p (e ∷ es) ok =
    let f = item-fits e (and_left _ _ ok) in
    rw (
      lt-ltb e.born (2 ^ 32) f.born,
      le-leb (length e.cell) 65535 f.cell,
      rows-bounds (p + length e.cell) es (and_right (fits_item e) _ ok),
    )

rows_end : (p last : ℕ) (es : List Entry) → p + cell_bytes es ≡ last → end_to_end p last (entry_rows p es) ≡ true
unfolding entry_rows end_to_end cell_bytes sum_of
rows_end p last [] q = eq-eqb p last (omega arith)
rows_end p last (e ∷ es) q = rw (eq-eqb p p refl) (rows_end (p + length e.cell) last es (omega arith))

waiters-rows : (ws : List Waiting) → all fits_waiting ws ≡ true → map waiter_of (map waiting_row_of ws) ≡ ws
unfolding all fits_waiting
waiters-rows [] ok = refl
waiters-rows (w ∷ ws) ok =
    let h = ltb-true w.hash (2 ^ 256) (and_left _ _ (and_left (fits_waiting w) _ ok)) in
    rw (hash-words w.hash h, waiters-rows ws (and_right (fits_waiting w) _ ok))

waiting-bounds : (ws : List Waiting) → all fits_waiting ws ≡ true → all (λ x. ltb x.born (2 ^ 32)) (map waiting_row_of ws) ≡ true
unfolding fits_waiting
waiting-bounds ws ok =
    all_map (λ x. ltb x.born (2 ^ 32)) waiting_row_of ws
    ∙ all_weaker (λ w. ltb w.born (2 ^ 32)) fits_waiting (λ w f. and_right (ltb w.hash (2 ^ 256)) _ f) ws ok

-- tables of given lengths with room for the state
module _ (s : State) (le lw lc : ℕ) (ok : WellFormed s) (room : length s.entries ≤ min (le / 8) (lw / 5)) (cells : cell_bytes s.entries ≤ lc) where
  the-entries : IsTable entry_row (length s.entries) le (entry_rows 0 s.entries) (entries_table le s)
  unfolding entries_table
  the-entries = is-table entry-lawful (length s.entries) le (entry_rows 0 s.entries) (length-entry_rows 0 s.entries) (omega arith)

  the-waiting : IsTable waiting_row (length s.waiting) lw (map waiting_row_of s.waiting) (waiting_table lw s)
  unfolding waiting_table
  the-waiting =
      is-table waiting-lawful (length s.waiting) lw (map waiting_row_of s.waiting) (length-map s.waiting waiting_row_of)
      (omega (arith, tied-few s ok.hashes ok.ties))

  -- they are as long as they were
  pub length-entries_table : length (entries_table le s) ≡ le
  length-entries_table = the-entries.size

  pub length-waiting_table : length (waiting_table lw s) ≡ lw
  length-waiting_table = the-waiting.size

  pub length-cells_table : length (cells_table lc s) ≡ lc
  unfolding cells_table
  length-cells_table = simp (length-append, length-cells, length-replicate) (omega arith)

  entries-back : map (entry_of (cells_table lc s)) (entry_rows 0 s.entries) ≡ s.entries
  unfolding cells_table
  entries-back = entries-rows [] (zeros (lc - cell_bytes s.entries)) s.entries ok.entries

  -- under a delay
  module _ (delay : ℕ) where
    pub state_of-laid : state_of (record_of delay s) (entries_table le s) (waiting_table lw s) (cells_table lc s) ≡ s
    unfolding state_of record_of entries_of waiting_of
    state_of-laid = rw (the-entries.spells, entries-back, the-waiting.spells, waiters-rows s.waiting ok.waiting)

    pub waiting-laid : holds_waiting (record_of delay s) (waiting_table lw s) ≡ true
    unfolding holds_waiting record_of by_round
    waiting-laid =
        rw (the-waiting.holds, the-waiting.spells, map-map (λ r. r.born) waiting_row_of s.waiting, ok.rounds)
        (waiting-bounds s.waiting ok.waiting)

    pub cells-laid : holds_cells (record_of delay s) (cells_table lc s) ≡ true
    unfolding holds_cells record_of cells_table
    cells-laid =
        let n = cell_bytes s.entries in
        rw (length-cells_table, le-leb n lc cells, drop_at (cells_of s.entries) (zeros (lc - n)) n (length-cells s.entries)) (zeros-all_zero (lc - n))

    -- that is in range
    module _ (in_range : delay_in_range delay ≡ true) where
      pub entries-laid : holds_entries (record_of delay s) (entries_table le s) ≡ true
      unfolding holds_entries record_of by_hash
      entries-laid =
          let hashes : map (λ r. hash_of r.hash) (entry_rows 0 s.entries) ≡ map (λ e. e.hash) s.entries =
          sym (map-map (λ e. e.hash) (entry_of (cells_table lc s)) (entry_rows 0 s.entries)) ∙ ap (λ (es : List Entry). map (λ e. e.hash) es) entries-back in
          rw (the-entries.holds, the-entries.spells, hashes, ok.hashes, rows-bounds 0 s.entries ok.entries, rows_end 0 (cell_bytes s.entries) s.entries (omega arith))
          in_range

      pub holds-laid : holds (record_of delay s) (entries_table le s) (waiting_table lw s) (cells_table lc s) ≡ true
      unfolding holds room_of
      holds-laid =
          rw (entries-laid, waiting-laid, cells-laid, the-entries.size, the-waiting.size, state_of-laid, le-leb (record_of delay s).entries (min (le / 8) (lw / 5)) (unfold record_of in room))
          ok.ties

      -- the words being u64, which a slice's are
      pub held-laid : U64 (entries_table le s) → U64 (waiting_table lw s) → Held (record_of delay s) (entries_table le s) (waiting_table lw s) (cells_table lc s)
      held-laid u v = held (record_of delay s) (entries_table le s) (waiting_table lw s) (cells_table lc s) u v holds-laid
