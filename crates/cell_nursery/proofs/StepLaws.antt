-- What an insert and a remove do to the rows and the cells, at the place that a search gives.
-- Assumes nothing.
use Rattle.std.specs.Prelude.{◌≡◌, refl, Bool, true, false, ℕ, zero, suc, ◌+◌, ◌-◌, ◌*◌, ◌≤◌, ◌<◌, take, get_or, eqb}
use Rattle.std.proofs.Math.Path.{sym, ap}
use Rattle.std.proofs.Common.{◌∙◌, take-append-drop, take_at, drop_at, take_all, take-add, take-suc, take-take, drop-drop, length-take-le}
use Rattle.std.proofs.Math.Bool.{not}
use Rattle.std.proofs.Math.Option.{none, some}
use mathlib.Core.List.{List, [], ◌∷◌, ◌++◌, map, append_assoc}
use Rattle.std.proofs.Math.Nat.{zero-add}
use native.Mathlib.Omega.{arith}
use Rattle.std.proofs.Math.ListN.{length, drop, get_or-map}
use Rattle.std.proofs.lemmas.List.{replicate-append-replicate}
use Rattle.std.proofs.Math.Seq.{get_or-drop}
use Rattle.base.specs.Logic.{pick, keep, elem, flat, sum_of, zeros, ascending, sorted_from}
use Rattle.base.specs.Laws.{drop-zeros, flat_append, ascending-sorted}
use Rattle.rows.specs.Table.{rows_of, table_of}
use Rattle.rows.proofs.TableLaws.{row_at}
use Rattle.rows.specs.Keys.{first_word, first_four, keys, place}
use Rattle.rows.proofs.KeyLaws.{put_rows, length-keys, put_rows-places}
use Rattle.rows.proofs.PutLaws.{put-inserted}
use Rattle.cell_nursery.specs.declared.Nursery.{Nursery}
use Rattle.cell_nursery.specs.Entries.{Entry, Waiting, cell_bytes, put_entry, put_waiting, insert, remove}
use Rattle.cell_nursery.specs.Drain.{lookup}
use Rattle.cell_nursery.specs.Layout.{hash_of, hash_at, EntryRow, entry_row, WaitingRow, waiting_row, entry_row_of, entry_of, waiting_row_of, waiter_of, entry_rows, cells_of, entries_table, waiting_table, cells_table, entries_of, waiting_of, state_of}
use Rattle.base.specs.SumLaws.{sum-append}
use Rattle.rows.proofs.RowLaws.{elem-miss, put-absent, keep_all, keep-hit, map-put}
use Rattle.cell_nursery.proofs.HashLaws.{words-hash, u64-drop, words-at}
use Rattle.cell_nursery.proofs.PutLaws.{put_waiting-rows}
use Rattle.cell_nursery.proofs.EntryLaws.{lookup-entry_at, entry_at-hit, entry_at-miss, bytes-insert}
use Rattle.cell_nursery.proofs.LayoutLaws.{length-cells, number-entries, entries-keys, cells_same, bytes_same, rows_same, waiters-same}
use Rattle.cell_nursery.specs.Held.{CellsHeld, EntriesHeld, WaitingHeld, U64}
use Rattle.cell_nursery.proofs.CodingLaws.{waiting-lawful}
use Rattle.cell_nursery.specs.Rows.{earlier, later}

-- ---- the entries and the waiting rows
module _ (es : List Entry) (o : ascending (map (λ x. x.hash) es) ≡ true) where
  -- an absent hash goes in at its place
  pub entries-put : (e : Entry) (k : ℕ) → k ≡ place e.hash (map (λ x. x.hash) es) → elem e.hash (map (λ x. x.hash) es) ≡ false
      → put_entry e es ≡ take k es ++ e ∷ drop k es
  unfolding put_entry put_rows
  entries-put e k here a = put-absent (λ x. x.hash) e.hash (e ∷ []) es (ascending-sorted 0 (map (λ x. x.hash) es) o) a ∙ rw (← here)

  -- the entry that stands at its place goes
  pub entries-hit : (h k : ℕ) → k ≡ place h (map (λ x. x.hash) es) → k < length es → get_or (map (λ x. x.hash) es) k 0 ≡ h
      → keep (λ e. not (eqb e.hash h)) es ≡ take k es ++ drop (suc k) es
  entries-hit h k here l m = keep-hit (λ x. x.hash) h es k o here l m

pub waiting-put : (ws : List Waiting) → sorted_from 0 (map (λ x. x.born) ws) ≡ true → (w : Waiting) (k : ℕ) → k ≡ place (suc w.born) (map (λ x. x.born) ws)
    → put_waiting w ws ≡ take k ws ++ w ∷ drop k ws
waiting-put ws o w k here = put_waiting-rows w ws ∙ put_rows-places (λ x. x.born) (suc w.born) (suc w.born) (w ∷ []) ws o ∙ rw (← here)

-- ---- the rows of the entries

pub bytes-append : (xs ys : List Entry) → cell_bytes (xs ++ ys) ≡ cell_bytes xs + cell_bytes ys
unfolding cell_bytes
bytes-append xs ys = sum-append (λ e. length e.cell) xs ys

pub rows_append : (p : ℕ) (xs ys : List Entry) → entry_rows p (xs ++ ys) ≡ entry_rows p xs ++ entry_rows (p + cell_bytes xs) ys
unfolding entry_rows cell_bytes sum_of
rows_append p [] ys = let q : p + 0 ≡ p = omega arith in rw q
rows_append p (x ∷ xs) ys =
    let q : p + length x.cell + cell_bytes xs ≡ p + (length x.cell + cell_bytes xs) = omega arith in
    rw (rows_append (p + length x.cell) xs ys, q)

pub rows-later : (p d : ℕ) (es : List Entry) → map (later d) (entry_rows p es) ≡ entry_rows (p + d) es
unfolding entry_rows
rows-later p d [] = refl
rows-later p d (e ∷ es) =
    let q : p + length e.cell + d ≡ p + d + length e.cell = omega arith in
    rw (rows-later (p + length e.cell) d es, q)

pub rows-earlier : (p d : ℕ) (es : List Entry) → map (earlier d) (entry_rows (p + d) es) ≡ entry_rows p es
unfolding entry_rows
rows-earlier p d [] = refl
rows-earlier p d (e ∷ es) =
    let q : p + d + length e.cell ≡ p + length e.cell + d = omega arith in
    let b : p + d - d ≡ p = omega arith in
    rw (b, q, rows-earlier (p + length e.cell) d es)

take-rows : (k p : ℕ) (es : List Entry) → take k (entry_rows p es) ≡ entry_rows p (take k es)
unfolding entry_rows
take-rows zero p es = refl
take-rows (suc k) p [] = refl
take-rows (suc k) p (e ∷ es) = rw (take-rows k (p + length e.cell) es)

drop-rows : (k p : ℕ) (es : List Entry) → drop k (entry_rows p es) ≡ entry_rows (p + cell_bytes (take k es)) (drop k es)
unfolding entry_rows cell_bytes sum_of
drop-rows zero p es = let q : p + 0 ≡ p = omega arith in rw q
drop-rows (suc k) p [] = refl
drop-rows (suc k) p (e ∷ es) =
    let q : p + length e.cell + cell_bytes (take k es) ≡ p + (length e.cell + cell_bytes (take k es)) = omega arith in
    drop-rows k (p + length e.cell) es ∙ rw q

-- the bytes of the cells before row k
abbrev pub bytes_before : ℕ → List Entry → ℕ
bytes_before k es = cell_bytes (take k es)

-- row k
pub rows_at : (k p : ℕ) (es : List Entry) (d : Entry) (r : EntryRow) → k < length es → get_or (entry_rows p es) k r ≡ entry_row_of (p + bytes_before k es) (get_or es k d)
unfolding entry_rows cell_bytes sum_of
rows_at k p [] d r l = absurd (omega arith)
rows_at zero p (e ∷ es) d r l = let q : p + 0 ≡ p = omega arith in rw q
rows_at (suc k) p (e ∷ es) d r l =
    let q : p + length e.cell + bytes_before k es ≡ p + (length e.cell + bytes_before k es) = omega arith in
    rows_at k (p + length e.cell) es d r (omega arith) ∙ rw q

module _ (es : List Entry) (k : ℕ) where
  from-rows : drop k (entry_rows 0 es) ≡ entry_rows (bytes_before k es) (drop k es)
  from-rows = rw (drop-rows k 0 es, zero-add (bytes_before k es))

  -- the cells before row k, and those from it on
  cells-split : cells_of es ≡ cells_of (take k es) ++ cells_of (drop k es)
  unfolding cells_of
  cells-split = ap (λ (x : List Entry). flat (λ e. e.cell) x) (sym (take-append-drop k es)) ∙ flat_append (λ e. e.cell) (take k es) (drop k es)

  bytes-split : bytes_before k es + cell_bytes (drop k es) ≡ cell_bytes es
  bytes-split = sym (bytes-append (take k es) (drop k es)) ∙ rw (take-append-drop k es)

  pub cells-before : take (bytes_before k es) (cells_of es) ≡ cells_of (take k es)
  cells-before = rw cells-split (take_at (cells_of (take k es)) (cells_of (drop k es)) (bytes_before k es) (length-cells (take k es)))

  pub cells-from : drop (bytes_before k es) (cells_of es) ≡ cells_of (drop k es)
  cells-from = rw cells-split (drop_at (cells_of (take k es)) (cells_of (drop k es)) (bytes_before k es) (length-cells (take k es)))

module _ (es : List Entry) (k : ℕ) where
  -- an entry goes in before row k: its cell goes in there, and the places of those behind it grow by its length
  pub rows-put : (e : Entry) → entry_rows 0 (take k es ++ e ∷ drop k es)
      ≡ take k (entry_rows 0 es) ++ entry_row_of (bytes_before k es) e ∷ map (later (length e.cell)) (drop k (entry_rows 0 es))
  unfolding entry_rows
  rows-put e =
      rw (
        rows_append 0 (take k es) (e ∷ drop k es),
        zero-add (bytes_before k es),
        take-rows k 0 es,
        from-rows es k,
        rows-later (bytes_before k es) (length e.cell) (drop k es),
      )

  pub cells-put : (e : Entry) → cells_of (take k es ++ e ∷ drop k es) ≡ take (bytes_before k es) (cells_of es) ++ (e.cell ++ drop (bytes_before k es) (cells_of es))
  cells-put e = rw (cells-before es k, cells-from es k) (unfold cells_of flat in (flat_append (λ x. x.cell) (take k es) (e ∷ drop k es)))

  -- row k goes: so does its cell, and the places of those behind it fall by its length
  module _ (d : Entry) (l : k < length es) where
    bytes_next : bytes_before (suc k) es ≡ bytes_before k es + length (get_or es k d).cell
    unfolding cell_bytes sum_of
    bytes_next = rw (take-suc es k d l, bytes-append (take k es) (get_or es k d ∷ [])) (omega arith)

    pub rows_cut : entry_rows 0 (take k es ++ drop (suc k) es)
        ≡ take k (entry_rows 0 es) ++ map (earlier (length (get_or es k d).cell)) (drop (suc k) (entry_rows 0 es))
    rows_cut =
        rw (
          rows_append 0 (take k es) (drop (suc k) es),
          zero-add (bytes_before k es),
          take-rows k 0 es,
          from-rows es (suc k),
          bytes_next,
          rows-earlier (bytes_before k es) (length (get_or es k d).cell) (drop (suc k) es),
        )

    pub cells_cut : cells_of (take k es ++ drop (suc k) es)
        ≡ take (bytes_before k es) (cells_of es) ++ drop (bytes_before k es + length (get_or es k d).cell) (cells_of es)
    cells_cut =
        rw (cells-before es k, ← bytes_next, cells-from es (suc k)) (unfold cells_of in (flat_append (λ x. x.cell) (take k es) (drop (suc k) es)))

-- ---- the waiting rows that a test keeps
pub rows-kept : (p : Waiting → Bool) (n : ℕ) (t : List ℕ) → U64 t → map waiting_row_of (keep p (waiting_of n t)) ≡ keep (λ q. p (waiter_of q)) (rows_of waiting_row n t)
unfolding waiting_of rows_of keep
rows-kept p zero t u = refl
rows-kept p (suc n) t u = go (p (waiter_of r)) (rows-kept p n (drop 5 t) (u64-drop 5 t u))
  where
    r : WaitingRow
    r = waiting_row.dec t

    more : List WaitingRow
    more = rows_of waiting_row n (drop 5 t)

    go : (b : Bool) → map waiting_row_of (keep p (map waiter_of more)) ≡ keep (λ q. p (waiter_of q)) more
        → map waiting_row_of (pick b (waiter_of r ∷ keep p (map waiter_of more)) (keep p (map waiter_of more))) ≡ pick b (r ∷ keep (λ q. p (waiter_of q)) more) (keep (λ q. p (waiter_of q)) more)
    go true e = rw (words-hash (hash_at 1 t) (words-at 1 t u), e)
    go false e = e

-- ---- bytes that go in among the first n, and bytes that go
module _ (n : ℕ) (cs : List ℕ) (fits : n ≤ length cs) (rest : drop n cs ≡ zeros (length cs - n)) where
  cut_at : (p : ℕ) → p ≤ n → take n cs ≡ take p cs ++ take (n - p) (drop p cs)
  cut_at p h = let q : p + (n - p) ≡ n = omega arith in ap (λ (i : ℕ). take i cs) (sym q) ∙ take-add p (n - p) cs

  first_part : (p : ℕ) → p ≤ n → take p (take n cs) ≡ take p cs
  first_part p h = take-take p n cs h

  second-part : (p : ℕ) → p ≤ n → drop p (take n cs) ≡ take (n - p) (drop p cs)
  second-part p h = rw (cut_at p h) (drop_at (take p cs) (take (n - p) (drop p cs)) p (length-take-le p cs (omega arith)))

  pub bytes-in : (p : ℕ) (new : List ℕ) → p ≤ n → n + length new ≤ length cs
      → take p (take n cs) ++ (new ++ drop p (take n cs)) ++ zeros (length cs - (n + length new)) ≡ take p cs ++ (new ++ (take (n - p) (drop p cs) ++ drop (n + length new) cs))
  bytes-in p new h room =
      let q : length cs - n - length new ≡ length cs - (n + length new) = omega arith in
      let behind : drop (n + length new) cs ≡ zeros (length cs - (n + length new)) = sym (drop-drop (length new) n cs) ∙ ap (λ (l : List ℕ). drop (length new) l) rest ∙ drop-zeros (length new) (length cs - n) ∙ rw q in
      rw (first_part p h, second-part p h, behind) (simp append_assoc)

  pub bytes-out : (p len : ℕ) → p + len ≤ n
      → take p (take n cs) ++ drop (p + len) (take n cs) ++ zeros (length cs - (n - len)) ≡ take p cs ++ (take (n - (p + len)) (drop (p + len) cs) ++ (zeros len ++ drop n cs))
  bytes-out p len h =
      let q : len + (length cs - n) ≡ length cs - (n - len) = omega arith in
      rw (first_part p (omega arith), second-part (p + len) h, rest, replicate-append-replicate {A = ℕ} len (length cs - n) 0, q) (simp append_assoc)

-- ---- a lookup in a table that holds a state
module _ (r : Nursery) (es cs : List ℕ) (x : EntriesHeld r es) (h : ℕ) where
  pub lookup-hit : (k : ℕ) → k < r.entries → get_or (keys first_four 8 r.entries es) k 0 ≡ h → lookup h (entries_of r.entries es cs) ≡ some (get_or es (k * 8 + 4) 0)
  lookup-hit k l hit =
      let same = entries-keys r es cs x in
      let q : EntryRow = entry_row.dec [] in
      let here : get_or (entries_of r.entries es cs) k (entry_of cs q) ≡ entry_of cs (entry_row.dec (drop (k * 8) es)) =
      unfold entries_of in (get_or-map (entry_of cs) (rows_of entry_row r.entries es) k q ∙ rw (row_at entry_row r.entries es k q l)) in
      rw (
        lookup-entry_at h (entries_of r.entries es cs),
        entry_at-hit h 0 (entries_of r.entries es cs) k (entry_of cs q) (rw same x.hashes) (rw (number-entries r es cs) l) (rw same hit),
        here,
        get_or-drop (k * 8) es 4 0,
      )

  -- a hash that does not stand at its place is absent
  pub key-absent : (k : ℕ) → k ≡ place h (keys first_four 8 r.entries es) → (k < r.entries → get_or (keys first_four 8 r.entries es) k 0 ≡ h → ⊥)
      → elem h (keys first_four 8 r.entries es) ≡ false
  key-absent k here no_hit =
      elem-miss h 0 (keys first_four 8 r.entries es) (ascending-sorted 0 (keys first_four 8 r.entries es) x.hashes)
      (rw (← here, length-keys first_four 8 r.entries es) no_hit)

  pub lookup-miss : elem h (keys first_four 8 r.entries es) ≡ false → lookup h (entries_of r.entries es cs) ≡ none
  lookup-miss absent =
      rw (lookup-entry_at h (entries_of r.entries es cs), entry_at-miss h (entries_of r.entries es cs) (rw (entries-keys r es cs x) absent))

-- ---- the tables that hold a state
module _ (r : Nursery) (es ws cs : List ℕ) (x : EntriesHeld r es) (y : WaitingHeld r ws) (z : CellsHeld r cs) (u : U64 es) (v : U64 ws) where
  -- row k, where its cell lies, and where the cells end
  row_same : (k : ℕ) (d : Entry) → k < r.entries → entry_row.dec (drop (k * 8) es) ≡ entry_row_of (bytes_before k (entries_of r.entries es cs)) (get_or (entries_of r.entries es cs) k d)
  row_same k d l =
      let q : EntryRow = entry_row.dec [] in
      let n : k < length (entries_of r.entries es cs) = rw (number-entries r es cs) l in
      sym (row_at entry_row r.entries es k q l) ∙ ap (λ (rs : List EntryRow). get_or rs k q) (sym (rows_same r es cs x z u))
      ∙ rows_at k 0 (entries_of r.entries es cs) d q n ∙ rw (zero-add (bytes_before k (entries_of r.entries es cs)))

  pub place_at : (k : ℕ) → k < r.entries → get_or es (k * 8 + 6) 0 ≡ bytes_before k (entries_of r.entries es cs)
  place_at k l = sym (get_or-drop (k * 8) es 6 0) ∙ ap (λ (q : EntryRow). q.place) (row_same k (entry_of [] (entry_row.dec [])) l)

  pub len-at : (k : ℕ) (d : Entry) → k < r.entries → get_or es (k * 8 + 7) 0 ≡ length (get_or (entries_of r.entries es cs) k d).cell
  len-at k d l = sym (get_or-drop (k * 8) es 7 0) ∙ ap (λ (q : EntryRow). q.len) (row_same k d l)

  pub place_end : bytes_before r.entries (entries_of r.entries es cs) ≡ r.cell_bytes
  place_end = rw (take_all r.entries (entries_of r.entries es cs) (rw (number-entries r es cs) (omega arith))) (bytes_same r es cs x z)

  -- an insert of an absent hash, at the place that the search for it gives
  module _ (e : Entry) (k : ℕ) (here : k ≡ place e.hash (keys first_four 8 r.entries es)) (absent : elem e.hash (keys first_four 8 r.entries es) ≡ false) where
    put-here : (insert e (state_of r es ws cs)).entries ≡ take k (entries_of r.entries es cs) ++ e ∷ drop k (entries_of r.entries es cs)
    unfolding insert state_of
    put-here =
        let same = entries-keys r es cs x in
        entries-put (entries_of r.entries es cs) (rw same x.hashes) e k (rw same here) (rw same absent)

    pub entries-inserted : entries_table (length es) (insert e (state_of r es ws cs))
        ≡ table_of entry_row (length es) (take k (rows_of entry_row r.entries es) ++ entry_row_of (bytes_before k (entries_of r.entries es cs)) e ∷ map (later (length e.cell)) (drop k (rows_of entry_row r.entries es)))
    unfolding entries_table
    entries-inserted = rw (put-here, rows-put (entries_of r.entries es cs) k e, rows_same r es cs x z u)

    bytes_after : cell_bytes (insert e (state_of r es ws cs)).entries ≡ r.cell_bytes + length e.cell
    unfolding state_of
    bytes_after =
        bytes-insert e (state_of r es ws cs) (rw (entries-keys r es cs x) absent) ∙ ap (λ (n : ℕ). n + length e.cell) (bytes_same r es cs x z)

    pub cells-inserted : (p : ℕ) → p ≡ bytes_before k (entries_of r.entries es cs) → r.cell_bytes + length e.cell ≤ length cs
        → take p cs ++ (e.cell ++ (take (r.cell_bytes - p) (drop p cs) ++ drop (r.cell_bytes + length e.cell) cs))
        ≡ cells_table (length cs) (insert e (state_of r es ws cs))
    unfolding cells_table
    cells-inserted p there room =
        let h : p ≤ r.cell_bytes = omega (arith, bytes-split (entries_of r.entries es cs) k, bytes_same r es cs x z) in
        sym (rw (bytes_after, put-here, cells-put (entries_of r.entries es cs) k e, cells_same r es cs x z, ← there)
        (bytes-in r.cell_bytes cs z.fits z.rest p e.cell h room))

  -- and its waiting row, behind those of its round
  pub waiting-inserted : (e : Entry) (k : ℕ) → k ≡ place (suc e.born) (keys first_word 5 r.waiting ws) → r.waiting * 5 + 5 ≤ length ws
      → take (k * 5) ws ++ (waiting_row.enc (waiting_row_of (record { born = e.born; hash = e.hash })) ++ (take (r.waiting * 5 - k * 5) (drop (k * 5) ws) ++ drop (r.waiting * 5 + 5) ws))
      ≡ waiting_table (length ws) (insert e (state_of r es ws cs))
  unfolding waiting_table insert state_of
  waiting-inserted e k here room =
      let w : Waiting = record { born = e.born; hash = e.hash } in
      put-inserted waiting-lawful (λ q. q.born) first_word (λ t. refl) r.waiting ws y.laid y.rounds (suc e.born) (suc e.born) k here here (waiting_row_of w) room
      ∙ ap (λ (q : List WaitingRow). table_of waiting_row (length ws) q) (sym (ap (map waiting_row_of) (put_waiting-rows w (waiting_of r.waiting ws))
      ∙ map-put (λ q. q.born) waiting_row_of (suc e.born) (suc e.born) (w ∷ []) (waiting_of r.waiting ws)
      ∙ rw (waiters-same r ws v)))

  -- a remove leaves the other waiting rows
  pub waiting-removed : (h : ℕ) → waiting_table (length ws) (remove h (state_of r es ws cs))
      ≡ table_of waiting_row (length ws) (keep (λ q. not (eqb (hash_of q.hash) h)) (rows_of waiting_row r.waiting ws))
  unfolding waiting_table remove state_of
  waiting-removed h = rw (rows-kept (λ w. not (eqb w.hash h)) r.waiting ws v)

  -- a remove of an absent hash leaves the entries, and with them the two tables of entries and cells
  pub entries-left : (h : ℕ) → elem h (keys first_four 8 r.entries es) ≡ false → (remove h (state_of r es ws cs)).entries ≡ entries_of r.entries es cs
  unfolding remove state_of
  entries-left h absent = keep_all (λ e. e.hash) h (entries_of r.entries es cs) (rw (entries-keys r es cs x) absent)

  -- a remove of a hash that stands at its place
  module _ (h k : ℕ) (here : k ≡ place h (keys first_four 8 r.entries es)) (l : k < r.entries) (hit : get_or (keys first_four 8 r.entries es) k 0 ≡ h) where
    in_list : k < length (entries_of r.entries es cs)
    in_list = rw (number-entries r es cs) l

    cut-here : (remove h (state_of r es ws cs)).entries ≡ take k (entries_of r.entries es cs) ++ drop (suc k) (entries_of r.entries es cs)
    unfolding remove state_of
    cut-here =
        let same = entries-keys r es cs x in
        entries-hit (entries_of r.entries es cs) (rw same x.hashes) h k (rw same here) in_list (rw same hit)

    module _ (len : ℕ) (is : len ≡ get_or es (k * 8 + 7) 0) where
      pub entries-removed : entries_table (length es) (remove h (state_of r es ws cs))
          ≡ table_of entry_row (length es) (take k (rows_of entry_row r.entries es) ++ map (earlier len) (drop (suc k) (rows_of entry_row r.entries es)))
      unfolding entries_table
      entries-removed =
          let d : Entry = entry_of [] (entry_row.dec []) in
          let q : length (get_or (entries_of r.entries es cs) k d).cell ≡ len = sym (is ∙ len-at k d l) in
          rw (cut-here, rows_cut (entries_of r.entries es cs) k d in_list, q, rows_same r es cs x z u)

      pub cells-removed : (p : ℕ) → p ≡ bytes_before k (entries_of r.entries es cs)
          → take p cs ++ (take (r.cell_bytes - (p + len)) (drop (p + len) cs) ++ (zeros len ++ drop r.cell_bytes cs))
          ≡ cells_table (length cs) (remove h (state_of r es ws cs))
      unfolding cells_table
      cells-removed p there =
          let d : Entry = entry_of [] (entry_row.dec []) in
          let q : length (get_or (entries_of r.entries es cs) k d).cell ≡ len = sym (is ∙ len-at k d l) in
          let whole = bytes_same r es cs x z in
          let next = bytes_next (entries_of r.entries es cs) k d in_list in
          let split = bytes-split (entries_of r.entries es cs) (suc k) in
          let f : p + len ≤ r.cell_bytes = omega arith in
          let n : cell_bytes (remove h (state_of r es ws cs)).entries ≡ r.cell_bytes - len = rw (cut-here, bytes-append (take k (entries_of r.entries es cs)) (drop (suc k) (entries_of r.entries es cs))) (omega arith) in
          sym (rw (n, cut-here, cells_cut (entries_of r.entries es cs) k d in_list, q, cells_same r es cs x z, ← there)
          (bytes-out r.cell_bytes cs z.fits z.rest p len f))
