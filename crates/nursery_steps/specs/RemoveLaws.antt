-- A remove in the lent tables: what its parts require holds, and their work is the remove's.
-- Assumes nothing.
use Rattle.std.specs.Prelude.{◌≡◌, true, false, ◌&&◌, ℕ, suc, ◌+◌, ◌*◌, ◌-◌, ◌≤◌, ◌<◌, take, drop, get_or, ltb, eqb, Some, None}
use Rattle.std.proofs.Math.Path.{refl, sym, ap}
use Rattle.std.proofs.Common.{◌∙◌, arith, length-append, length-drop, take-append-drop, take-suc, take-add, length-take-le, lt-ltb, le-ltb, ltb-true, eqb-true, eq-eqb, ne_eqb}
use Rattle.std.proofs.Math.Bool.{not}
use mathlib.Core.List.{List, ◌∷◌, [], ◌++◌, map}
use Rattle.std.proofs.Math.ListN.{length}
use Rattle.std.proofs.lemmas.List.{length-map}
use Rattle.base.specs.Logic.{keep, zeros, sum_of}
use Rattle.base.specs.Laws.{and_left, and_right}
use Rattle.rows.specs.Table.{rows_of, table_of}
use Rattle.rows.specs.Keys.{first_four, keys, place}
use Rattle.rows.proofs.KeyLaws.{key-at, length-keys}
use Rattle.cell_nursery.specs.declared.Nursery.{Nursery}
use Rattle.cell_nursery.specs.Entries.{Entry, cell_bytes, remove}
use Rattle.cell_nursery.specs.Layout.{entry_row, entry_of, waiting_row, waiting_row_of, entry_rows, cells_of, record_of, entries_table, waiting_table, cells_table, entries_of, waiting_of, state_of, holds}
use Rattle.cell_nursery.specs.Calls.{laid}
use Rattle.cell_nursery.specs.Held.{U64, Held}
use Rattle.cell_nursery.proofs.LayoutLaws.{held, number-entries, entries-keys, bytes_same}
use Rattle.cell_nursery.proofs.StepLaws.{bytes_before, bytes-append, place_at, len-at, entries-hit, rows-kept, key-absent, entries-left, entries-removed, cells-removed, waiting-removed}
use Rattle.cell_nursery.specs.Rows.{earlier, index_of}
use Rattle.cell_nursery.proofs.SearchLaws.{index-found, search-hit, search-miss}
use Rattle.nursery_lookup.specs.Rows.{row_in}
use Rattle.nursery_lookup.specs.RowLaws.{row-found, none-found}
use Rattle.std.proofs.Math.Decide.{dec_lt}
use Rattle.nursery_rows.specs.Rows.{other}
use Rattle.nursery_steps.specs.Steps.{left}
use Rattle.nursery_steps.specs.InsertLaws.{before-le}

-- the bytes before a row grow by its cell, and with every row
bytes_next : (k : ℕ) (es : List Entry) (d : Entry) → k < length es → bytes_before (suc k) es ≡ bytes_before k es + length (get_or es k d).cell
unfolding cell_bytes sum_of
bytes_next k es d l = rw (take-suc es k d l, bytes-append (take k es) (get_or es k d ∷ [])) (omega arith)

bytes-grow : (j i : ℕ) (es : List Entry) → j ≤ i → bytes_before j es ≤ bytes_before i es
bytes-grow j i es h =
    let q : j + (i - j) ≡ i = omega arith in
    omega (arith, ap (λ (x : ℕ). bytes_before x es) (sym q) ∙ ap cell_bytes (take-add j (i - j) es) ∙ bytes-append (take j es) (take (i - j) (drop j es)))

module _ (r : Nursery) (es ws cs : List ℕ) (u : U64 es) (v : U64 ws) (o : holds r es ws cs ≡ true) (h : ℕ) where
  pub all_held : Held r es ws cs
  all_held = held r es ws cs u v o

  -- ---- what a search for the hash tells of the row at the hash's place
  abbrev ks : List ℕ
  ks = keys first_four 8 r.entries es

  -- the row that it finds is that row, and has the hash
  pub found-there : (k : ℕ) → Some k ≡ row_in r.entries (index_of h ks) → (k ≡ place h ks) × ((ltb k r.entries && eqb (first_four (drop (k * 8) es)) h) ≡ true)
  found-there k e =
      let x = all_held.entries in
      let f = row-found r.entries (index_of h ks) k e in
      let here : get_or ks k 0 ≡ h = rw f.1 (index-found h ks (omega (arith, f.0, f.1, length-keys first_four 8 r.entries es))) in
      let hit : (ltb k r.entries && eqb (first_four (drop (k * 8) es)) h) ≡ true =
      rw (lt-ltb k r.entries f.0, eq-eqb (first_four (drop (k * 8) es)) h (sym (key-at first_four 8 r.entries es k f.0) ∙ here)) in
      elim (dec_lt (place h ks) r.entries) [
        | no p ↦ absurd (omega (arith, f.0, f.1, search-miss r es x h (place h ks) refl (λ l. absurd (p l))))
        | yes p ↦
            elim (dec_lt h (get_or ks (place h ks) 0)) [
              | yes m ↦ absurd (omega (arith, f.0, f.1, search-miss r es x h (place h ks) refl (λ l. m)))
              | no m ↦ (f.1 ∙ sym (search-hit r es x h (place h ks) refl p m), hit)
            ]
      ]

  -- where it finds none, that row, if there is one, is another's
  pub none-there : None ≡ row_in r.entries (index_of h ks) → (ltb (place h ks) r.entries && eqb (first_four (drop (place h ks * 8) es)) h) ≡ false
  none-there e =
      let past = none-found r.entries (index_of h ks) e in
      elim (dec_lt (place h ks) r.entries) [
        | no p ↦ rw (le-ltb (place h ks) r.entries (omega arith))
        | yes p ↦
            let other : first_four (drop (place h ks * 8) es) ≡ h → ⊥ =
            λ q. let m : get_or ks (place h ks) 0 ≡ h = key-at first_four 8 r.entries es (place h ks) p ∙ q in omega (arith, past, search-hit r es all_held.entries h (place h ks) refl p (omega (arith, m))) in
            rw (lt-ltb (place h ks) r.entries p, ne_eqb (first_four (drop (place h ks * 8) es)) h other)
      ]

  -- the waiting rows that are left
  waiting-left : length (remove h (state_of r es ws cs)).waiting ≡ length (keep (other h) (rows_of waiting_row r.waiting ws))
  unfolding remove state_of
  waiting-left =
      sym (length-map (keep (λ w. not (eqb w.hash h)) (waiting_of r.waiting ws)) waiting_row_of)
      ∙ ap length (rows-kept (λ w. not (eqb w.hash h)) r.waiting ws v)

  module _ (k : ℕ) (here : k ≡ place h (keys first_four 8 r.entries es)) (j : ℕ) (ws' : List ℕ)
      (count : j ≡ length (keep (other h) (rows_of waiting_row r.waiting ws))) (table : ws' ≡ table_of waiting_row (length ws) (keep (other h) (rows_of waiting_row r.waiting ws))) where
    waiting-table : ws' ≡ waiting_table (length ws) (remove h (state_of r es ws cs))
    waiting-table = table ∙ sym (waiting-removed r es ws cs all_held.entries all_held.waiting all_held.cells u v h)

    -- an absent hash
    module _ (miss : (ltb k r.entries && eqb (first_four (drop (k * 8) es)) h) ≡ false) where
      no_hit : k < r.entries → get_or (keys first_four 8 r.entries es) k 0 ≡ h → ⊥
      no_hit l q =
          let e : first_four (drop (k * 8) es) ≡ h = sym (key-at first_four 8 r.entries es k l) ∙ q in
          let t : (ltb k r.entries && eqb (first_four (drop (k * 8) es)) h) ≡ true = rw (lt-ltb k r.entries l, eq-eqb (first_four (drop (k * 8) es)) h e) in
          let z : ◌≡◌ {A = ℕ} 0 1 = cc in
          omega arith

      all-kept : (remove h (state_of r es ws cs)).entries ≡ entries_of r.entries es cs
      all-kept =
          entries-left r es ws cs all_held.entries all_held.waiting all_held.cells u v h (key-absent r es cs all_held.entries h k here no_hit)

      same-es : entries_table (length es) (remove h (state_of r es ws cs)) ≡ es
      unfolding entries_table state_of
      same-es = ap (λ (l : List Entry). table_of entry_row (length es) (entry_rows 0 l)) all-kept ∙ all_held.same_entries

      same-cs : cells_table (length cs) (remove h (state_of r es ws cs)) ≡ cs
      unfolding cells_table state_of
      same-cs = ap (λ (l : List Entry). cells_of l ++ zeros (length cs - cell_bytes l)) all-kept ∙ all_held.same_cells

      pub absent-left : left (record { entries = r.entries; waiting = j; cell_bytes = r.cell_bytes; delay = r.delay }) es ws' cs ≡ laid r.delay es ws cs (remove h (state_of r es ws cs))
      unfolding laid record_of
      absent-left =
          let n : length (remove h (state_of r es ws cs)).entries ≡ r.entries = ap length all-kept ∙ number-entries r es cs in
          let b : cell_bytes (remove h (state_of r es ws cs)).entries ≡ r.cell_bytes = ap cell_bytes all-kept ∙ bytes_same r es cs all_held.entries all_held.cells in
          rw (n, b, same-es, same-cs, waiting-table, waiting-left, ← count)

    -- a hash that is there
    module _ (hit : (ltb k r.entries && eqb (first_four (drop (k * 8) es)) h) ≡ true) where
      pub row-hit : k < r.entries
      row-hit = ltb-true k r.entries (and_left _ _ hit)

      key-hit : get_or (keys first_four 8 r.entries es) k 0 ≡ h
      key-hit = key-at first_four 8 r.entries es k row-hit ∙ eqb-true (first_four (drop (k * 8) es)) h (and_right (ltb k r.entries) _ hit)

      nobody : Entry
      nobody = entry_of [] (entry_row.dec [])

      in_list : k < length (entries_of r.entries es cs)
      in_list = rw (number-entries r es cs) row-hit

      place-hit : get_or es (k * 8 + 6) 0 ≡ bytes_before k (entries_of r.entries es cs)
      place-hit = place_at r es ws cs all_held.entries all_held.waiting all_held.cells u v k row-hit

      after-hit : bytes_before (suc k) (entries_of r.entries es cs) ≡ get_or es (k * 8 + 6) 0 + get_or es (k * 8 + 7) 0
      after-hit =
          bytes_next k (entries_of r.entries es cs) nobody in_list
          ∙ rw (← place-hit, ← len-at r es ws cs all_held.entries all_held.waiting all_held.cells u v k nobody row-hit)

      -- the cells of the rows behind it lie behind its cell, which lies within the bytes in use
      pub places_behind : (i : ℕ) → suc k ≤ i → i < r.entries → get_or es (k * 8 + 7) 0 ≤ get_or es (i * 8 + 6) 0
      places_behind i b l =
          omega (
            arith,
            after-hit,
            bytes-grow (suc k) i (entries_of r.entries es cs) b,
            place_at r es ws cs all_held.entries all_held.waiting all_held.cells u v i l,
          )

      pub cell-inside : get_or es (k * 8 + 6) 0 + get_or es (k * 8 + 7) 0 ≤ r.cell_bytes
      cell-inside = omega (arith, after-hit, before-le (suc k) (entries_of r.entries es cs), bytes_same r es cs all_held.entries all_held.cells)

      rest-hit : (remove h (state_of r es ws cs)).entries ≡ take k (entries_of r.entries es cs) ++ drop (suc k) (entries_of r.entries es cs)
      unfolding remove state_of
      rest-hit =
          let same = entries-keys r es cs all_held.entries in
          entries-hit (entries_of r.entries es cs) (rw same all_held.entries.hashes) h k (rw same here) in_list (rw same key-hit)

      number-hit : length (remove h (state_of r es ws cs)).entries ≡ r.entries - 1
      number-hit =
          let st : List Entry = entries_of r.entries es cs in
          rw rest-hit
          (simp (length-append, length-take-le k st (omega (arith, in_list)), length-drop) (omega (arith, number-entries r es cs, row-hit)))

      bytes-hit : cell_bytes (remove h (state_of r es ws cs)).entries ≡ r.cell_bytes - get_or es (k * 8 + 7) 0
      bytes-hit =
          let st : List Entry = entries_of r.entries es cs in
          let whole = bytes-append (take (suc k) st) (drop (suc k) st) in
          rw (rest-hit, bytes-append (take k st) (drop (suc k) st))
          (omega (arith, rw (take-append-drop (suc k) st) at whole, after-hit, place-hit, bytes_same r es cs all_held.entries all_held.cells))

      pub hit-left : (es' cs' : List ℕ) (p len : ℕ) → p ≡ get_or es (k * 8 + 6) 0 → len ≡ get_or es (k * 8 + 7) 0
          → es' ≡ table_of entry_row (length es) (take k (rows_of entry_row r.entries es) ++ map (earlier len) (drop (suc k) (rows_of entry_row r.entries es)))
          → cs' ≡ take p cs ++ (take (r.cell_bytes - (p + len)) (drop (p + len) cs) ++ (zeros len ++ drop r.cell_bytes cs))
          → left (record { entries = r.entries - 1; waiting = j; cell_bytes = r.cell_bytes - len; delay = r.delay }) es' ws' cs' ≡ laid r.delay es ws cs (remove h (state_of r es ws cs))
      unfolding laid record_of
      hit-left es' cs' p len at_p at_len a c =
          let x = all_held in
          let a' : es' ≡ entries_table (length es) (remove h (state_of r es ws cs)) =
          a ∙ sym (entries-removed r es ws cs x.entries x.waiting x.cells u v h k here row-hit key-hit len at_len) in
          let c' : cs' ≡ cells_table (length cs) (remove h (state_of r es ws cs)) =
          c ∙ cells-removed r es ws cs x.entries x.waiting x.cells u v h k here row-hit key-hit len at_len p (at_p ∙ place-hit) in
          rw (a', c', waiting-table, number-hit, waiting-left, ← count, bytes-hit, at_len)
