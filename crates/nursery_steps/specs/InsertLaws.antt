-- An insert in the lent tables: what its parts require holds, and their work is the insert's.
-- Assumes nothing.
use Rattle.std.specs.Prelude.{◌≡◌, false, ℕ, suc, ◌+◌, ◌*◌, ◌-◌, ◌≤◌, ◌<◌, length, take, drop, get_or, ltb}
use Rattle.std.proofs.Math.Path.{refl, sym, ap}
use Rattle.std.proofs.Common.{◌∙◌, arith, take-append-drop, lt-ltb, le-ltb}
use mathlib.Core.List.{List, ◌∷◌, ◌++◌, map}
use Rattle.std.proofs.Math.Numerals.{add-one}
use Rattle.std.proofs.Math.Decide.{dec_lt}
use Rattle.base.specs.Logic.{pick, elem}
use Rattle.slices.specs.Laws.{length_part}
use Rattle.rows.specs.declared.Wide.{Wide}
use Rattle.rows.specs.Table.{rows_of, table_of}
use Rattle.rows.proofs.TableLaws.{rows_fit}
use Rattle.rows.specs.Keys.{first_word, first_four, keys, place}
use Rattle.rows.proofs.KeyLaws.{place-le, length-keys}
use Rattle.rows.specs.Wide.{key_of}
use Rattle.rows.proofs.WideLaws.{Words}
use Rattle.cell_nursery.specs.declared.Nursery.{Nursery}
use Rattle.cell_nursery.specs.Entries.{Entry, cell_bytes, insert}
use Rattle.cell_nursery.specs.Layout.{HashWords, hash_words, entry_row, entry_row_of, waiting_row_of, record_of, entries_table, waiting_table, cells_table, room_of, entries_of, state_of}
use Rattle.cell_nursery.specs.Calls.{laid}
use Rattle.cell_nursery.proofs.HashLaws.{words-hash}
use Rattle.cell_nursery.specs.Held.{U64, Held}
use Rattle.cell_nursery.proofs.LayoutLaws.{held, number-entries, number-waiting, entries-keys, bytes_same}
use Rattle.cell_nursery.proofs.EntryLaws.{number-insert, bytes-insert, waiting-insert}
use Rattle.cell_nursery.proofs.StepLaws.{bytes_before, bytes-append, place_at, place_end, entries-inserted, cells-inserted, waiting-inserted}
use Rattle.cell_nursery.specs.Rows.{later}
use Rattle.hash_words.specs.WideLaws.{words_of, key-hash}
use Rattle.nursery_rows.specs.Rows.{row_for, waiter_for, inserted_at}
use Rattle.nursery_steps.specs.Steps.{new_entry, left, Insertable}

-- the words of a key are those of its number
pub key-words : (k : Wide) → Words k → hash_words (key_of k) ≡ words_of k
key-words k w = rw (key-hash k) (words-hash (words_of k) (record { first = w.first; second = w.second; third = w.third; fourth = w.fourth }))

-- the bytes before row k are some of them
pub before-le : (k : ℕ) (es : List Entry) → bytes_before k es ≤ cell_bytes es
before-le k es = let split = bytes-append (take k es) (drop k es) in omega (arith, rw (take-append-drop k es) at split)

module _ (r : Nursery) (es ws cs : List ℕ) (u : U64 es) (v : U64 ws) (h : Held r es ws cs) where
  -- where a row's cell lies is within the cells in use
  pub place_inside : (i : ℕ) → i < r.entries → get_or es (i * 8 + 6) 0 ≤ r.cell_bytes
  place_inside i l =
      omega (arith, place_at r es ws cs h.entries h.waiting h.cells u v i l, before-le i (entries_of r.entries es cs), bytes_same r es cs h.entries h.cells)

  module _ (key k : ℕ) (here : k ≡ place key (keys first_four 8 r.entries es)) where
    pub row_inside : k ≤ r.entries
    row_inside = omega (arith, place-le key (keys first_four 8 r.entries es), length-keys first_four 8 r.entries es)

    pub place_here : pick (ltb k r.entries) (get_or es (k * 8 + 6) 0) r.cell_bytes ≡ bytes_before k (entries_of r.entries es cs)
    place_here =
        elim (dec_lt k r.entries) [
          | yes l ↦ rw (lt-ltb k r.entries l) (place_at r es ws cs h.entries h.waiting h.cells u v k l)
          | no l ↦
              let last : k ≡ r.entries = omega (arith, row_inside) in
              rw (le-ltb k r.entries (omega arith), last) (sym (place_end r es ws cs h.entries h.waiting h.cells u v))
        ]

    pub place-small : (p : ℕ) → p ≡ pick (ltb k r.entries) (get_or es (k * 8 + 6) 0) r.cell_bytes → p ≤ r.cell_bytes
    place-small p e = omega (arith, e ∙ place_here, before-le k (entries_of r.entries es cs), bytes_same r es cs h.entries h.cells)

module _ (r : Nursery) (es ws cs : List ℕ) (u : U64 es) (v : U64 ws) (e : Entry) (x : Insertable r es ws cs e) where
  pub all_held : Held r es ws cs
  all_held = held r es ws cs u v x.held

  bytes-used : cell_bytes (state_of r es ws cs).entries ≡ r.cell_bytes
  unfolding state_of
  bytes-used = bytes_same r es cs all_held.entries all_held.cells

  entries-used : length (state_of r es ws cs).entries ≡ r.entries
  unfolding state_of
  entries-used = number-entries r es cs

  waiting-used : length (state_of r es ws cs).waiting ≡ r.waiting
  unfolding state_of
  waiting-used = number-waiting r ws

  pub entry-room : r.entries * 8 + 8 ≤ length es
  unfolding room_of
  entry-room = omega (arith, rows_fit 8 (suc r.entries) es (omega arith) (omega (arith, x.rows, entries-used)))

  pub waiting-room : r.waiting * 5 + 5 ≤ length ws
  unfolding room_of
  waiting-room = omega (arith, rows_fit 5 (suc r.waiting) ws (omega arith) (omega (arith, x.rows, entries-used, all_held.fewer)))

  pub cell_room : r.cell_bytes + length e.cell ≤ length cs
  cell_room = omega (arith, x.bytes, bytes-used)

  absent-key : elem e.hash (keys first_four 8 r.entries es) ≡ false
  unfolding state_of
  absent-key = rw (entries-keys r es cs all_held.entries) at x.absent

  the-record : record_of r.delay (insert e (state_of r es ws cs)) ≡ record { entries = r.entries + 1; waiting = r.waiting + 1; cell_bytes = r.cell_bytes + length e.cell; delay = r.delay }
  unfolding record_of
  the-record =
      rw (
        number-insert e (state_of r es ws cs) x.absent,
        waiting-insert e (state_of r es ws cs),
        bytes-insert e (state_of r es ws cs) x.absent,
        entries-used,
        waiting-used,
        bytes-used,
        ← add-one r.entries,
        ← add-one r.waiting,
      )

  module _ (k p : ℕ) (here : k ≡ place e.hash (keys first_four 8 r.entries es)) (there : p ≡ pick (ltb k r.entries) (get_or es (k * 8 + 6) 0) r.cell_bytes) where
    -- what the parts leave is the insert
    pub insert-left : (es' ws' cs' : List ℕ)
        → es' ≡ table_of entry_row (length es) (take k (rows_of entry_row r.entries es) ++ entry_row_of p e ∷ map (later (length e.cell)) (drop k (rows_of entry_row r.entries es)))
        → ws' ≡ inserted_at (place (suc e.born) (keys first_word 5 r.waiting ws)) r.waiting (waiting_row_of (record { born = e.born; hash = e.hash })) ws
        → cs' ≡ take p cs ++ (e.cell ++ (take (r.cell_bytes - p) (drop p cs) ++ drop (r.cell_bytes + length e.cell) cs))
        → left (record { entries = r.entries + 1; waiting = r.waiting + 1; cell_bytes = r.cell_bytes + length e.cell; delay = r.delay }) es' ws' cs' ≡ laid r.delay es ws cs (insert e (state_of r es ws cs))
    unfolding laid
    insert-left es' ws' cs' a b c =
        let h = all_held in
        let before : p ≡ bytes_before k (entries_of r.entries es cs) = there ∙ place_here r es ws cs u v h e.hash k here in
        let a' : es' ≡ entries_table (length es) (insert e (state_of r es ws cs)) =
        a ∙ ap (λ (q : ℕ). table_of entry_row (length es) (take k (rows_of entry_row r.entries es) ++ entry_row_of q e ∷ map (later (length e.cell)) (drop k (rows_of entry_row r.entries es)))) before
        ∙ sym (entries-inserted r es ws cs h.entries h.waiting h.cells u v e k here absent-key) in
        let b' : ws' ≡ waiting_table (length ws) (insert e (state_of r es ws cs)) =
        b ∙ waiting-inserted r es ws cs h.entries h.waiting h.cells u v e (place (suc e.born) (keys first_word 5 r.waiting ws)) refl waiting-room in
        let c' : cs' ≡ cells_table (length cs) (insert e (state_of r es ws cs)) =
        c ∙ cells-inserted r es ws cs h.entries h.waiting h.cells u v e k here absent-key p before cell_room in
        rw (a', b', c', the-record)

-- the same in the words that the parts are given
module _ (r : Nursery) (es ws cs : List ℕ) (u : U64 es) (v : U64 ws) (hash : Wide) (w : Words hash) (idx born : ℕ) (items : List ℕ) (at len : ℕ) (inside : at + len ≤ length items)
    (x : Insertable r es ws cs (new_entry hash idx born (take len (drop at items)))) where
  pub insert-done : (k p : ℕ) → k ≡ place (key_of hash) (keys first_four 8 r.entries es) → p ≡ pick (ltb k r.entries) (get_or es (k * 8 + 6) 0) r.cell_bytes → (es' ws' cs' : List ℕ)
      → es' ≡ table_of entry_row (length es) (take k (rows_of entry_row r.entries es) ++ row_for hash idx born p len ∷ map (later len) (drop k (rows_of entry_row r.entries es)))
      → ws' ≡ inserted_at (place (suc born) (keys first_word 5 r.waiting ws)) r.waiting (waiter_for born hash) ws
      → cs' ≡ take p cs ++ (take len (drop at items) ++ (take (r.cell_bytes - p) (drop p cs) ++ drop (r.cell_bytes + len) cs))
      → left (record { entries = r.entries + 1; waiting = r.waiting + 1; cell_bytes = r.cell_bytes + len; delay = r.delay }) es' ws' cs' ≡ laid r.delay es ws cs (insert (new_entry hash idx born (take len (drop at items))) (state_of r es ws cs))
  insert-done k p here there es' ws' cs' a b c =
      let e : Entry = new_entry hash idx born (take len (drop at items)) in
      let l : len ≡ length e.cell = sym (length_part items at len inside) in
      let words = key-words hash w in
      ap (λ (m : ℕ). left (record { entries = r.entries + 1; waiting = r.waiting + 1; cell_bytes = r.cell_bytes + m; delay = r.delay }) es' ws' cs') l
      ∙ insert-left r es ws cs u v e x k p here there es' ws' cs'
      (a ∙ ap (λ (m : ℕ). table_of entry_row (length es) (take k (rows_of entry_row r.entries es) ++ row_for hash idx born p m ∷ map (later m) (drop k (rows_of entry_row r.entries es)))) l
      ∙ ap (λ (h : HashWords). table_of entry_row (length es) (take k (rows_of entry_row r.entries es) ++ record { hash = h; idx = idx; born = born; place = p; len = length e.cell } ∷ map (later (length e.cell)) (drop k (rows_of entry_row r.entries es)))) (sym words))
      (b ∙ ap (λ (h : HashWords). inserted_at (place (suc born) (keys first_word 5 r.waiting ws)) r.waiting (record { born = born; hash = h }) ws) (sym words))
      (c ∙ ap (λ (m : ℕ). take p cs ++ (e.cell ++ (take (r.cell_bytes - p) (drop p cs) ++ drop (r.cell_bytes + m) cs))) l)
