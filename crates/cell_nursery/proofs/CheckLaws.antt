-- The checks of the lent tables as loops meet them: row after row, and test after test.
-- Assumes nothing.
use Rattle.std.specs.Prelude.{◌≡◌, refl, Bool, true, false, ◌&&◌, List, ◌∷◌, map, ℕ, ◌+◌, ◌-◌, ◌*◌, ◌/◌, ◌^◌, ◌≤◌, ◌<◌, min, length, drop, get_or, eqb}
use Rattle.std.proofs.Common.{sym, ap₂, ◌∙◌, append-nil, add-one, arith, drop_of_length-le, get_or-drop}
use Rattle.std.proofs.Math.Bool.{and-true, and-false}
use Rattle.std.proofs.lemmas.List.{length-replicate}
use Rattle.std.proofs.Math.Seq.{paste, drop-length}
use borrow.Author.Tests.{le-leb, lt-leb, le-ltb, lt-ltb, eq-eqb, ne_eqb}
use Rattle.base.specs.Logic.{all, flat, sum_of, overlay, zeros, all_zero, ascending_from, sorted_from}
use Rattle.base.specs.Answers.{Taken}
use Rattle.slices.specs.Laws.{paste-start}
use Rattle.rows.specs.Table.{rows_of, table_of, holds_rows}
use Rattle.rows.proofs.TableLaws.{length-rows_of, drop-row}
use Rattle.rows.specs.Keys.{first_four, keys}
use Rattle.cell_nursery.specs.declared.Nursery.{Nursery}
use Rattle.cell_nursery.specs.Entries.{empty, tied, cell_bytes}
use Rattle.cell_nursery.specs.Calls.{effect, laid, new_call}
use Rattle.cell_nursery.specs.Layout.{entry_rows, cells_of, record_of, entries_table, waiting_table, cells_table, EntryRow, entry_row, WaitingRow, waiting_row, room_of, state_of, end_to_end, in_bounds, by_hash, by_round, delay_in_range, holds_entries, holds_waiting, holds_cells, holds}
use Rattle.cell_nursery.proofs.SettingLaws.{new-taken}
use Rattle.cell_nursery.proofs.LayoutLaws.{hashes-keys, ends-after, entries-held}
use Rattle.cell_nursery.specs.Rows.{entry_at_row, fields_hold, rounds_hold, waiter_at_row}

-- ---- row k of a table, and the rows from it on
pub entry-row : (t : List ℕ) (k : ℕ) → entry_row.dec (drop (k * 8) t) ≡ entry_at_row t k
entry-row t k =
    let q : k * 8 + 0 ≡ k * 8 = omega arith in
    rw (get_or-drop (k * 8) t 0 0, get_or-drop (k * 8) t 1 0, get_or-drop (k * 8) t 2 0, get_or-drop (k * 8) t 3 0, get_or-drop (k * 8) t 4 0, get_or-drop (k * 8) t 5 0, get_or-drop (k * 8) t 6 0, get_or-drop (k * 8) t 7 0, q)

pub waiting-row : (t : List ℕ) (k : ℕ) → waiting_row.dec (drop (k * 5) t) ≡ waiter_at_row t k
waiting-row t k =
    let q : k * 5 + 0 ≡ k * 5 = omega arith in
    let a : k * 5 + 1 + 1 ≡ k * 5 + 2 = omega arith in
    let b : k * 5 + 1 + 2 ≡ k * 5 + 3 = omega arith in
    let d : k * 5 + 1 + 3 ≡ k * 5 + 4 = omega arith in
    rw (get_or-drop (k * 5) t 0 0, get_or-drop (k * 5) t 1 0, get_or-drop (k * 5) t 2 0, get_or-drop (k * 5) t 3 0, get_or-drop (k * 5) t 4 0, q, a, b, d)

pub from-entry : (n : ℕ) (t : List ℕ) (k : ℕ) → k < n → drop k (rows_of entry_row n t) ≡ entry_at_row t k ∷ drop (k + 1) (rows_of entry_row n t)
from-entry n t k h =
    drop-row entry_row n t k h ∙ ap₂ (λ (r : EntryRow) (j : ℕ). r ∷ drop j (rows_of entry_row n t)) (entry-row t k) (sym (add-one k))

pub from-waiter : (n : ℕ) (t : List ℕ) (k : ℕ) → k < n → drop k (rows_of waiting_row n t) ≡ waiter_at_row t k ∷ drop (k + 1) (rows_of waiting_row n t)
from-waiter n t k h =
    drop-row waiting_row n t k h ∙ ap₂ (λ (r : WaitingRow) (j : ℕ). r ∷ drop j (rows_of waiting_row n t)) (waiting-row t k) (sym (add-one k))

-- ---- the fields of the entries' rows, the cells from a place on
-- cells that start behind their end
past_end : (q last : ℕ) (rs : List EntryRow) → last < q → end_to_end q last rs ≡ false
past_end q last rs h = go (end_to_end q last rs) refl
  where
    go : (b : Bool) → end_to_end q last rs ≡ b → b ≡ false
    go true e = absurd (omega (arith, ends-after q last rs e))
    go false e = refl

module _ (n : ℕ) (t : List ℕ) (i p last : ℕ) (h : i < n) where
  pub fields-late : 2 ^ 32 ≤ get_or t (i * 8 + 5) 0 → fields_hold p last (drop i (rows_of entry_row n t)) ≡ false
  unfolding all
  fields-late e = rw (from-entry n t i h, le-ltb (get_or t (i * 8 + 5) 0) (2 ^ 32) e)

  module _ (born : get_or t (i * 8 + 5) 0 < 2 ^ 32) where
    pub fields-long : 65535 < get_or t (i * 8 + 7) 0 → fields_hold p last (drop i (rows_of entry_row n t)) ≡ false
    unfolding all
    fields-long e = rw (from-entry n t i h, lt-ltb (get_or t (i * 8 + 5) 0) (2 ^ 32) born, lt-leb (get_or t (i * 8 + 7) 0) 65535 e)

    module _ (len : get_or t (i * 8 + 7) 0 ≤ 65535) where
      pub fields-off : (get_or t (i * 8 + 6) 0 ≡ p → ⊥) → fields_hold p last (drop i (rows_of entry_row n t)) ≡ false
      unfolding all end_to_end
      fields-off e =
          rw (from-entry n t i h, lt-ltb (get_or t (i * 8 + 5) 0) (2 ^ 32) born, le-leb (get_or t (i * 8 + 7) 0) 65535 len, ne_eqb (get_or t (i * 8 + 6) 0) p e)
          (and-false (all in_bounds (drop (i + 1) (rows_of entry_row n t))))

      module _ (place : get_or t (i * 8 + 6) 0 ≡ p) where
        pub fields-next : fields_hold p last (drop i (rows_of entry_row n t)) ≡ fields_hold (p + get_or t (i * 8 + 7) 0) last (drop (i + 1) (rows_of entry_row n t))
        unfolding all end_to_end
        fields-next =
            rw (from-entry n t i h, lt-ltb (get_or t (i * 8 + 5) 0) (2 ^ 32) born, le-leb (get_or t (i * 8 + 7) 0) 65535 len, eq-eqb (get_or t (i * 8 + 6) 0) p place)

        pub fields-past : last < p + get_or t (i * 8 + 7) 0 → fields_hold p last (drop i (rows_of entry_row n t)) ≡ false
        fields-past e =
            fields-next ∙ rw (past_end (p + get_or t (i * 8 + 7) 0) last (drop (i + 1) (rows_of entry_row n t)) e) (and-false (all in_bounds (drop (i + 1) (rows_of entry_row n t))))

pub fields-end : (n : ℕ) (t : List ℕ) (i p last : ℕ) → n ≤ i → fields_hold p last (drop i (rows_of entry_row n t)) ≡ eqb p last
unfolding all end_to_end
fields-end n t i p last h = rw (drop_of_length-le (rows_of entry_row n t) {i = i} (rw (length-rows_of entry_row n t) h))

-- ---- the rounds of the waiting rows, none below lo
module _ (n : ℕ) (t : List ℕ) (i lo : ℕ) (h : i < n) where
  pub rounds-back : get_or t (i * 5) 0 < lo → rounds_hold lo (drop i (rows_of waiting_row n t)) ≡ false
  unfolding sorted_from
  rounds-back e = rw (from-waiter n t i h, lt-leb lo (get_or t (i * 5) 0) e)

  module _ (up : lo ≤ get_or t (i * 5) 0) where
    pub rounds-late : 2 ^ 32 ≤ get_or t (i * 5) 0 → rounds_hold lo (drop i (rows_of waiting_row n t)) ≡ false
    unfolding sorted_from all
    rounds-late e =
        rw (from-waiter n t i h, le-leb lo (get_or t (i * 5) 0) up, le-ltb (get_or t (i * 5) 0) (2 ^ 32) e)
        (and-false (sorted_from (get_or t (i * 5) 0) (map (λ r. r.born) (drop (i + 1) (rows_of waiting_row n t)))))

    pub rounds-next : get_or t (i * 5) 0 < 2 ^ 32 → rounds_hold lo (drop i (rows_of waiting_row n t)) ≡ rounds_hold (get_or t (i * 5) 0) (drop (i + 1) (rows_of waiting_row n t))
    unfolding sorted_from all
    rounds-next e = rw (from-waiter n t i h, le-leb lo (get_or t (i * 5) 0) up, lt-ltb (get_or t (i * 5) 0) (2 ^ 32) e)

pub rounds-end : (n : ℕ) (t : List ℕ) (i lo : ℕ) → n ≤ i → rounds_hold lo (drop i (rows_of waiting_row n t)) ≡ true
unfolding sorted_from all
rounds-end n t i lo h = rw (drop_of_length-le (rows_of waiting_row n t) {i = i} (rw (length-rows_of waiting_row n t) h))

-- ---- test after test
module _ (r : Nursery) (t : List ℕ) where
  pub entries-bad-delay : delay_in_range r.delay ≡ false → false ≡ holds_entries r t
  unfolding holds_entries
  entries-bad-delay e = rw e (sym (and-false (holds_rows 8 r.entries t && by_hash r.cell_bytes (rows_of entry_row r.entries t))))

  pub entries-not-laid : holds_rows 8 r.entries t ≡ false → false ≡ holds_entries r t
  unfolding holds_entries
  entries-not-laid e = rw e

  module _ (laid : holds_rows 8 r.entries t ≡ true) where
    pub entries-not-ascending : ascending_from 0 (keys first_four 8 r.entries t) ≡ false → false ≡ holds_entries r t
    unfolding holds_entries by_hash
    entries-not-ascending e = rw (laid, hashes-keys r.entries t, e)

    pub entries-by-fields : delay_in_range r.delay ≡ true → ascending_from 0 (keys first_four 8 r.entries t) ≡ true
        → fields_hold 0 r.cell_bytes (rows_of entry_row r.entries t) ≡ holds_entries r t
    unfolding holds_entries by_hash
    entries-by-fields d e = rw (laid, hashes-keys r.entries t, e, d) (sym (and-true (fields_hold 0 r.cell_bytes (rows_of entry_row r.entries t))))

  pub waiting-not-laid : holds_rows 5 r.waiting t ≡ false → false ≡ holds_waiting r t
  unfolding holds_waiting
  waiting-not-laid e = rw e

  pub waiting-by-rounds : holds_rows 5 r.waiting t ≡ true → rounds_hold 0 (rows_of waiting_row r.waiting t) ≡ holds_waiting r t
  unfolding holds_waiting by_round
  waiting-by-rounds e = rw e

  pub cells-past : length t < r.cell_bytes → false ≡ holds_cells r t
  unfolding holds_cells
  cells-past e = rw (lt-leb r.cell_bytes (length t) e)

  pub cells-by-zeros : r.cell_bytes ≤ length t → all_zero (drop r.cell_bytes t) ≡ holds_cells r t
  unfolding holds_cells
  cells-by-zeros e = rw (le-leb r.cell_bytes (length t) e)

module _ (r : Nursery) (es ws cs : List ℕ) where
  pub holds-not-entries : holds_entries r es ≡ false → false ≡ holds r es ws cs
  unfolding holds
  holds-not-entries e = rw e

  module _ (a : holds_entries r es ≡ true) where
    pub holds-not-waiting : holds_waiting r ws ≡ false → false ≡ holds r es ws cs
    unfolding holds
    holds-not-waiting e = rw (a, e)

    module _ (b : holds_waiting r ws ≡ true) where
      pub holds-not-cells : holds_cells r cs ≡ false → false ≡ holds r es ws cs
      unfolding holds
      holds-not-cells e = rw (a, b, e)

      module _ (c : holds_cells r cs ≡ true) where
        -- the entries' table has room for its own rows
        pub holds-narrow : length ws / 5 < r.entries → false ≡ holds r es ws cs
        unfolding holds room_of
        holds-narrow e = rw (a, b, c, lt-leb r.entries (min (length es / 8) (length ws / 5)) (omega arith))

        pub holds-tied : r.entries ≤ length ws / 5 → tied (state_of r es ws cs) ≡ holds r es ws cs
        unfolding holds room_of
        holds-tied e =
            let x = (entries-held r es a).laid.fits in
            rw (a, b, c, le-leb r.entries (min (length es / 8) (length ws / 5)) (omega arith))

-- ---- an empty nursery: tables filled with zeros
zeroed : (t : List ℕ) → paste t 0 (zeros (length t)) (length t) ≡ zeros (length t)
unfolding overlay
zeroed t =
    paste-start t (zeros (length t)) (length t) (length-replicate {A = ℕ} (length t) 0)
    ∙ rw (length-replicate {A = ℕ} (length t) 0, drop-length t) (append-nil (zeros (length t)))

pub new-zeros : (delay : ℕ) → delay_in_range delay ≡ true → (es ws cs : List ℕ)
    → effect (record { answer = Taken; nursery = record { entries = 0; waiting = 0; cell_bytes = 0; delay = delay } }) (zeros (length es)) (zeros (length ws)) (zeros (length cs))
    ≡ new_call delay es ws cs
unfolding laid record_of entries_table waiting_table cells_table table_of empty entry_rows cells_of cell_bytes flat sum_of
new-zeros delay ok es ws cs =
    let a : length es - 0 * 8 ≡ length es = omega arith in
    let b : length ws - 0 * 5 ≡ length ws = omega arith in
    let d : length cs - 0 ≡ length cs = omega arith in
    rw (new-taken delay es ws cs ok, a, b, d)

-- the same, where zeros are written over the tables
pub new-tables : (delay : ℕ) → delay_in_range delay ≡ true → (es ws cs : List ℕ)
    → effect (record { answer = Taken; nursery = record { entries = 0; waiting = 0; cell_bytes = 0; delay = delay } }) (paste es 0 (zeros (length es)) (length es)) (paste ws 0 (zeros (length ws)) (length ws)) (paste cs 0 (zeros (length cs)) (length cs))
    ≡ new_call delay es ws cs
new-tables delay ok es ws cs = rw (zeroed es, zeroed ws, zeroed cs) (new-zeros delay ok es ws cs)
