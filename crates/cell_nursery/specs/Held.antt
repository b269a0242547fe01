-- What is required of the lent tables, a fact for each part and the whole, and of the states, entries and waiting rows in them.
-- Assumes nothing.
use Rattle.std.specs.Prelude.{◌≡◌, Bool, true, false, ◌&&◌, List, map, ℕ, ◌-◌, ◌*◌, ◌/◌, ◌^◌, ◌≤◌, ◌<◌, min, length, take, drop, get_or, leb, ltb}
use Rattle.base.specs.Logic.{all, any, elem, repeated, keep, flat, zeros, ascending, sorted_from}
use Rattle.rows.specs.Table.{rows_of, Laid}
use Rattle.rows.specs.Keys.{first_word, first_four, keys}
use Rattle.cell_nursery.specs.declared.Nursery.{Nursery}
use Rattle.cell_nursery.specs.Entries.{Entry, Waiting, State, tied}
use Rattle.cell_nursery.specs.Layout.{entry_row, WaitingRow, waiting_row, record_of, entries_table, waiting_table, cells_table, state_of, end_to_end, in_bounds, delay_in_range}

-- what each table's test says, for a `requires`
module _ (r : Nursery) (t : List ℕ) where
  pub record EntriesHeld : Type 0 where
    pub laid : Laid 8 r.entries t
    pub hashes : ascending (keys first_four 8 r.entries t) ≡ true
    pub bounds : all in_bounds (rows_of entry_row r.entries t) ≡ true
    pub places : end_to_end 0 r.cell_bytes (rows_of entry_row r.entries t) ≡ true
    pub delay : delay_in_range r.delay ≡ true

  pub record WaitingHeld : Type 0 where
    pub laid : Laid 5 r.waiting t
    pub rounds : sorted_from 0 (keys first_word 5 r.waiting t) ≡ true
    pub bounds : all (λ x. ltb x.born (2 ^ 32)) (rows_of waiting_row r.waiting t) ≡ true

  pub record CellsHeld : Type 0 where
    pub fits : r.cell_bytes ≤ length t
    pub rest : drop r.cell_bytes t ≡ zeros (length t - r.cell_bytes)

module _ (p : WaitingRow → Bool) (n : ℕ) (t₀ : List ℕ) where
  -- i rows are looked at, and the j of them that are kept stand in front
  pub record Keeping (t : List ℕ) (i j : ℕ) : Type 0 where
    pub within : i ≤ n
    pub fewer : j ≤ i
    pub size : length t ≡ length t₀
    pub number : j ≡ length (keep p (rows_of waiting_row i t₀))
    pub front : take (j * 5) t ≡ flat waiting_row.enc (keep p (rows_of waiting_row i t₀))
    pub behind : drop (i * 5) t ≡ drop (i * 5) t₀

-- the words of a slice have 64 bits
abbrev pub U64 : List ℕ → Type 0
U64 t = (i : ℕ) → get_or t i 0 < 2 ^ 64

-- an entry whose fields fit their bytes
unfoldable pub fits_item : Entry → Bool
fits_item e = ltb e.hash (2 ^ 256) && ltb e.idx (2 ^ 64) && ltb e.born (2 ^ 32) && leb (length e.cell) 65535

-- a waiting row whose fields fit their words
unfoldable pub fits_waiting : Waiting → Bool
fits_waiting w = ltb w.hash (2 ^ 256) && ltb w.born (2 ^ 32)

-- entries by ascending hash, waiting rows by round, all fields within their bounds, each waiting row the row of an entry
pub record WellFormed (s : State) : Type 0 where
  pub hashes : ascending (map (λ e. e.hash) s.entries) ≡ true
  pub entries : all fits_item s.entries ≡ true
  pub rounds : sorted_from 0 (map (λ w. w.born) s.waiting) ≡ true
  pub waiting : all fits_waiting s.waiting ≡ true
  pub ties : tied s ≡ true

-- the record and the tables that hold a state are those of that state
pub record Held (r : Nursery) (es ws cs : List ℕ) : Type 0 where
  pub entries : EntriesHeld r es
  pub waiting : WaitingHeld r ws
  pub cells : CellsHeld r cs
  pub room : r.entries ≤ min (length es / 8) (length ws / 5)
  pub fewer : r.waiting ≤ r.entries
  pub well : WellFormed (state_of r es ws cs)
  pub same_record : record_of r.delay (state_of r es ws cs) ≡ r
  pub same_entries : entries_table (length es) (state_of r es ws cs) ≡ es
  pub same_waiting : waiting_table (length ws) (state_of r es ws cs) ≡ ws
  pub same_cells : cells_table (length cs) (state_of r es ws cs) ≡ cs

-- inserted hashes that are absent, each once
abbrev pub Absent : List Entry → State → Type 0
Absent is s = (any (λ e. elem e.hash (map (λ x. x.hash) s.entries)) is ≡ false) × (repeated (map (λ e. e.hash) is) ≡ false)
