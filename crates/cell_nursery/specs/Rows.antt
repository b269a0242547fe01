-- Rows of the lent tables and their parts, as the contracts of the calls' parts name them.
-- Assumes nothing.
use Rattle.std.specs.Prelude.{Bool, ◌&&◌, List, [], ◌∷◌, ◌++◌, map, ℕ, suc, ◌+◌, ◌-◌, ◌*◌, ◌^◌, ◌≤◌, ◌<◌, length, take, drop, get_or, eqb, ltb}
use Rattle.base.specs.Logic.{pick, all, flat, sorted_from}
use Rattle.base.specs.Bytes.{le16, le64}
use Rattle.rows.specs.Keys.{first_four, keys}
use Rattle.cell_nursery.specs.declared.Nursery.{Nursery}
use Rattle.cell_nursery.specs.Entries.{Entry, Waiting, hash_bytes}
use Rattle.cell_nursery.specs.Drain.{named, promoted_bytes}
use Rattle.cell_nursery.specs.Layout.{hash_of, hash_at, EntryRow, WaitingRow, end_to_end, in_bounds}

abbrev pub entry_at_row : List ℕ → ℕ → EntryRow
entry_at_row t k =
    record { hash = hash_at (k * 8) t; idx = get_or t (k * 8 + 4) 0; born = get_or t (k * 8 + 5) 0; place = get_or t (k * 8 + 6) 0; len = get_or t (k * 8 + 7) 0 }

abbrev pub waiter_at_row : List ℕ → ℕ → WaitingRow
waiter_at_row t k = record { born = get_or t (k * 5) 0; hash = hash_at (k * 5 + 1) t }

-- the fields of the entries' rows, the cells from a place on
abbrev pub fields_hold : ℕ → ℕ → List EntryRow → Bool
fields_hold p last rs = all in_bounds rs && end_to_end p last rs

-- the rounds of the waiting rows, none below lo
abbrev pub rounds_hold : ℕ → List WaitingRow → Bool
rounds_hold lo rs = sorted_from lo (map (λ r. r.born) rs) && all (λ r. ltb r.born (2 ^ 32)) rs

-- how many numbers stand before the first that is x: all where none is
unfoldable pub index_of : ℕ → List ℕ → ℕ
index_of x [] = 0
index_of x (k ∷ ks) = pick (eqb k x) 0 (suc (index_of x ks))

-- a row whose cell lies further on, and further back
abbrev pub later : ℕ → EntryRow → EntryRow
later d r = record { hash = r.hash; idx = r.idx; born = r.born; place = r.place + d; len = r.len }

abbrev pub earlier : ℕ → EntryRow → EntryRow
earlier d r = record { hash = r.hash; idx = r.idx; born = r.born; place = r.place - d; len = r.len }

-- a row of the entries, as a writer needs it
pub record RowFits (es cs : List ℕ) (k : ℕ) : Type 0 where
  pub row : k * 8 + 8 ≤ length es
  pub born : get_or es (k * 8 + 5) 0 < 2 ^ 32
  pub len : get_or es (k * 8 + 7) 0 ≤ 65535
  pub cell : get_or es (k * 8 + 6) 0 + get_or es (k * 8 + 7) 0 ≤ length cs

-- the bytes of a row, in parts: hash and index, and the cell after its length
abbrev pub head_bytes : List ℕ → ℕ → List ℕ
head_bytes es k = hash_bytes (hash_of (hash_at (k * 8) es)) ++ le64 (get_or es (k * 8 + 4) 0)

abbrev pub cell_part : List ℕ → List ℕ → ℕ → List ℕ
cell_part es cs k = take (get_or es (k * 8 + 7) 0) (drop (get_or es (k * 8 + 6) 0) cs)

abbrev pub tail_bytes : List ℕ → List ℕ → ℕ → List ℕ
tail_bytes es cs k = le16 (get_or es (k * 8 + 7) 0) ++ cell_part es cs k

-- the row of the entry that it names, or the number of rows where it names none
unfoldable pub promoted_row : Nursery → List ℕ → WaitingRow → ℕ
promoted_row r es w =
    pick (eqb (get_or es (index_of (hash_of w.hash) (keys first_four 8 r.entries es) * 8 + 5) 0) w.born) (index_of (hash_of w.hash) (keys first_four 8 r.entries es)) r.entries

-- the bytes that it hands out
abbrev pub handed_out : List Entry → Waiting → List ℕ
handed_out es w = flat promoted_bytes (named es w)
