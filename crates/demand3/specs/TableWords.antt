-- The words of the tables of states whose fields are in bounds are u64, and the bytes of the cells are bytes.
-- Assumes nothing.
use Rattle.std.specs.Prelude.{◌≡◌, refl, true, List, [], ◌∷◌, map, ℕ, zero, suc, ◌+◌, ◌-◌, ◌*◌, ◌/◌, ◌%◌, ◌^◌, ◌<◌, length, ltb}
use Rattle.std.proofs.Common.{mod-lt, arith, ltb-true, lt-ltb}
use Rattle.base.specs.Logic.{all, flat, sum_of, ascending, zeros}
use Rattle.base.specs.Laws.{and_left, and_right}
use Rattle.base.specs.ListLaws.{all_append}
use Rattle.rows.specs.Table as rows
use Rattle.rows.specs.Table.{Coding}
use Rattle.counters.specs.Counts as counts
use Rattle.counters.specs.Layout as counters
use Rattle.counters.specs.Layout.{count_row, sound, ordered}
use Rattle.snapshot_laws.specs.RoundTrip as snapshots
use Rattle.cell_nursery.specs.Entries.{Entry, Waiting, State, cell_bytes}
use Rattle.cell_nursery.specs.Layout.{hash_words, entry_row, waiting_row, waiting_row_of, entry_rows, cells_of, entries_table, waiting_table, cells_table}
use Rattle.cell_nursery.specs.Held.{WellFormed, fits_waiting, fits_item, U64}
use Rattle.cell_nursery.proofs.ItemLaws.{item-fits}

-- each word is a u64
abbrev pub AllU64 : List ℕ → Type 0
AllU64 t = all (λ w. ltb w (2 ^ 64)) t ≡ true

pub all_words : (t : List ℕ) → AllU64 t → U64 t
unfolding all
all_words [] a i = omega arith
all_words (w ∷ t) a zero = ltb-true w (2 ^ 64) (and_left _ _ a)
all_words (w ∷ t) a (suc i) = all_words t (and_right (ltb w (2 ^ 64)) _ a) i

-- a number above 0 is above every 0
zeros-below : (top n : ℕ) → 0 < top → all (λ w. ltb w top) (zeros n) ≡ true
unfolding all
zeros-below top zero p = refl
zeros-below top (suc n) p = rw (lt-ltb 0 top p) (zeros-below top n p)

-- a word of a hash
hash-word : (x : ℕ) → ltb (x % 2 ^ 64) (2 ^ 64) ≡ true
hash-word x = lt-ltb (x % 2 ^ 64) (2 ^ 64) (mod-lt x (omega arith))

-- ---- rows
counts-words : (next : ℕ) (es : List counts.Entry) → next < 2 ^ 64 → all (sound next) es ≡ true → all (λ e. ltb e.count (2 ^ 64)) es ≡ true → AllU64 (flat count_row.enc es)
unfolding all flat
counts-words next [] l s a = refl
counts-words next (e ∷ es) l s a =
    let below = ltb-true e.idx next (and_left _ _ (and_left (sound next e) _ s)) in
    rw (lt-ltb e.idx (2 ^ 64) (omega arith), and_left (ltb e.count (2 ^ 64)) _ a)
    (counts-words next es l (and_right (sound next e) _ s) (and_right (ltb e.count (2 ^ 64)) _ a))

entries-words : (p : ℕ) (es : List Entry) → p + cell_bytes es < 2 ^ 64 → all fits_item es ≡ true → AllU64 (flat entry_row.enc (entry_rows p es))
unfolding all flat entry_rows hash_words cell_bytes sum_of
entries-words p [] l a = refl
entries-words p (e ∷ es) l a =
    let f = item-fits e (and_left (fits_item e) _ a) in
    rw (
      hash-word (e.hash / 2 ^ 192),
      hash-word (e.hash / 2 ^ 128),
      hash-word (e.hash / 2 ^ 64),
      hash-word e.hash,
      lt-ltb e.idx (2 ^ 64) f.idx,
      lt-ltb e.born (2 ^ 64) (omega (arith, f.born)),
      lt-ltb p (2 ^ 64) (omega arith),
      lt-ltb (length e.cell) (2 ^ 64) (omega (arith, f.cell)),
    )
    (entries-words (p + length e.cell) es (omega arith) (and_right (fits_item e) _ a))

waiting-words : (ws : List Waiting) → all fits_waiting ws ≡ true → AllU64 (flat waiting_row.enc (map waiting_row_of ws))
unfolding all flat hash_words fits_waiting
waiting-words [] a = refl
waiting-words (w ∷ ws) a =
    let born = ltb-true w.born (2 ^ 32) (and_right (ltb w.hash (2 ^ 256)) _ (and_left (fits_waiting w) _ a)) in
    rw (
      lt-ltb w.born (2 ^ 64) (omega arith),
      hash-word (w.hash / 2 ^ 192),
      hash-word (w.hash / 2 ^ 128),
      hash-word (w.hash / 2 ^ 64),
      hash-word w.hash,
    )
    (waiting-words ws (and_right (fits_waiting w) _ a))

cells-bytes : (es : List Entry) → all (λ e. all (λ b. ltb b 256) e.cell) es ≡ true → all (λ b. ltb b 256) (cells_of es) ≡ true
unfolding all flat cells_of
cells-bytes [] a = refl
cells-bytes (e ∷ es) a =
    all_append (λ b. ltb b 256) e.cell (cells_of es) (and_left (all (λ b. ltb b 256) e.cell) _ a) (cells-bytes es (and_right (all (λ b. ltb b 256) e.cell) _ a))

-- ---- tables
table-words : {E : Type 0} (c : Coding E) (len : ℕ) (es : List E) → AllU64 (flat c.enc es) → AllU64 (rows.table_of c len es)
unfolding rows.table_of
table-words c len es a =
    let n = len - length es * c.width in
    all_append (λ x. ltb x (2 ^ 64)) (flat c.enc es) (zeros n) a (zeros-below (2 ^ 64) n (omega arith))

pub counts-table : (len : ℕ) (s : counts.State) → snapshots.WellFormed s → AllU64 (counters.table_of len s)
unfolding counters.table_of ordered
counts-table len s w =
    let sounds = and_right (ascending (map (λ e. e.idx) s.counts)) (all (sound s.next) s.counts) w.spelled.sorted in
    table-words count_row len s.counts (counts-words s.next s.counts w.spelled.next_fits sounds w.spelled.counts_fit)

pub entries-table : (len : ℕ) (s : State) → WellFormed s → cell_bytes s.entries < 2 ^ 64 → AllU64 (entries_table len s)
unfolding entries_table
entries-table len s w l = table-words entry_row len (entry_rows 0 s.entries) (entries-words 0 s.entries (omega arith) w.entries)

pub waiting-table : (len : ℕ) (s : State) → WellFormed s → AllU64 (waiting_table len s)
unfolding waiting_table
waiting-table len s w = table-words waiting_row len (map waiting_row_of s.waiting) (waiting-words s.waiting w.waiting)

pub cells-table : (len : ℕ) (s : State) → all (λ e. all (λ b. ltb b 256) e.cell) s.entries ≡ true → all (λ b. ltb b 256) (cells_table len s) ≡ true
unfolding cells_table
cells-table len s a =
    let n = len - cell_bytes s.entries in
    all_append (λ b. ltb b 256) (cells_of s.entries) (zeros n) (cells-bytes s.entries a) (zeros-below 256 n (omega arith))
