-- The rows that an insert writes, and the test by which a remove keeps waiting rows.
-- Assumes nothing.
use Rattle.std.specs.Prelude.{◌≡◌, ℕ, ◌+◌, ◌*◌, ◌-◌, ◌^◌, ◌<◌, Bool, not, List, ◌++◌, take, drop, eqb}
use Rattle.rows.specs.declared.Wide.{Wide}
use Rattle.rows.specs.Keys.{first_four}
use Rattle.rows.specs.Wide.{key_of}
use Rattle.cell_nursery.specs.Layout.{hash_of, EntryRow, WaitingRow, waiting_row}
use Rattle.cell_nursery.proofs.KeepLaws.{hash-behind}
use Rattle.hash_words.specs.WideLaws.{words_of}

abbrev pub row_for : Wide → ℕ → ℕ → ℕ → ℕ → EntryRow
row_for hash idx born place len = record { hash = words_of hash; idx = idx; born = born; place = place; len = len }

abbrev pub waiter_for : ℕ → Wide → WaitingRow
waiter_for born hash = record { born = born; hash = words_of hash }

-- a call of a closure on a place answers the place that g says
abbrev pub Moves : (ℕ → ℕ → Type 0) → (ℕ → ℕ) → Type 0
Moves post g = (p q : ℕ) → p < 2 ^ 64 → post p q → q ≡ g p

-- the row is of another hash
abbrev pub other : ℕ → WaitingRow → Bool
other h q = not (eqb (hash_of q.hash) h)

-- n waiting rows with one put before row k
abbrev pub inserted_at : ℕ → ℕ → WaitingRow → List ℕ → List ℕ
inserted_at k n q t = take (k * 5) t ++ (waiting_row.enc q ++ (take (n * 5 - k * 5) (drop (k * 5) t) ++ drop (n * 5 + 5) t))

-- the test on a row whose hash was read and compared
pub other-read : (t : List ℕ) (a h : ℕ) (k : Wide) (b : Bool) → key_of k ≡ first_four (drop (a + 1) t) → b ≡ eqb (key_of k) h → other h (waiting_row.dec (drop a t)) ≡ not b
other-read t a h k b e f = rw (hash-behind a t, ← e, ← f)
