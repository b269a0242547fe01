-- The parts of a snapshot, of the first n rows of a table.
-- Assumes nothing.
use Rattle.std.specs.Prelude.{ℕ, ◌-◌, List, drop}
use Rattle.base.specs.Logic.{flat, from}
use Rattle.rows.specs.Table.{rows_of}
use Rattle.counters.specs.Counts.{large}
use Rattle.counters.specs.Layout.{count_row}
use Rattle.snapshot.specs.Write.{set_bytes, large_bytes}

-- the bytes of the sets from set k on
abbrev pub sets_from : ℕ → List ℕ → ℕ → List ℕ
sets_from n t k = flat (set_bytes (rows_of count_row n t)) (from k (8 - k))

-- the bytes of the large counts from row i on
abbrev pub large_from : ℕ → List ℕ → ℕ → List ℕ
large_from n t i = flat large_bytes (large (drop i (rows_of count_row n t)))
