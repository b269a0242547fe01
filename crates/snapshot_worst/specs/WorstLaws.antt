-- The worst counters: their table row after row, their record, and their snapshot in an output.
-- Assumes nothing.
use Rattle.std.specs.Prelude.{◌≡◌, refl, List, map, ℕ, zero, suc, ◌+◌, ◌-◌, ◌*◌, ◌≤◌, ◌<◌, length, set}
use Rattle.std.proofs.Common.{◌∙◌, arith}
use Rattle.std.proofs.lemmas.List.{map-append, length-map}
use Rattle.base.specs.Logic.{from, zeros, flat}
use Rattle.base.specs.ListLaws.{length_from, from-append}
use Rattle.rows.specs.Table as rows
use Rattle.counters.specs.Counts.{Entry, fresh_maintenance}
use Rattle.counters.specs.Maintenance.{standard}
use Rattle.counters.specs.Layout.{count_row, record_of, table_of}
use Rattle.counters.proofs.RowLaws.{row-behind}
use Rattle.snapshot_bound.specs.Bound.{spaced, next_after, worst}

-- ---- the table
-- that of the first k rows
abbrev pub laid_to : ℕ → ℕ → List ℕ
laid_to len k = rows.table_of count_row len (map spaced (from 0 k))

pub lay-start : (t : List ℕ) → t ≡ zeros (length t) → t ≡ laid_to (length t) 0
unfolding rows.table_of flat from
lay-start t e = let z : length t - 0 * 2 ≡ length t = omega arith in rw z e

pub lay-turn : (len k : ℕ) (t : List ℕ) → k * 2 + 2 ≤ len → t ≡ laid_to len k → set (set t (k * 2) (k * 4294967296)) (k * 2 + 1) 256 ≡ laid_to len (k + 1)
unfolding from
lay-turn len k t room e =
    let es : List Entry = map spaced (from 0 k) in
    let l : length es ≡ k = length-map (from 0 k) spaced ∙ length_from 0 k in
    let z : 0 + k ≡ k = omega arith in
    rw (e, from-append 0 k 1, z, map-append spaced (from 0 k) (from k 1)) (rw l at (row-behind len es (k * 4294967296) 256 (omega arith)))

pub lay-end : (len n : ℕ) → laid_to len n ≡ table_of len (worst n)
unfolding table_of worst
lay-end len n = refl

-- ---- the record
pub next-none : (n : ℕ) → n ≤ 0 → 0 ≡ next_after n
unfolding next_after
next-none zero h = refl
next-none (suc n) h = absurd (omega arith)

pub next-some : (n : ℕ) → 0 < n → (n - 1) * 4294967296 + 1 ≡ next_after n
unfolding next_after
next-some zero h = absurd (omega arith)
next-some (suc n) h = omega arith

pub record-worst : (n next : ℕ) → next ≡ next_after n
    → record {
      next_idx = record { 0 = next };
      live_cells = n;
      stored = n;
      maintenance = record { alive_removed_since_shrink = 0; small_removed_since_shrink = zeros 8; min_alive_removed_before_shrink = 131072 };
      settings = record { base = 131072; max = 2097152; good_save = 1048576 };
    }
    ≡ record_of standard (worst n)
unfolding record_of worst standard fresh_maintenance
record-worst n next e = rw (e, length-map (from 0 n) spaced, length_from 0 n)
