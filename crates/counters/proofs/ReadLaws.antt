-- Making counters, allocation and reading a count, way by way.
-- Assumes nothing.
use Rattle.std.specs.Prelude.{◌≡◌, true, false, List, ℕ, ◌+◌, ◌*◌, ◌-◌, ◌^◌, ◌≤◌, ◌<◌, max, length}
use Rattle.std.proofs.Common.{◌∙◌, append-nil, arith}
use Rattle.std.proofs.lemmas.List.{length-replicate}
use Rattle.std.proofs.Math.Seq.{paste, drop-length}
use borrow.Author.Tests.{le-leb, lt-leb, eq-eqb, ne_eqb}
use Rattle.base.specs.Logic.{flat, zeros, overlay, max64}
use Rattle.base.specs.Answers.{Taken, Refused}
use Rattle.base.specs.declared.Refusal.TheVariants.{Spent, Unallocated, Broken}
use Rattle.slices.specs.Laws.{paste-start}
use Rattle.rows.specs.Table as rows
use Rattle.rows.specs.Table.{rows_of}
use Rattle.counters.specs.declared.Counters.{Counters}
use Rattle.counters.specs.declared.Idx.{Idx}
use Rattle.counters.specs.Counts.{stored_at, count_at, fresh, get, allocate}
use Rattle.counters.specs.Layout.{count_row, table_of, state_of, holds, with_next}
use Rattle.counters.specs.Calls.{on_state, allocated, alloc_call, get_call}

-- a table filled with zeros is that of fresh counters
pub fresh-table : (base next : ℕ) (t : List ℕ) → paste t 0 (zeros (length t)) (length t) ≡ table_of (length t) (fresh base next)
unfolding table_of rows.table_of flat fresh overlay
fresh-table base next t =
    let e : length t - 0 * 2 ≡ length t = omega arith in
    paste-start t (zeros (length t)) (length t) (length-replicate {A = ℕ} (length t) 0)
    ∙ rw (length-replicate {A = ℕ} (length t) 0, drop-length t, append-nil (zeros (length t)), e)

module _ (c : Counters) where
  pub alloc-spent : c.next_idx.0 ≡ 2 ^ 64 - 1 → record { answer = Refused Spent; idx = record { 0 = 0 }; counters = c } ≡ alloc_call c
  unfolding alloc_call allocated allocate
  alloc-spent e = rw (eq-eqb c.next_idx.0 max64 e)

  pub alloc-next : (c.next_idx.0 ≡ 2 ^ 64 - 1 → ⊥)
      → record { answer = Taken; idx = record { 0 = c.next_idx.0 }; counters = with_next c (c.next_idx.0 + 1) } ≡ alloc_call c
  unfolding alloc_call allocated allocate
  alloc-next e = rw (ne_eqb c.next_idx.0 max64 e)

module _ (c : Counters) (t : List ℕ) (i : Idx) where
  pub get-broken-table : holds c t ≡ false → record { answer = Refused Broken; count = record { 0 = 0 } } ≡ get_call c t i
  unfolding get_call on_state
  get-broken-table e = rw e

  module _ (h : holds c t ≡ true) where
    pub get-far : c.next_idx.0 ≤ i.0 → record { answer = Refused Unallocated; count = record { 0 = 0 } } ≡ get_call c t i
    unfolding get_call on_state get state_of
    get-far l = rw (h, le-leb c.next_idx.0 i.0 l)

    pub get-count : i.0 < c.next_idx.0 → (n : ℕ) → n ≡ max (stored_at i.0 (rows_of count_row c.stored t)) 1
        → record { answer = Taken; count = record { 0 = n } } ≡ get_call c t i
    unfolding get_call on_state get state_of count_at
    get-count l n e = rw (h, lt-leb c.next_idx.0 i.0 l, e)
