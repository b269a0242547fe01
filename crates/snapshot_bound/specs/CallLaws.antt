-- The bound, of the calls that measure and write a snapshot; and the worst counters in a record and a table.
-- Assumes nothing.
use Rattle.std.specs.Prelude.{◌≡◌, Bool, List, ℕ, ◌*◌, ◌^◌, ◌≤◌, length}
use Rattle.std.proofs.Math.Path.{refl}
use Rattle.std.proofs.Common.{sym, ap, ◌∙◌, arith}
use Rattle.std.proofs.Math.Bool.{true, false}
use Rattle.base.specs.Answers.{taken, Refused}
use Rattle.base.specs.Output.{written}
use Rattle.base.specs.declared.Refusal.TheVariants.{OutputFull}
use Rattle.rows.proofs.TableLaws.{length-rows_of}
use Rattle.counters.specs.declared.ShrinkSettings.{ShrinkSettings}
use Rattle.counters.specs.declared.Counters.{Counters}
use Rattle.counters.specs.Counts.{State}
use Rattle.counters.specs.Maintenance.{in_range}
use Rattle.counters.specs.Layout.{count_row, record_of, table_of, state_of, holds}
use Rattle.counters.proofs.LayoutLaws.{state_of-laid, holds-laid}
use Rattle.counters.proofs.CallLaws.{on_state-held, on_state-broken}
use Rattle.snapshot.specs.Write.{snapshot_bytes}
use Rattle.snapshot.specs.Calls.{length_call, serialize_call}
use Rattle.snapshot_laws.specs.CallLaws.{serialize-full}
use Rattle.snapshot_bound.specs.Bound.{longest, worst}
use Rattle.snapshot_bound.specs.BoundLaws.{snapshot-bound, length-worst, worst-state}

module _ (c : Counters) (t : List ℕ) where
  state-bound : length (snapshot_bytes (state_of c t)) ≤ longest c.stored
  unfolding state_of
  state-bound = omega (arith, snapshot-bound (state_of c t), length-rows_of count_row c.stored t)

  -- the length that is told, of any record and table
  pub length-bound : (length_call c t).len ≤ longest c.stored
  unfolding length_call
  length-bound = go (holds c t) refl
    where
      go : (b : Bool) → holds c t ≡ b → (length_call c t).len ≤ longest c.stored
      go true h = rw (on_state-held c t (λ s. taken (length (snapshot_bytes s))) h) state-bound
      go false h = rw (on_state-broken c t (λ s. taken (length (snapshot_bytes s))) h) (omega arith)

  -- an output of that length is never too short
  pub never-full : (out : List ℕ) → longest c.stored ≤ length out → (serialize_call c t out).result.answer ≡ Refused OutputFull → ⊥
  never-full out room e = let f = (serialize-full c t out).0 e in omega (arith, f.1, state-bound)

-- ---- the worst counters
module _ (g : ShrinkSettings) (n len : ℕ) (ranged : in_range g ≡ true) (few : n ≤ 2 ^ 32) (room : n * 2 ≤ len) where
  -- their record and their table hold a state
  pub worst-holds : holds (record_of g (worst n)) (table_of len (worst n)) ≡ true
  worst-holds =
      let w = worst-state n few in
      holds-laid g (worst n) len (omega (arith, length-worst n)) ranged w.spelled.sorted w.bounded

  -- and are written as its snapshot
  pub worst-written : (out : List ℕ) → serialize_call (record_of g (worst n)) (table_of len (worst n)) out ≡ written out (taken (snapshot_bytes (worst n)))
  unfolding serialize_call
  worst-written out =
      rw (
        on_state-held (record_of g (worst n)) (table_of len (worst n)) (λ s. taken (snapshot_bytes s)) worst-holds,
        state_of-laid g (worst n) len (omega (arith, length-worst n)),
      )
