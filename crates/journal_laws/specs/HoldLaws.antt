-- An accepted call on tables that hold a state leaves tables that hold one, wherever they came from: 20 never follows it, and each waiting row
-- stays that of an entry, with its round, none twice.
-- Assumes nothing.
use Rattle.std.specs.Prelude.{◌≡◌, Bool, List, ℕ, ◌/◌, min, length}
use Rattle.std.proofs.Math.Path.{refl, ap}
use Rattle.std.proofs.Common.{sym, arith}
use Rattle.std.proofs.Math.Bool.{true}
use Rattle.std.proofs.Math.Option.{Option, none, some}
use Rattle.base.specs.Answers.{Outcome, refused, taken, ◌>>=◌, or_refuse, Taken}
use Rattle.base.specs.AnswerLaws.{not-refused}
use Rattle.base.specs.Output.{fitting}
use Rattle.base.specs.declared.Refusal.TheVariants.{Broken}
use Rattle.cell_nursery.specs.declared.Nursery.{Nursery}
use Rattle.cell_nursery.specs.Entries.{State, empty, cell_bytes}
use Rattle.cell_nursery.specs.Delta.{state_after, apply_delta}
use Rattle.cell_nursery.specs.Items.{Delta, delta_of}
use Rattle.cell_nursery.specs.Drain.{drained, drain_bytes}
use Rattle.cell_nursery.specs.Layout.{record_of, entries_table, waiting_table, cells_table, room_of, state_of, delay_in_range, holds}
use Rattle.cell_nursery.specs.Held.{U64, Held, WellFormed}
use Rattle.cell_nursery.proofs.LayoutLaws.{held, holds-laid, number-entries}
use Rattle.cell_nursery.proofs.SettingLaws.{new-taken}
use Rattle.cell_nursery.proofs.EntryLaws.{well-empty, well-after, well-drained, InRoom, room-empty, room_after}
use Rattle.cell_nursery.specs.Calls.{Changed, DrainedOut, laid, laid_out, on_state, new_call, length_width, delta_call, drained_out, drain_call}
use Rattle.base.specs.SpellLaws.{Bytes}
use Rattle.journal_laws.specs.DeltaLaws.{delta-read, delta-fits, taken-accepted}

-- the record and the tables that a call leaves hold a state
abbrev pub Leaves : Changed → Type 0
Leaves c = holds c.result.nursery c.entries c.waiting c.cells ≡ true

laid-holds : (delay : ℕ) → delay_in_range delay ≡ true → (es ws cs : List ℕ) (s : State) → WellFormed s → InRoom (min (length es / 8) (length ws / 5)) (length cs) s
    → Leaves (laid delay es ws cs s)
unfolding laid
laid-holds delay o es ws cs s w i = holds-laid s (length es) (length ws) (length cs) w i.rows_fit i.bytes_fit delay o

pub new-holds : (delay : ℕ) → delay_in_range delay ≡ true → (es ws cs : List ℕ) → Leaves (new_call delay es ws cs)
new-holds delay o es ws cs = rw (new-taken delay es ws cs o) (laid-holds delay o es ws cs empty well-empty (room-empty _ _))

module _ (r : Nursery) (es ws cs : List ℕ) (u : U64 es) (v : U64 ws) (h : holds r es ws cs ≡ true) where
  abbrev s : State
  s = state_of r es ws cs

  x : Held r es ws cs
  x = held r es ws cs u v h

  -- ---- a delta
  module _ (wide : Bool) (inserts removes : ℕ) (items : List ℕ) (b : Bytes items) where
    outcome : delta_call r es ws cs wide inserts removes items
        ≡ laid_out r.delay r es ws cs (or_refuse Broken (delta_of (length_width wide) inserts removes items) >>= apply_delta (room_of es ws cs) s)
    unfolding delta_call on_state
    outcome = rw h

    pub delta-holds : (delta_call r es ws cs wide inserts removes items).result.answer ≡ Taken → Leaves (delta_call r es ws cs wide inserts removes items)
    unfolding laid_out room_of
    delta-holds e = rw outcome (go (delta_of (length_width wide) inserts removes items) refl (rw outcome at e))
      where
        after : (d : Delta) (o : Outcome State) → apply_delta (room_of es ws cs) s d ≡ o → delta_of (length_width wide) inserts removes items ≡ some d
            → (laid_out r.delay r es ws cs o).result.answer ≡ Taken → Leaves (laid_out r.delay r es ws cs o)
        after d (refused q) p i a = absurd (not-refused (sym a))
        after d (taken t) p i a =
            let (ok, same) = taken-accepted (room_of es ws cs) s d t p in
            let carried = delta-fits 0 inserts removes d (omega arith) (delta-read (length_width wide) inserts removes items d b i) ok.short in
            rw same (laid-holds r.delay x.entries.delay es ws cs (state_after d s) (well-after d s carried.inserts ok.new x.well) (room_after (room_of es ws cs) d s ok.fits))

        go : (o : Option Delta) → delta_of (length_width wide) inserts removes items ≡ o
            → (laid_out r.delay r es ws cs (or_refuse Broken o >>= apply_delta (room_of es ws cs) s)).result.answer ≡ Taken
            → Leaves (laid_out r.delay r es ws cs (or_refuse Broken o >>= apply_delta (room_of es ws cs) s))
        go none i a = absurd (not-refused (sym a))
        go (some d) i a = after d (apply_delta (room_of es ws cs) s d) refl i a

  -- ---- draining
  module _ (round : ℕ) (out : List ℕ) where
    abbrev draining : DrainedOut
    draining = drain_call r es ws cs round out

    drain-outcome : draining ≡ drained_out r ws out (fitting (length out) (taken (drain_bytes r.delay round s))) (drained r.delay round s)
    unfolding drain_call on_state
    drain-outcome = rw h

    still : holds (record_of r.delay (drained r.delay round s)) es (waiting_table (length ws) (drained r.delay round s)) cs ≡ true
    unfolding drained entries_table cells_table state_of record_of
    still =
        let q = holds-laid (drained r.delay round s) (length es) (length ws) (length cs) (well-drained r.delay round s x.well)
        (omega (arith, x.room, number-entries r es cs)) (omega (arith, x.cells.fits, bytes_same)) r.delay x.entries.delay in
        rw (x.same_entries, x.same_cells) at q
      where
        bytes_same : cell_bytes s.entries ≡ r.cell_bytes
        bytes_same = ap (λ (n : Nursery). n.cell_bytes) x.same_record

    pub drain-holds : draining.result.answer ≡ Taken → holds draining.result.nursery es draining.waiting cs ≡ true
    unfolding drained_out
    drain-holds e = rw drain-outcome (go (fitting (length out) (taken (drain_bytes r.delay round s))) (rw drain-outcome at e))
      where
        go : (o : Outcome (List ℕ)) → (drained_out r ws out o (drained r.delay round s)).result.answer ≡ Taken
            → holds (drained_out r ws out o (drained r.delay round s)).result.nursery es (drained_out r ws out o (drained r.delay round s)).waiting cs ≡ true
        go (refused q) a = absurd (not-refused (sym a))
        go (taken bs) a = still
