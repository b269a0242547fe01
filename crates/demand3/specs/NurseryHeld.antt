-- The calls on a record and tables that are those of a state of the nursery: an accepted call leaves those of the next state, a refused one
-- leaves them as they were.
-- Assumes nothing.
use Rattle.std.specs.Prelude.{◌≡◌, Bool, true, List, ℕ, ◌/◌, ◌^◌, ◌≤◌, ◌<◌, min, length}
use Rattle.std.proofs.Math.Path.{refl, ap}
use Rattle.std.proofs.Common.{sym, ◌∙◌, arith}
use Rattle.std.proofs.Math.Option.{Option, none, some}
use Rattle.base.specs.Answers.{Outcome, refused, taken, ◌>>=◌, or_refuse, Taken, Refused}
use Rattle.base.specs.AnswerLaws.{not-refused}
use Rattle.base.specs.Output.{fitting}
use Rattle.base.specs.declared.Refusal.{Refusal}
use Rattle.base.specs.declared.Refusal.TheVariants.{Broken}
use Rattle.cell_nursery.specs.declared.Nursery.{Nursery}
use Rattle.cell_nursery.specs.Entries.{State, empty, cell_bytes}
use Rattle.cell_nursery.specs.Delta.{Room, state_after, apply_delta}
use Rattle.cell_nursery.specs.Items.{Delta, delta_of}
use Rattle.cell_nursery.specs.Drain.{drained, drain_bytes}
use Rattle.cell_nursery.specs.Layout.{record_of, entries_table, waiting_table, cells_table, room_of, state_of, delay_in_range, holds, holds_entries, holds_cells}
use Rattle.cell_nursery.specs.Held.{U64, WellFormed}
use Rattle.cell_nursery.proofs.LayoutLaws.{held, number-entries, bytes_same, length-entries_table, length-waiting_table, length-cells_table, state_of-laid, holds-laid, entries-laid, cells-laid}
use Rattle.cell_nursery.proofs.EntryLaws.{well-empty, well-after, well-drained, InRoom, room-empty, room_after}
use Rattle.cell_nursery.proofs.SettingLaws.{new-taken}
use Rattle.cell_nursery.specs.Calls.{Changed, DrainedOut, laid, laid_out, on_state, new_call, length_width, delta_call, drained_out, drain_call}
use Rattle.base.specs.SpellLaws.{Bytes}
use Rattle.journal_laws.specs.DeltaLaws.{Accepted, delta-read, delta-fits, taken-accepted}
use Rattle.format.proofs.RecordLaws.{Fits}
use Rattle.node_box.specs.Box.{delta, drain}
use Rattle.demand3.specs.States.{nursery_after}

-- ---- the record and the tables of a state

-- the record and the tables, of given lengths, are those of a state under a delay in its range
pub record NurseryHeld (delay le lw lc : ℕ) (r : Nursery) (es ws cs : List ℕ) (s : State) : Type 0 where
  pub ranged : delay_in_range delay ≡ true
  pub same_record : r ≡ record_of delay s
  pub same_entries : es ≡ entries_table le s
  pub same_waiting : ws ≡ waiting_table lw s
  pub same_cells : cs ≡ cells_table lc s
  pub well : WellFormed s
  pub rows_fit : length s.entries ≤ min (le / 8) (lw / 5)
  pub cells_fit : cell_bytes s.entries ≤ lc

module _ {delay le lw lc : ℕ} {r : Nursery} {es ws cs : List ℕ} {s : State} (h : NurseryHeld delay le lw lc r es ws cs s) where
  pub nursery-holds : holds r es ws cs ≡ true
  nursery-holds = rw (h.same_record, h.same_entries, h.same_waiting, h.same_cells) (holds-laid s le lw lc h.well h.rows_fit h.cells_fit delay h.ranged)

  pub nursery-state : state_of r es ws cs ≡ s
  nursery-state = rw (h.same_record, h.same_entries, h.same_waiting, h.same_cells) (state_of-laid s le lw lc h.well h.rows_fit h.cells_fit delay)

  pub entries-hold : holds_entries r es ≡ true
  entries-hold = rw (h.same_record, h.same_entries) (entries-laid s le lw lc h.well h.rows_fit h.cells_fit delay h.ranged)

  pub cells-hold : holds_cells r cs ≡ true
  cells-hold = rw (h.same_record, h.same_cells) (cells-laid s le lw lc h.well h.rows_fit h.cells_fit delay)

  pub entries-length : length es ≡ le
  entries-length = rw h.same_entries (length-entries_table s le lw lc h.well h.rows_fit h.cells_fit)

  pub waiting-length : length ws ≡ lw
  waiting-length = rw h.same_waiting (length-waiting_table s le lw lc h.well h.rows_fit h.cells_fit)

  pub cells-length : length cs ≡ lc
  cells-length = rw h.same_cells (length-cells_table s le lw lc h.well h.rows_fit h.cells_fit)

-- those that hold a state, wherever they came from, are those of the state that they spell
pub held-nursery : (r : Nursery) (es ws cs : List ℕ) → U64 es → U64 ws → holds r es ws cs ≡ true
    → NurseryHeld r.delay (length es) (length ws) (length cs) r es ws cs (state_of r es ws cs)
unfolding state_of
held-nursery r es ws cs u v h =
    let x = held r es ws cs u v h in
    record {
      ranged = x.entries.delay;
      same_record = sym x.same_record;
      same_entries = sym x.same_entries;
      same_waiting = sym x.same_waiting;
      same_cells = sym x.same_cells;
      well = x.well;
      rows_fit = rw (number-entries r es cs) x.room;
      cells_fit = rw (bytes_same r es cs x.entries x.cells) x.cells.fits;
    }

-- the same of what a call returns and leaves
abbrev pub ChangedHeld : ℕ → ℕ → ℕ → ℕ → Changed → State → Type 0
ChangedHeld delay le lw lc x s = NurseryHeld delay le lw lc x.result.nursery x.entries x.waiting x.cells s

-- what tables of given lengths have room for
abbrev pub room_for : ℕ → ℕ → ℕ → Room
room_for le lw lc = record { entries = min (le / 8) (lw / 5); cells = lc }

-- a state laid out
pub laid-held : (delay : ℕ) (es ws cs : List ℕ) (s : State) → delay_in_range delay ≡ true → WellFormed s → InRoom (room_for (length es) (length ws) (length cs)).entries (length cs) s
    → ChangedHeld delay (length es) (length ws) (length cs) (laid delay es ws cs s) s
unfolding laid
laid-held delay es ws cs s o w i =
    record { ranged = o; same_record = refl; same_entries = refl; same_waiting = refl; same_cells = refl; well = w; rows_fit = i.rows_fit; cells_fit = i.bytes_fit }

pub new-nursery : (delay : ℕ) (es ws cs : List ℕ) → delay_in_range delay ≡ true → ChangedHeld delay (length es) (length ws) (length cs) (new_call delay es ws cs) empty
new-nursery delay es ws cs o = rw (new-taken delay es ws cs o) (laid-held delay es ws cs empty o well-empty (room-empty _ _))

-- ---- a delta
module _ {delay le lw lc : ℕ} {r : Nursery} {es ws cs : List ℕ} {s : State} (h : NurseryHeld delay le lw lc r es ws cs s) where
  pub delay-same : r.delay ≡ delay
  unfolding record_of
  delay-same = ap (λ (q : Nursery). q.delay) h.same_record

  pub room-same : room_of es ws cs ≡ room_for le lw lc
  unfolding room_of
  room-same = rw (entries-length h, waiting-length h, cells-length h)

  module _ (wide : Bool) (inserts removes : ℕ) (items : List ℕ) where
    -- what was accepted
    pub record DeltaTaken : Type 0 where
      pub change : Delta
      pub spelled : delta_of (length_width wide) inserts removes items ≡ some change
      pub accepted : Accepted (room_for le lw lc) s change
      pub result : delta_call r es ws cs wide inserts removes items ≡ laid delay es ws cs (state_after change s)

    outcome : delta_call r es ws cs wide inserts removes items
        ≡ laid_out delay r es ws cs (or_refuse Broken (delta_of (length_width wide) inserts removes items) >>= apply_delta (room_for le lw lc) s)
    unfolding delta_call on_state
    outcome = rw (nursery-holds h, nursery-state h, room-same, delay-same)

    pub delta-taken : (delta_call r es ws cs wide inserts removes items).result.answer ≡ Taken → DeltaTaken
    unfolding laid_out
    delta-taken e = go (delta_of (length_width wide) inserts removes items) refl (rw outcome at e)
      where
        after : (d : Delta) (o : Outcome State) → apply_delta (room_for le lw lc) s d ≡ o → delta_of (length_width wide) inserts removes items ≡ some d
            → (laid_out delay r es ws cs o).result.answer ≡ Taken → DeltaTaken
        after d (refused q) p i a = absurd (not-refused (sym a))
        after d (taken t) p i a =
            let (ok, same) = taken-accepted (room_for le lw lc) s d t p in
            record { change = d; spelled = i; accepted = ok; result = outcome ∙ rw (i, p, same) }

        go : (o : Option Delta) → delta_of (length_width wide) inserts removes items ≡ o
            → (laid_out delay r es ws cs (or_refuse Broken o >>= apply_delta (room_for le lw lc) s)).result.answer ≡ Taken → DeltaTaken
        go none i a = absurd (not-refused (sym a))
        go (some d) i a = after d (apply_delta (room_for le lw lc) s d) refl i a

    -- a refusal changes nothing
    pub delta-refused : (q : Refusal) → (delta_call r es ws cs wide inserts removes items).result.answer ≡ Refused q
        → ((delta_call r es ws cs wide inserts removes items).result.nursery ≡ r) × ((delta_call r es ws cs wide inserts removes items).entries ≡ es)
        × ((delta_call r es ws cs wide inserts removes items).waiting ≡ ws) × ((delta_call r es ws cs wide inserts removes items).cells ≡ cs)
    unfolding laid_out laid
    delta-refused q e = rw outcome (go (or_refuse Broken (delta_of (length_width wide) inserts removes items) >>= apply_delta (room_for le lw lc) s) (rw outcome at e))
      where
        go : (o : Outcome State) → (laid_out delay r es ws cs o).result.answer ≡ Refused q
            → ((laid_out delay r es ws cs o).result.nursery ≡ r) × ((laid_out delay r es ws cs o).entries ≡ es) × ((laid_out delay r es ws cs o).waiting ≡ ws) × ((laid_out delay r es ws cs o).cells ≡ cs)
        go (refused p) a = (refl, refl, refl, refl)
        go (taken t) a = absurd (not-refused a)

    -- the delta is one that a record can carry
    pub delta-carried : (id : ℕ) → id < 2 ^ 64 → Bytes items → (t : DeltaTaken) → Fits id t.change
    delta-carried id i b t = delta-fits id inserts removes t.change i (delta-read (length_width wide) inserts removes items t.change b t.spelled) t.accepted.short

    pub delta-held : (id : ℕ) → Bytes items → DeltaTaken
        → ChangedHeld delay le lw lc (delta_call r es ws cs wide inserts removes items) (nursery_after delay (delta id wide inserts removes items) s)
    unfolding nursery_after
    delta-held id b t =
        let d = t.change in
        let well = well-after d s (delta-carried 0 (omega arith) b t).inserts t.accepted.new h.well in
        let fit = room_after (room_for le lw lc) d s t.accepted.fits in
        let out = laid-held delay es ws cs (state_after d s) h.ranged well (rw (entries-length h, waiting-length h, cells-length h) fit) in
        rw (t.spelled, t.result) (rw (entries-length h, waiting-length h, cells-length h) at out)

  -- ---- draining
  module _ (round : ℕ) (out : List ℕ) where
    abbrev draining : DrainedOut
    draining = drain_call r es ws cs round out

    pub drain-outcome : draining ≡ drained_out r ws out (fitting (length out) (taken (drain_bytes delay round s))) (drained delay round s)
    unfolding drain_call on_state
    drain-outcome = rw (nursery-holds h, nursery-state h, delay-same)

    pub drain-held : draining.result.answer ≡ Taken
        → NurseryHeld delay le lw lc draining.result.nursery es draining.waiting cs (nursery_after delay (drain round 0) s)
    unfolding drained_out nursery_after drained entries_table cells_table record_of
    drain-held e = rw drain-outcome (go (fitting (length out) (taken (drain_bytes delay round s))) (rw drain-outcome at e))
      where
        go : (o : Outcome (List ℕ)) → (drained_out r ws out o (drained delay round s)).result.answer ≡ Taken
            → NurseryHeld delay le lw lc (drained_out r ws out o (drained delay round s)).result.nursery es (drained_out r ws out o (drained delay round s)).waiting cs (drained delay round s)
        go (refused q) a = absurd (not-refused (sym a))
        go (taken bs) a =
            record {
              ranged = h.ranged;
              same_record = ap (λ (d : ℕ). record_of d (drained delay round s)) delay-same;
              same_entries = h.same_entries;
              same_waiting = rw (waiting-length h);
              same_cells = h.same_cells;
              well = well-drained delay round s h.well;
              rows_fit = h.rows_fit;
              cells_fit = h.cells_fit;
            }

    pub drain-refused : (q : Refusal) → draining.result.answer ≡ Refused q → (draining.result.nursery ≡ r) × (draining.waiting ≡ ws)
    unfolding drained_out
    drain-refused q e = rw drain-outcome (go (fitting (length out) (taken (drain_bytes delay round s))) (rw drain-outcome at e))
      where
        go : (o : Outcome (List ℕ)) → (drained_out r ws out o (drained delay round s)).result.answer ≡ Refused q
            → ((drained_out r ws out o (drained delay round s)).result.nursery ≡ r) × ((drained_out r ws out o (drained delay round s)).waiting ≡ ws)
        go (refused p) a = (refl, refl)
        go (taken bs) a = absurd (not-refused a)
