-- Claim 3: the box read in from a box's snapshot and the first bytes of its journal.
-- Assumes nothing.
use Rattle.std.specs.Prelude.{◌≡◌, refl, true, false, ℕ, ◌≤◌, length, take}
use Rattle.std.proofs.Math.Path.{sym, ap, subst}
use Rattle.std.proofs.Common.{◌∙◌}
use mathlib.Core.List.{List, [], map}
use Rattle.std.proofs.lemmas.List.{length-map}
use Rattle.base.specs.Logic.{flat}
use Rattle.blake3.specs.Mode.{hash_by}
use Rattle.blake3.specs.ModeLaws.{length-hash_by}
use Rattle.counters.specs.Counts as counts
use Rattle.counters.specs.Calls as counters-calls
use Rattle.snapshot.specs.Calls.{deserialize_call}
use Rattle.snapshot_laws.specs.RoundTrip.{well-maintained, renewed, snapshot-same}
use Rattle.snapshot_laws.specs.CallLaws.{deserialize-written}
use Rattle.cell_nursery.specs.Entries as entries
use Rattle.cell_nursery.specs.Entries.{empty}
use Rattle.cell_nursery.specs.Delta.{Room}
use Rattle.cell_nursery.specs.Drain.{listing_bytes}
use Rattle.cell_nursery.specs.Layout.{record_of, room_of, delay_in_range}
use Rattle.cell_nursery.specs.Calls.{laid}
use Rattle.cell_nursery.proofs.EntryLaws.{well-empty, room-empty}
use Rattle.journal.specs.Journal.{damaged, read_journal, ReadIn, read_out, read_under}
use Rattle.journal.proofs.ReadLaws.{read-undamaged}
use Rattle.journal.proofs.ModeLaws.{read-good}
use Rattle.cell_nursery.proofs.WaitLaws.{Waits, waits-empty}
use Rattle.journal_laws.specs.ReadLaws.{end_of, Applies, applies-whole, applied-waits, applied-well, applied-fits, journal-cut, cut-undamaged}
use Rattle.node_box.specs.Box.{Box, snapshot_of, listing_of}
use Rattle.node_box.specs.Journal.{Logged, records, journal_of, whole, listing_after, rebuild, cut_end}
use Rattle.node_box.specs.Demand.{History, Typed, start, end, whole_of, whole_bytes, read_back, Rebuilt}
use Rattle.demand3.specs.CountersHeld.{CountersHeld, laid-counters, settings-same}
use Rattle.demand3.specs.NurseryHeld.{NurseryHeld, ChangedHeld, room_for, laid-held, nursery-state, delay-same}
use Rattle.demand3.specs.Holding.{fixed_of, holds-start, holding}
use Rattle.demand3.specs.Outputs.{snapshot-is, listing-is}
use Rattle.demand3.specs.Waiting.{every-waits}
use Rattle.demand3.specs.Trace.{Step, logged, Traced, traced, whole_steps, step_bytes, after_steps, bytes-logged, whole-logged, listed-whole, listing-last}

module _ (a : History) (ok : Typed a) (k : ℕ) (short : k ≤ length (journal_of a.mode (start a) a.calls)) where
  -- the hash of its records
  abbrev hash : List ℕ → List ℕ
  hash = hash_by a.mode

  delay-ranged : delay_in_range a.settings.delay ≡ true
  delay-ranged = (holds-start a ok).nursery.ranged

  -- the journal's deltas, and those whose records are whole
  trace : Traced hash (fixed_of a) empty (records a.mode (start a) a.calls)
  trace = traced a.mode ok.mode a.calls ok.calls (holds-start a ok) refl

  applied-steps : List Step
  applied-steps = whole_steps hash k trace.steps

  journal-is : journal_of a.mode (start a) a.calls ≡ step_bytes hash trace.steps
  unfolding journal_of
  journal-is = ap (λ (rs : List Logged). flat (λ r. r.bytes) rs) trace.same ∙ bytes-logged hash trace.steps

  whole_is : whole_of a k ≡ map (logged hash) applied-steps
  unfolding applied-steps
  whole_is = ap (λ (rs : List Logged). whole k rs) trace.same ∙ whole-logged hash k trace.steps

  bytes-are : whole_bytes a k ≡ length (step_bytes hash applied-steps)
  bytes-are = ap (λ (rs : List Logged). length (flat (λ r. r.bytes) rs)) whole_is ∙ ap length (bytes-logged hash applied-steps)

  -- they are accepted in tables of the same lengths
  abbrev room : Room
  room = room_for (length a.entries) (length a.waiting) (length a.cells)

  applies : Applies hash (λ s. s.id) (λ s. s.change) room empty applied-steps
  unfolding applied-steps
  applies = applies-whole hash (λ s. s.id) (λ s. s.change) room trace.applies k

  -- none of the records is damaged, wherever the journal is cut
  pub undamaged : damaged hash (take k (journal_of a.mode (start a) a.calls)) ≡ false
  undamaged =
      rw journal-is
      (cut-undamaged hash (λ s. s.id) (λ s. s.change) (length-hash_by a.mode) room trace.steps trace.applies k (rw journal-is at short))

  -- the nursery after them, in which every entry waits
  state : entries.State
  state = after_steps hash applied-steps empty

  all-wait : Waits [] state
  unfolding state
  all-wait = applied-waits hash (λ s. s.id) (λ s. s.change) room applies waits-empty

  module _ (t es ws cs : List ℕ) (lt : length t ≡ length a.counts) (le : length es ≡ length a.entries)
      (lw : length ws ≡ length a.waiting) (lc : length cs ≡ length a.cells) where
    -- ---- the nursery, read from the journal
    room-same : room_of es ws cs ≡ room
    unfolding room_of
    room-same = rw (le, lw, lc)

    reading : read_journal hash (room_of es ws cs) (take k (journal_of a.mode (start a) a.calls))
        ≡ record { state = state; records = length applied-steps; place = length (step_bytes hash applied-steps); ended = end_of (length (step_bytes hash applied-steps)) k }
    unfolding state applied-steps
    reading =
        rw (room-same, journal-is)
        (journal-cut hash (λ s. s.id) (λ s. s.change) (length-hash_by a.mode) room trace.steps trace.applies k (rw journal-is at short))

    -- so the reading is taken
    read_is : read_under a.mode a.settings.delay (take k (journal_of a.mode (start a) a.calls)) es ws cs
        ≡ read_out a.settings.delay es ws cs
        (record { state = state; records = length applied-steps; place = length (step_bytes hash applied-steps); ended = end_of (length (step_bytes hash applied-steps)) k })
    read_is =
        read-good a.mode a.settings.delay (take k (journal_of a.mode (start a) a.calls)) es ws cs ok.mode
        ∙ rw (← reading) (read-undamaged hash a.settings.delay (take k (journal_of a.mode (start a) a.calls)) es ws cs delay-ranged undamaged)

    nursery-read : ChangedHeld a.settings.delay (length es) (length ws) (length cs) (laid a.settings.delay es ws cs state) state
    unfolding state
    nursery-read =
        laid-held a.settings.delay es ws cs state delay-ranged (applied-well hash (λ s. s.id) (λ s. s.change) room applies well-empty)
        (rw (le, lw, lc) (applied-fits hash (λ s. s.id) (λ s. s.change) room applies (room-empty room.entries room.cells)))

    -- ---- the counters, read from the snapshot
    counters : counts.State
    counters = (holding a ok).counters

    was-held : CountersHeld a.settings.shrink (length a.counts) (end a).counters (end a).counts counters
    unfolding counters
    was-held = (holding a ok).holds.counters

    abbrev renewed_counters : counts.State
    renewed_counters = renewed a.settings.shrink.base counters

    counters-read : deserialize_call a.settings.shrink (snapshot_of (end a)) t ≡ counters-calls.laid a.settings.shrink (length t) renewed_counters
    counters-read = rw (snapshot-is (end a) was-held) (deserialize-written a.settings.shrink was-held.ranged counters was-held.well t (rw lt was-held.fits))

    -- ---- the box of both
    abbrev box : Box
    box = (read_back a k t es ws cs).box

    counters-held : CountersHeld a.settings.shrink (length t) box.counters box.counts renewed_counters
    unfolding read_back rebuild
    counters-held =
        subst (λ (r : counters-calls.Changed). CountersHeld a.settings.shrink (length t) r.result.counters r.table renewed_counters) (sym counters-read)
        (laid-counters a.settings.shrink (length t) renewed_counters was-held.ranged (rw lt was-held.fits) (well-maintained counters (counts.fresh_maintenance a.settings.shrink.base) was-held.well))

    nursery-held : NurseryHeld a.settings.delay (length es) (length ws) (length cs) box.nursery box.entries box.waiting box.cells state
    unfolding read_back rebuild read_out
    nursery-held =
        subst (λ (r : ReadIn). NurseryHeld a.settings.delay (length es) (length ws) (length cs) r.result.nursery r.entries r.waiting r.cells state) (sym read_is) nursery-read

    snapshot-read : snapshot_of box ≡ snapshot_of (end a)
    snapshot-read = snapshot-is box counters-held ∙ snapshot-same renewed_counters counters refl refl refl ∙ sym (snapshot-is (end a) was-held)

    listing-read : listing_of box ≡ listing_after [] (whole_of a k)
    unfolding state applied-steps listing_bytes empty flat
    listing-read =
        listing-is box nursery-held ∙ sym (listing-last hash (listed-whole hash trace.listed k))
        ∙ ap (λ (rs : List Logged). listing_after [] rs) (sym whole_is)

    pub rebuilt : Rebuilt a k (read_back a k t es ws cs)
    unfolding read_back rebuild read_out cut_end record_of laid counters-calls.laid
    rebuilt =
        record {
          answer = rw (counters-read, read_is);
          snapshot = snapshot-read;
          listing = listing-read;
          applied = ap (λ (r : ReadIn). r.result.applied) read_is ∙ rw whole_is (sym (length-map applied-steps (logged hash)));
          place = ap (λ (r : ReadIn). r.result.place) read_is ∙ sym bytes-are;
          ended = ap (λ (r : ReadIn). r.result.ended) read_is ∙ rw bytes-are;
          waiting = rw (nursery-state nursery-held) (every-waits state all-wait nursery-held.well.hashes);
          settings = rw (settings-same counters-held, delay-same nursery-held);
        }
