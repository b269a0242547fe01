-- What is kept of a box that started fresh, whatever was called on it: its records and tables hold states, it has its settings, its tables are as
-- long as they were, their words are u64 and the cells' bytes are bytes.
-- Assumes nothing.
use Rattle.std.specs.Prelude.{◌≡◌, refl, Bool, true, false, not, List, [], ◌∷◌, ℕ, suc, ◌^◌, ◌<◌, length, ltb, eqb}
use Rattle.std.proofs.Math.Option.{Option, none, some}
use Rattle.std.proofs.Common.{arith}
use Rattle.base.specs.Logic.{all, fold}
use Rattle.base.specs.Maybe.{maybe}
use Rattle.base.specs.Laws.{and_left, and_right}
use Rattle.base.specs.ListLaws.{all_keep}
use Rattle.base.specs.SumLaws.{all_one}
use Rattle.rows.proofs.RowLaws.{all-put}
use Rattle.rows.proofs.KeyLaws.{put_rows}
use Rattle.counters.specs.Counts as counts
use Rattle.counters.specs.Counts.{fresh}
use Rattle.counters.specs.Layout as counters
use Rattle.cell_nursery.specs.Entries.{Entry, State, empty, tied, put_entry, insert, remove}
use Rattle.cell_nursery.specs.Items.{Delta, delta_of}
use Rattle.cell_nursery.specs.Delta.{state_after}
use Rattle.cell_nursery.specs.Drain.{drained}
use Rattle.cell_nursery.specs.Layout as nursery
use Rattle.cell_nursery.specs.Calls.{length_width}
use Rattle.cell_nursery.specs.Held.{U64}
use Rattle.journal_laws.specs.DeltaLaws.{delta-read}
use Rattle.node_box.specs.Box.{Box, settings_of, Call, allocate, batch, batch_records, delta, drain, get, shrink, adjust, measure, serialize, lookup, locate, listing, step, run, accepted, nursery_of}
use Rattle.node_box.specs.Demand.{typed, History, Typed, end}
use Rattle.demand3.specs.States.{counters_after, nursery_after}
use Rattle.demand3.specs.CountersHeld.{counters-hold, counters-length}
use Rattle.demand3.specs.NurseryHeld.{nursery-holds, nursery-state, entries-length, waiting-length, cells-length}
use Rattle.demand3.specs.Holding.{Fixed, Holds, fixed_of, delta-typed, holds-start, holds-taken, refused-same, settings-kept}
use Rattle.demand3.specs.TableWords.{all_words, counts-table, entries-table, waiting-table, cells-table}

-- ---- the cells are bytes
abbrev ByteCells : List Entry → Type 0
ByteCells es = all (λ e. all (λ b. ltb b 256) e.cell) es ≡ true

bytes-inserts : (es : List Entry) (s : State) → ByteCells es → ByteCells s.entries → ByteCells (fold insert es s).entries
unfolding fold all insert put_entry put_rows
bytes-inserts [] s a b = b
bytes-inserts (e ∷ es) s a b =
    let here = and_left (all (λ x. ltb x 256) e.cell) _ a in
    bytes-inserts es (insert e s) (and_right (all (λ x. ltb x 256) e.cell) _ a)
    (all-put (λ x. x.hash) e.hash (suc e.hash) (e ∷ []) s.entries (λ x. all (λ y. ltb y 256) x.cell) b (all_one (λ x. all (λ y. ltb y 256) x.cell) e here))

bytes-removes : (hs : List ℕ) (s : State) → ByteCells s.entries → ByteCells (fold remove hs s).entries
unfolding fold remove
bytes-removes [] s b = b
bytes-removes (h ∷ hs) s b = bytes-removes hs (remove h s) (all_keep (λ e. all (λ x. ltb x 256) e.cell) (λ e. not (eqb e.hash h)) s.entries b)

bytes_after : (delay : ℕ) (x : Call) (n : State) → typed x ≡ true → ByteCells n.entries → ByteCells (nursery_after delay x n).entries
unfolding nursery_after drained state_after
bytes_after delay allocate n t b = b
bytes_after delay (batch words) n t b = b
bytes_after delay (batch_records ts) n t b = b
bytes_after delay (delta id wide inserts removes items) n t b = go (delta_of (length_width wide) inserts removes items) refl
  where
    go : (o : Option Delta) → delta_of (length_width wide) inserts removes items ≡ o → ByteCells (maybe n (λ d. state_after d n) o).entries
    go none e = b
    go (some d) e =
        let read = delta-read (length_width wide) inserts removes items d (delta-typed id wide inserts removes items t).bytes e in
        bytes-removes d.removes (fold insert d.inserts n) (bytes-inserts d.inserts n read.cells b)
bytes_after delay (drain round out) n t b = b
bytes_after delay (get idx) n t b = b
bytes_after delay (shrink saved) n t b = b
bytes_after delay (adjust saved) n t b = b
bytes_after delay measure n t b = b
bytes_after delay (serialize out) n t b = b
bytes_after delay (lookup hash) n t b = b
bytes_after delay (locate hash) n t b = b
bytes_after delay (listing out) n t b = b

-- ---- after any calls
-- the box holds two states, and the cells are bytes
record HeldBytes (z : Fixed) (b : Box) : Type 0 where
  first : counts.State
  second : State
  holds : Holds z b first second
  bytes : ByteCells second.entries

held-step : {z : Fixed} {b : Box} (x : Call) → typed x ≡ true → HeldBytes z b → HeldBytes z (step b x).1
held-step {z} {b} x t h = go (accepted (step b x).0) refl
  where
    go : (ok : Bool) → accepted (step b x).0 ≡ ok → HeldBytes z (step b x).1
    go true e =
        record {
          first = counters_after z.settings.shrink x h.first;
          second = nursery_after z.settings.delay x h.second;
          holds = holds-taken h.holds x t e;
          bytes = bytes_after z.settings.delay x h.second t h.bytes;
        }
    go false e = rw (refused-same b h.holds.nursery x e) h

held-run : {z : Fixed} {b : Box} (xs : List Call) → all typed xs ≡ true → HeldBytes z b → HeldBytes z (run b xs)
unfolding run all
held-run [] t h = h
held-run {z = z} {b = b} (x ∷ xs) t h = held-run {b = (step b x).1} xs (and_right (typed x) (all typed xs) t) (held-step x (and_left (typed x) (all typed xs) t) h)

held-end : (a : History) → Typed a → HeldBytes (fixed_of a) (end a)
unfolding end empty all
held-end a t = held-run a.calls t.calls (record { first = fresh a.settings.shrink.base a.next; second = empty; holds = holds-start a t; bytes = refl })

pub record Kept (a : History) : Type 0 where
  pub counters-held : counters.holds (end a).counters (end a).counts ≡ true
  pub nursery-held : nursery.holds (end a).nursery (end a).entries (end a).waiting (end a).cells ≡ true
  -- the settings that it was made with
  pub settings : settings_of (end a) ≡ a.settings
  -- the tables' lengths
  pub counts_length : length (end a).counts ≡ length a.counts
  pub entries-length : length (end a).entries ≡ length a.entries
  pub waiting-length : length (end a).waiting ≡ length a.waiting
  pub cells-length : length (end a).cells ≡ length a.cells
  -- their words and bytes; an entry's row has the place of its cell, which is a u64 where the cells are a slice
  pub counts-words : U64 (end a).counts
  pub entries-words : length a.cells < 2 ^ 64 → U64 (end a).entries
  pub waiting-words : U64 (end a).waiting
  pub cell-bytes : all (λ b. ltb b 256) (end a).cells ≡ true
  -- each waiting row is that of an entry, and an entry waits once or not at all
  pub waiting_tied : tied (nursery_of (end a)) ≡ true

pub kept : (a : History) → Typed a → Kept a
kept a t =
    let h = held-end a t in
    let c = h.holds.counters in
    let n = h.holds.nursery in
    record {
      settings = settings-kept a t;
      counters-held = counters-hold c;
      nursery-held = nursery-holds n;
      counts_length = counters-length c;
      entries-length = entries-length n;
      waiting-length = waiting-length n;
      cells-length = cells-length n;
      counts-words = rw c.same_table (all_words _ (counts-table (length a.counts) h.first c.well));
      entries-words = λ l. rw n.same_entries (all_words _ (entries-table (length a.entries) h.second n.well (omega (arith, n.cells_fit))));
      waiting-words = rw n.same_waiting (all_words _ (waiting-table (length a.waiting) h.second n.well));
      cell-bytes = rw n.same_cells (cells-table (length a.cells) h.second h.bytes);
      waiting_tied = rw (nursery-state n) n.well.ties;
    }
