-- Inserts and removes in turn: what holds of the tables between two of them.
-- Assumes nothing.
use Rattle.std.specs.Prelude.{◌≡◌, true, false, List, [], ◌∷◌, ltb}
use Rattle.std.proofs.Math.Path.{sym, ap, ap₂}
use Rattle.std.proofs.Common.{◌∙◌, arith}
use Prim.Native.Nat.{ℕ, ◌+◌, ◌/◌, ◌≤◌, min}
use Rattle.std.proofs.Math.ListN.{length}
use borrow.Author.Tests.{ltb-false}
use Rattle.base.specs.Logic.{all, fold, sum_of}
use Rattle.base.specs.Laws.{and_left, and_right}
use Rattle.base.specs.SumLaws.{or_left, or_right}
use Rattle.cell_nursery.specs.declared.Nursery.{Nursery}
use Rattle.cell_nursery.specs.Entries.{Entry, State, cell_bytes, insert, remove}
use Rattle.cell_nursery.specs.Items.{Delta}
use Rattle.cell_nursery.specs.Delta.{present, full, state_after}
use Rattle.cell_nursery.specs.Layout.{record_of, entries_table, waiting_table, cells_table, room_of, state_of, delay_in_range, holds}
use Rattle.cell_nursery.specs.Calls.{Changed, laid}
use Rattle.cell_nursery.specs.Held.{U64, fits_item, WellFormed, Held, Absent}
use Rattle.cell_nursery.proofs.LayoutLaws.{held, number-entries, bytes_same, length-entries_table, length-waiting_table, length-cells_table, state_of-laid, holds-laid}
use Rattle.cell_nursery.proofs.WaitLaws.{present-absent, first_absent, still-absent}
use Rattle.cell_nursery.proofs.EntryLaws.{well-insert, well-remove, number-insert-le, number-remove, bytes-insert-le, bytes-remove, well-after, InRoom, room_after}
use Rattle.nursery_steps.specs.Steps.{left, Insertable}

-- ---- entries that a state takes in turn: none is there or comes twice, and there is room for all
pub record Ready (rows bytes : ℕ) (s : State) (es : List Entry) : Type 0 where
  pub well : WellFormed s
  pub fits : all fits_item es ≡ true
  pub absent : Absent es s
  pub rows_fit : length s.entries + length es ≤ rows
  pub bytes_fit : cell_bytes s.entries + cell_bytes es ≤ bytes

ready-next : (rows bytes : ℕ) (s : State) (e : Entry) (es : List Entry) → Ready rows bytes s (e ∷ es) → Ready rows bytes (insert e s) es
unfolding all cell_bytes sum_of
ready-next rows bytes s e es r =
    record {
      well = well-insert e s (and_left _ _ r.fits) (first_absent e es s r.absent) r.well;
      fits = and_right (fits_item e) _ r.fits;
      absent = still-absent e es s r.absent;
      rows_fit = omega (arith, r.rows_fit, number-insert-le e s);
      bytes_fit = omega (arith, r.bytes_fit, bytes-insert-le e s);
    }

-- ---- tables that a step left for a state hold it
module _ (delay : ℕ) (in_range : delay_in_range delay ≡ true) (es ws cs : List ℕ) (s : State) (ok : WellFormed s) (room : length s.entries ≤ min (length es / 8) (length ws / 5)) (cells : cell_bytes s.entries ≤ length cs)
    (q : Nursery) (es' ws' cs' : List ℕ) (e : left q es' ws' cs' ≡ laid delay es ws cs s) where
  the-record : q ≡ record_of delay s
  unfolding laid
  the-record = ap (λ (c : Changed). c.result.nursery) e

  the-entries : es' ≡ entries_table (length es) s
  unfolding laid
  the-entries = ap (λ (c : Changed). c.entries) e

  the-waiting : ws' ≡ waiting_table (length ws) s
  unfolding laid
  the-waiting = ap (λ (c : Changed). c.waiting) e

  the-cells : cs' ≡ cells_table (length cs) s
  unfolding laid
  the-cells = ap (λ (c : Changed). c.cells) e

  held_after : holds q es' ws' cs' ≡ true
  held_after = rw (the-record, the-entries, the-waiting, the-cells) (holds-laid s (length es) (length ws) (length cs) ok room cells delay in_range)

  state-after : state_of q es' ws' cs' ≡ s
  state-after = rw (the-record, the-entries, the-waiting, the-cells) (state_of-laid s (length es) (length ws) (length cs) ok room cells delay)

  size-es : length es' ≡ length es
  size-es = rw the-entries (length-entries_table s (length es) (length ws) (length cs) ok room cells)

  size-ws : length ws' ≡ length ws
  size-ws = rw the-waiting (length-waiting_table s (length es) (length ws) (length cs) ok room cells)

  size-cs : length cs' ≡ length cs
  size-cs = rw the-cells (length-cells_table s (length es) (length ws) (length cs) ok room cells)

-- ---- tables of the first lengths that hold a state, of which a step is left to do: `ahead` makes the state that is wanted
module _ (delay : ℕ) (es₀ ws₀ cs₀ : List ℕ) (goal : State) where
  pub record Running (ahead : State → State) (r : Nursery) (es ws cs : List ℕ) : Type 0 where
    pub u64_es : U64 es
    pub u64_ws : U64 ws
    pub holding : holds r es ws cs ≡ true
    pub same_delay : r.delay ≡ delay
    pub size-es : length es ≡ length es₀
    pub size-ws : length ws ≡ length ws₀
    pub size-cs : length cs ≡ length cs₀
    pub leads : ahead (state_of r es ws cs) ≡ goal

  -- nothing is left to do
  running-done : (r : Nursery) (es ws cs : List ℕ) → Running (λ s. s) r es ws cs → left r es ws cs ≡ laid delay es₀ ws₀ cs₀ goal
  unfolding laid
  running-done r es ws cs m =
      let h : Held r es ws cs = held r es ws cs m.u64_es m.u64_ws m.holding in
      let a : r ≡ record_of delay goal = sym h.same_record ∙ ap₂ record_of m.same_delay m.leads in
      let b : es ≡ entries_table (length es₀) goal = sym h.same_entries ∙ rw (m.size-es, m.leads) in
      let c : ws ≡ waiting_table (length ws₀) goal = sym h.same_waiting ∙ rw (m.size-ws, m.leads) in
      let d : cs ≡ cells_table (length cs₀) goal = sym h.same_cells ∙ rw (m.size-cs, m.leads) in
      rw (a, b, c, d)

  -- a step is done
  running-next : (f : State → State) (ahead : State → State) (r : Nursery) (es ws cs : List ℕ) → Running (λ s. ahead (f s)) r es ws cs → WellFormed (f (state_of r es ws cs))
      → length (f (state_of r es ws cs)).entries ≤ min (length es / 8) (length ws / 5) → cell_bytes (f (state_of r es ws cs)).entries ≤ length cs
      → (q : Nursery) (es' ws' cs' : List ℕ) → U64 es' → U64 ws' → left q es' ws' cs' ≡ laid r.delay es ws cs (f (state_of r es ws cs)) → Running ahead q es' ws' cs'
  running-next f ahead r es ws cs m ok room cells q es' ws' cs' u v e =
      let s : State = f (state_of r es ws cs) in
      let o = (held r es ws cs m.u64_es m.u64_ws m.holding).entries.delay in
      record {
        u64_es = u;
        u64_ws = v;
        holding = held_after r.delay o es ws cs s ok room cells q es' ws' cs' e;
        same_delay = ap (λ (n : Nursery). n.delay) (the-record r.delay o es ws cs s ok room cells q es' ws' cs' e) ∙ (unfold record_of in m.same_delay);
        size-es = size-es r.delay o es ws cs s ok room cells q es' ws' cs' e ∙ m.size-es;
        size-ws = size-ws r.delay o es ws cs s ok room cells q es' ws' cs' e ∙ m.size-ws;
        size-cs = size-cs r.delay o es ws cs s ok room cells q es' ws' cs' e ∙ m.size-cs;
        leads = rw (state-after r.delay o es ws cs s ok room cells q es' ws' cs' e) m.leads;
      }

  -- ---- inserts
  pub record Inserting (es : List Entry) (r : Nursery) (ts ws cs : List ℕ) : Type 0 where
    pub running : Running (fold insert es) r ts ws cs
    pub ready : Ready (min (length es₀ / 8) (length ws₀ / 5)) (length cs₀) (state_of r ts ws cs) es

  module _ (e : Entry) (es : List Entry) (r : Nursery) (ts ws cs : List ℕ) (m : Inserting (e ∷ es) r ts ws cs) where
    pub insertable : Insertable r ts ws cs e
    unfolding room_of cell_bytes sum_of
    insertable =
        let y = m.ready in
        let g = m.running in
        record {
          held = g.holding;
          absent = first_absent e es (state_of r ts ws cs) y.absent;
          rows = omega (arith, y.rows_fit, g.size-es, g.size-ws);
          bytes = omega (arith, y.bytes_fit, g.size-cs);
        }

    pub inserting-next : (q : Nursery) (ts' ws' cs' : List ℕ) → U64 ts' → U64 ws' → left q ts' ws' cs' ≡ laid r.delay ts ws cs (insert e (state_of r ts ws cs)) → Inserting es q ts' ws' cs'
    unfolding fold
    inserting-next q ts' ws' cs' u v eq =
        let g = m.running in
        let s : State = insert e (state_of r ts ws cs) in
        let y = ready-next (min (length es₀ / 8) (length ws₀ / 5)) (length cs₀) (state_of r ts ws cs) e es m.ready in
        let room : length s.entries ≤ min (length ts / 8) (length ws / 5) = omega (arith, y.rows_fit, g.size-es, g.size-ws) in
        let cells : cell_bytes s.entries ≤ length cs = omega (arith, y.bytes_fit, g.size-cs) in
        let o = (held r ts ws cs g.u64_es g.u64_ws g.holding).entries.delay in
        record {
          running = running-next (insert e) (fold insert es) r ts ws cs g y.well room cells q ts' ws' cs' u v eq;
          ready = rw (state-after r.delay o ts ws cs s y.well room cells q ts' ws' cs' eq) y;
        }

  pub inserting-done : (r : Nursery) (ts ws cs : List ℕ) → Inserting [] r ts ws cs → left r ts ws cs ≡ laid delay es₀ ws₀ cs₀ goal
  unfolding fold
  inserting-done r ts ws cs m = running-done r ts ws cs m.running

  -- ---- removes
  pub removing-done : (r : Nursery) (es ws cs : List ℕ) → Running (fold remove []) r es ws cs → left r es ws cs ≡ laid delay es₀ ws₀ cs₀ goal
  unfolding fold
  removing-done r es ws cs m = running-done r es ws cs m

  pub removing-next : (h : ℕ) (hs : List ℕ) (r : Nursery) (es ws cs : List ℕ) → Running (fold remove (h ∷ hs)) r es ws cs
      → (q : Nursery) (es' ws' cs' : List ℕ) → U64 es' → U64 ws' → left q es' ws' cs' ≡ laid r.delay es ws cs (remove h (state_of r es ws cs)) → Running (fold remove hs) q es' ws' cs'
  unfolding fold
  removing-next h hs r es ws cs m q es' ws' cs' u v eq =
      let x : Held r es ws cs = held r es ws cs m.u64_es m.u64_ws m.holding in
      let now : length (state_of r es ws cs).entries ≡ r.entries = unfold state_of in (number-entries r es cs) in
      let bytes : cell_bytes (state_of r es ws cs).entries ≡ r.cell_bytes = unfold state_of in (bytes_same r es cs x.entries x.cells) in
      running-next (remove h) (fold remove hs) r es ws cs m (well-remove h (state_of r es ws cs) x.well)
      (omega (arith, number-remove h (state_of r es ws cs), x.room, now))
      (omega (arith, bytes-remove h (state_of r es ws cs), bytes, x.cells.fits))
      q es' ws' cs' u v eq

-- ---- a whole delta: inserts, then removes

-- the tables hold a state that takes the delta
pub record Applicable (r : Nursery) (es ws cs : List ℕ) (d : Delta) : Type 0 where
  pub held : holds r es ws cs ≡ true
  pub fits : all fits_item d.inserts ≡ true
  pub fresh : present (state_of r es ws cs) d ≡ false
  pub room : full (room_of es ws cs) (state_of r es ws cs) d ≡ false

module _ (r : Nursery) (es ws cs : List ℕ) (u : U64 es) (v : U64 ws) (o : holds r es ws cs ≡ true) (d : Delta) (fits : all fits_item d.inserts ≡ true)
    (new : present (state_of r es ws cs) d ≡ false) (room : full (room_of es ws cs) (state_of r es ws cs) d ≡ false) where
  -- the inserts of the delta alone
  abbrev only_inserts : Delta
  only_inserts = record { inserts = d.inserts; removes = [] }

  in-range : delay_in_range r.delay ≡ true
  in-range = (held r es ws cs u v o).entries.delay

  well-mid : WellFormed (fold insert d.inserts (state_of r es ws cs))
  unfolding state_after fold present
  well-mid = well-after only_inserts (state_of r es ws cs) fits new (held r es ws cs u v o).well

  room_mid : InRoom (room_of es ws cs).entries (room_of es ws cs).cells (fold insert d.inserts (state_of r es ws cs))
  unfolding state_after fold full
  room_mid = room_after (room_of es ws cs) only_inserts (state_of r es ws cs) room

  rows-mid : length (fold insert d.inserts (state_of r es ws cs)).entries ≤ min (length es / 8) (length ws / 5)
  unfolding room_of
  rows-mid = room_mid.rows_fit

  bytes-mid : cell_bytes (fold insert d.inserts (state_of r es ws cs)).entries ≤ length cs
  unfolding room_of
  bytes-mid = room_mid.bytes_fit

  -- what is ready for the inserts
  pub ready-start : Ready (min (length es / 8) (length ws / 5)) (length cs) (state_of r es ws cs) d.inserts
  unfolding full room_of
  ready-start =
      let s : State = state_of r es ws cs in
      record {
        well = (held r es ws cs u v o).well;
        fits = fits;
        absent = present-absent s d new;
        rows_fit = ltb-false (min (length es / 8) (length ws / 5)) (length s.entries + length d.inserts) (or_left _ _ room);
        bytes_fit = ltb-false (length cs) (cell_bytes s.entries + cell_bytes d.inserts) (or_right (ltb (min (length es / 8) (length ws / 5)) (length s.entries + length d.inserts)) _ room);
      }

  module _ (q : Nursery) (es₁ ws₁ cs₁ : List ℕ) (e : left q es₁ ws₁ cs₁ ≡ laid r.delay es ws cs (fold insert d.inserts (state_of r es ws cs))) where
    pub held-mid : holds q es₁ ws₁ cs₁ ≡ true
    held-mid = held_after r.delay in-range es ws cs (fold insert d.inserts (state_of r es ws cs)) well-mid rows-mid bytes-mid q es₁ ws₁ cs₁ e

    pub delta-done : (t : Nursery) (es₂ ws₂ cs₂ : List ℕ) → left t es₂ ws₂ cs₂ ≡ laid q.delay es₁ ws₁ cs₁ (fold remove d.removes (state_of q es₁ ws₁ cs₁))
        → left t es₂ ws₂ cs₂ ≡ laid r.delay es ws cs (fold remove d.removes (fold insert d.inserts (state_of r es ws cs)))
    unfolding laid
    delta-done t es₂ ws₂ cs₂ f =
        let s : State = fold insert d.inserts (state_of r es ws cs) in
        let same_delay : q.delay ≡ r.delay = unfold record_of in (ap (λ (n : Nursery). n.delay) (the-record r.delay in-range es ws cs s well-mid rows-mid bytes-mid q es₁ ws₁ cs₁ e)) in
        f
        ∙ rw (
          size-es r.delay in-range es ws cs s well-mid rows-mid bytes-mid q es₁ ws₁ cs₁ e,
          size-ws r.delay in-range es ws cs s well-mid rows-mid bytes-mid q es₁ ws₁ cs₁ e,
          size-cs r.delay in-range es ws cs s well-mid rows-mid bytes-mid q es₁ ws₁ cs₁ e,
          state-after r.delay in-range es ws cs s well-mid rows-mid bytes-mid q es₁ ws₁ cs₁ e,
          same_delay,
        )
