-- The states that a box holds are in step with the plain box: next, live, the count at each index, and the entry at each hash.
-- Assumes nothing.
use Rattle.std.specs.Prelude.{◌≡◌, Bool, List, [], ◌∷◌, ℕ, max, eqb}
use Rattle.std.proofs.Math.Path.{refl, ap}
use Rattle.std.proofs.Common.{sym, ◌∙◌}
use Rattle.std.proofs.Math.Bool.{true, false}
use Rattle.std.proofs.Math.Option.{Option, none, some}
use Rattle.base.specs.Logic.{pick, all, fold}
use Rattle.base.specs.Laws.{and_left, and_right}
use Rattle.base.specs.ListLaws.{fold-reads}
use Rattle.base.specs.Maybe.{maybe}
use Rattle.counters.specs.declared.ShrinkSettings.{ShrinkSettings}
use Rattle.counters.specs.Counts as counts
use Rattle.counters.specs.Counts.{stored_at, count_at, fresh}
use Rattle.counters.specs.declared.CounterTransition.{CounterTransition}
use Rattle.counters.specs.Batch as batches
use Rattle.counters.specs.Batch.{kept}
use Rattle.counters.proofs.BatchLaws.{count_at-counts_after}
use Rattle.counters.specs.Layout.{batch_of}
use Rattle.cell_nursery.specs.Entries as entries
use Rattle.cell_nursery.specs.Entries.{Entry, empty, insert, remove}
use Rattle.cell_nursery.specs.Items.{Delta, delta_of}
use Rattle.cell_nursery.specs.Delta.{state_after}
use Rattle.cell_nursery.specs.Drain.{drained}
use Rattle.cell_nursery.specs.Calls.{length_width}
use Rattle.cell_nursery.proofs.EntryLaws.{entry_at, entry_at-put, entry_at-removed}
use Rattle.node_box.specs.Box.{Box, Call, allocate, batch, batch_records, delta, drain, get, shrink, adjust, measure, serialize, lookup, locate, listing, step, run, accepted, answers}
use Rattle.node_box.specs.Plain.{Plain, Cell, fresh_plain, set_at, plain_batch, plain_delta, plain_taken, plain_step, run_plain}
use Rattle.node_box.specs.Demand.{typed, History, Typed, end, plain}
use Rattle.demand3.specs.States.{counters_after, nursery_after}
use Rattle.demand3.specs.Holding.{Fixed, Holds, fixed_of, holds-start, holds-taken, refused-same}

-- an entry without its hash
abbrev pub cell_of : Entry → Cell
cell_of e = record { idx = e.idx; born = e.born; cell = e.cell }

-- what the plain box has at a hash
abbrev pub cell_at : ℕ → List Entry → Option Cell
cell_at h es = maybe none (λ e. some (cell_of e)) (entry_at h es)

pub record Agrees (p : Plain) (c : counts.State) (n : entries.State) : Type 0 where
  pub next : p.next ≡ c.next
  pub live : p.live ≡ c.live
  pub count : (i : ℕ) → p.count i ≡ count_at i c.counts
  pub entry : (h : ℕ) → p.entry h ≡ cell_at h n.entries

pub agrees-fresh : (base next : ℕ) → Agrees (fresh_plain next) (fresh base next) empty
unfolding fresh_plain fresh empty count_at stored_at entry_at
agrees-fresh base next = record { next = refl; live = refl; count = λ i. refl; entry = λ h. refl }

-- ---- values set one after the other
module _ {A B : Type 0} (key : A → ℕ) (value : A → B) where
  set-all : (xs : List A) (f : ℕ → B) (i : ℕ) → fold (λ x. set_at (key x) (value x)) xs f i ≡ fold (λ x b. pick (eqb i (key x)) (value x) b) xs (f i)
  unfolding set_at
  set-all xs f i = fold-reads (λ x. set_at (key x) (value x)) (λ x b. pick (eqb i (key x)) (value x) b) (λ g. g i) (λ x g. refl) xs f

-- ---- a batch
agrees-batch : (ts : List CounterTransition) (p : Plain) (c : counts.State) (n : entries.State) → Agrees p c n → Agrees (plain_batch ts p) (batches.state_after ts c) n
unfolding plain_batch batches.state_after
agrees-batch ts p c n a =
    record {
      next = a.next;
      live = rw a.live;
      count = λ i. set-all (λ t. t.idx.0) (λ t. max t.new_raw 1) ts p.count i ∙ rw (a.count i) (sym (count_at-counts_after i ts c.counts));
      entry = a.entry;
    }

-- ---- a delta
module _ (h : ℕ) where
  cell-insert : (e : Entry) (s : entries.State) → cell_at h (insert e s).entries ≡ pick (eqb h e.hash) (some (cell_of e)) (cell_at h s.entries)
  unfolding insert
  cell-insert e s = rw (entry_at-put h e s.entries) (go (eqb h e.hash) (entry_at h s.entries))
    where
      go : (b : Bool) (o : Option Entry) → maybe none (λ x. some (cell_of x)) (pick b (some e) o) ≡ pick b (some (cell_of e)) (maybe none (λ x. some (cell_of x)) o)
      go true o = refl
      go false o = refl

  cell-remove : (g : ℕ) (s : entries.State) → cell_at h (remove g s).entries ≡ pick (eqb h g) none (cell_at h s.entries)
  unfolding remove
  cell-remove g s = rw (entry_at-removed h g s.entries) (go (eqb h g) (entry_at h s.entries))
    where
      go : (b : Bool) (o : Option Entry) → maybe none (λ x. some (cell_of x)) (pick b none o) ≡ pick b none (maybe none (λ x. some (cell_of x)) o)
      go true o = refl
      go false o = refl

  cell-after : (d : Delta) (s : entries.State) → cell_at h (state_after d s).entries
      ≡ fold (λ g b. pick (eqb h g) none b) d.removes (fold (λ e b. pick (eqb h e.hash) (some (cell_of e)) b) d.inserts (cell_at h s.entries))
  unfolding state_after
  cell-after d s =
      fold-reads remove (λ g b. pick (eqb h g) none b) (λ x. cell_at h x.entries) cell-remove d.removes (fold insert d.inserts s)
      ∙ ap (λ (o : Option Cell). fold (λ g b. pick (eqb h g) none b) d.removes o)
      (fold-reads insert (λ e b. pick (eqb h e.hash) (some (cell_of e)) b) (λ x. cell_at h x.entries) cell-insert d.inserts s)

agrees-delta : (d : Delta) (p : Plain) (c : counts.State) (n : entries.State) → Agrees p c n → Agrees (plain_delta d p) c (state_after d n)
unfolding plain_delta
agrees-delta d p c n a =
    record {
      next = a.next;
      live = a.live;
      count = a.count;
      entry =
          λ h.
          set-all (λ g. g) (λ g. none) d.removes (fold (λ e. set_at e.hash (some (cell_of e))) d.inserts p.entry) h
          ∙ rw (set-all (λ e. e.hash) (λ e. some (cell_of e)) d.inserts p.entry h, a.entry h) (sym (cell-after h d n));
    }

-- ---- a call
pub agrees-taken : (g : ShrinkSettings) (delay : ℕ) (x : Call) (p : Plain) (c : counts.State) (n : entries.State) → Agrees p c n → Agrees (plain_taken p x) (counters_after g x c) (nursery_after delay x n)
unfolding plain_taken counters_after nursery_after drained
agrees-taken g delay allocate p c n a = record { next = rw a.next; live = a.live; count = a.count; entry = a.entry }
agrees-taken g delay (batch words) p c n a = go (batch_of words)
  where
    go : (o : Option (List CounterTransition)) → Agrees (maybe p (λ ts. plain_batch (kept ts) p) o) (maybe c (λ ts. batches.state_after (kept ts) c) o) n
    go none = a
    go (some ts) = agrees-batch (kept ts) p c n a
agrees-taken g delay (batch_records ts) p c n a = agrees-batch (kept ts) p c n a
agrees-taken g delay (delta id wide inserts removes items) p c n a = go (delta_of (length_width wide) inserts removes items)
  where
    go : (o : Option Delta) → Agrees (maybe p (λ d. plain_delta d p) o) c (maybe n (λ d. state_after d n) o)
    go none = a
    go (some d) = agrees-delta d p c n a
agrees-taken g delay (drain round out) p c n a = record { next = a.next; live = a.live; count = a.count; entry = a.entry }
agrees-taken g delay (get idx) p c n a = a
agrees-taken g delay (shrink saved) p c n a = record { next = a.next; live = a.live; count = a.count; entry = a.entry }
agrees-taken g delay (adjust saved) p c n a = record { next = a.next; live = a.live; count = a.count; entry = a.entry }
agrees-taken g delay measure p c n a = a
agrees-taken g delay (serialize out) p c n a = a
agrees-taken g delay (lookup hash) p c n a = a
agrees-taken g delay (locate hash) p c n a = a
agrees-taken g delay (listing out) p c n a = a

-- ---- a box and its plain box
pub record InStep (z : Fixed) (b : Box) (p : Plain) : Type 0 where
  pub counters : counts.State
  pub nursery : entries.State
  pub holds : Holds z b counters nursery
  pub agrees : Agrees p counters nursery

step-in-step : {z : Fixed} {b : Box} {p : Plain} (x : Call) → typed x ≡ true → InStep z b p → InStep z (step b x).1 (plain_step p x (accepted (step b x).0))
unfolding plain_step
step-in-step {z} {b} {p} x t s = go (accepted (step b x).0) refl
  where
    go : (ok : Bool) → accepted (step b x).0 ≡ ok → InStep z (step b x).1 (pick ok (plain_taken p x) p)
    go true e =
        record {
          counters = counters_after z.settings.shrink x s.counters;
          nursery = nursery_after z.settings.delay x s.nursery;
          holds = holds-taken s.holds x t e;
          agrees = agrees-taken z.settings.shrink z.settings.delay x p s.counters s.nursery s.agrees;
        }
    go false e = rw (refused-same _ s.holds.nursery x e) s

run-in-step : {z : Fixed} {b : Box} {p : Plain} (xs : List Call) → all typed xs ≡ true → InStep z b p → InStep z (run b xs) (run_plain p xs (answers b xs))
unfolding run run_plain answers all
run-in-step [] t s = s
run-in-step {z = z} {b = b} {p = p} (x ∷ xs) t s = run-in-step {b = (step b x).1} {p = plain_step p x (accepted (step b x).0)} xs (and_right (typed x) (all typed xs) t) (step-in-step x (and_left (typed x) (all typed xs) t) s)

-- after any calls the box is in step with its plain box
pub in_step : (h : History) → Typed h → InStep (fixed_of h) (end h) (plain h)
unfolding end plain
in_step h t =
    run-in-step h.calls t.calls
    (record { counters = fresh h.settings.shrink.base h.next; nursery = empty; holds = holds-start h t; agrees = agrees-fresh h.settings.shrink.base h.next })
