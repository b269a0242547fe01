-- A box that started fresh always holds a state: after every call its records and tables are those of two states, its tables are as long as
-- they were, and every waiting row is an entry's.
-- Assumes nothing.
use Rattle.std.specs.Prelude.{◌≡◌, Bool, true, false, ◌&&◌, List, [], ◌∷◌, ℕ, ◌^◌, ◌<◌, length, ltb}
use Rattle.std.proofs.Math.Path.{refl}
use Rattle.std.proofs.Common.{ap, ◌∙◌, true≢false, ltb-true}
use Rattle.std.proofs.lemmas.Bool.{false≢true}
use Rattle.base.specs.Logic.{all, zeros}
use Rattle.base.specs.Laws.{and_left, and_right}
use Rattle.base.specs.Answers.{Answer, Taken, Refused}
use Rattle.base.specs.declared.Refusal.{Refusal}
use Rattle.counters.specs.declared.ShrinkSettings.{ShrinkSettings}
use Rattle.counters.specs.Counts as counts
use Rattle.counters.specs.Counts.{fresh}
use Rattle.counters.specs.Maintenance.{in_range}
use Rattle.counters.specs.Layout.{record_of, with_maintenance, words_of}
use Rattle.counters.proofs.CallLaws.{alloc-refused, batch-refused, shrink-refused, alloc-settings, batch-settings, shrink-settings}
use Rattle.cell_nursery.specs.Entries as entries
use Rattle.cell_nursery.specs.Entries.{empty}
use Rattle.cell_nursery.specs.Layout as nursery
use Rattle.cell_nursery.specs.Layout.{delay_in_range}
use Rattle.cell_nursery.proofs.SettingLaws.{delta-delay, drain-delay}
use Rattle.base.specs.SpellLaws.{Bytes}
use Rattle.node_box.specs.Box.{Settings, settings_in_range, settings_of, Box, Call, allocate, batch, batch_records, delta, drain, get, shrink, adjust, measure, serialize, lookup, locate, listing, made, accepted, with_counters, with_nursery, step, run}
use Rattle.node_box.specs.Demand.{typed, History, Typed, start, end}
use Rattle.demand3.specs.States.{counters_after, nursery_after}
use Rattle.demand3.specs.CountersHeld.{CountersHeld, new-held, alloc-held, batch-held-after, records-held-after, adjust-held-after, shrink-held-after}
use Rattle.demand3.specs.NurseryHeld.{NurseryHeld, new-nursery, delta-taken, delta-refused, delta-held, drain-held, drain-refused}

-- what no call changes: the settings, and how long the four tables are
pub record Fixed : Type 0 where
  pub settings : Settings
  pub counts : ℕ
  pub entries : ℕ
  pub waiting : ℕ
  pub cells : ℕ

-- the box holds the two states under these settings, in tables of these lengths
pub record Holds (z : Fixed) (b : Box) (c : counts.State) (n : entries.State) : Type 0 where
  pub counters : CountersHeld z.settings.shrink z.counts b.counters b.counts c
  pub nursery : NurseryHeld z.settings.delay z.entries z.waiting z.cells b.nursery b.entries b.waiting b.cells n

-- ---- answers
pub answer-taken : (a : Answer) → accepted a ≡ true → a ≡ Taken
unfolding accepted
answer-taken Taken e = refl
answer-taken (Refused r) e = absurd (false≢true e)

pub answer-refused : (a : Answer) → accepted a ≡ false → (r : Refusal) × (a ≡ Refused r)
unfolding accepted
answer-refused Taken e = absurd (true≢false e)
answer-refused (Refused r) e = (r, refl)

-- ---- a delta's arguments
pub record DeltaTyped (id : ℕ) (items : List ℕ) : Type 0 where
  pub small_id : id < 2 ^ 64
  pub bytes : Bytes items

pub delta-typed : (id : ℕ) (wide : Bool) (inserts removes : ℕ) (items : List ℕ) → typed (delta id wide inserts removes items) ≡ true → DeltaTyped id items
unfolding typed
delta-typed id wide inserts removes items t =
    let a = ltb id (2 ^ 64) in
    let b = ltb inserts (2 ^ 64) in
    let c = ltb removes (2 ^ 64) in
    let abc = and_left (a && b && c) (all (λ x. ltb x 256) items) t in
    record { small_id = ltb-true id (2 ^ 64) (and_left a b (and_left (a && b) c abc)); bytes = and_right (a && b && c) (all (λ x. ltb x 256) items) t }

-- ---- a call
-- an accepted one makes its next state of each of the two
module _ {g : ShrinkSettings} {len : ℕ} (b : Box) {c : counts.State} (h : CountersHeld g len b.counters b.counts c) where
  counters-taken : (x : Call) → typed x ≡ true → accepted (step b x).0 ≡ true → CountersHeld g len (step b x).1.counters (step b x).1.counts (counters_after g x c)
  unfolding step with_counters with_nursery counters_after typed
  counters-taken allocate t e = alloc-held h (answer-taken _ e)
  counters-taken (batch words) t e = batch-held-after h words t (answer-taken _ e)
  counters-taken (batch_records ts) t e = records-held-after h ts t (answer-taken _ e)
  counters-taken (delta id wide inserts removes items) t e = h
  counters-taken (drain round out) t e = h
  counters-taken (get idx) t e = h
  counters-taken (shrink saved) t e = shrink-held-after h saved
  counters-taken (adjust saved) t e = adjust-held-after h saved
  counters-taken measure t e = h
  counters-taken (serialize out) t e = h
  counters-taken (lookup hash) t e = h
  counters-taken (locate hash) t e = h
  counters-taken (listing out) t e = h

module _ {delay le lw lc : ℕ} (b : Box) {n : entries.State} (h : NurseryHeld delay le lw lc b.nursery b.entries b.waiting b.cells n) where
  pub nursery-taken : (x : Call) → typed x ≡ true → accepted (step b x).0 ≡ true
      → let b' = (step b x).1 in NurseryHeld delay le lw lc b'.nursery b'.entries b'.waiting b'.cells (nursery_after delay x n)
  unfolding step with_counters with_nursery nursery_after
  nursery-taken allocate t e = h
  nursery-taken (batch words) t e = h
  nursery-taken (batch_records ts) t e = h
  nursery-taken (delta id wide inserts removes items) t e =
      delta-held h wide inserts removes items id (delta-typed id wide inserts removes items t).bytes (delta-taken h wide inserts removes items (answer-taken _ e))
  nursery-taken (drain round out) t e = drain-held h round _ (answer-taken _ e)
  nursery-taken (get idx) t e = h
  nursery-taken (shrink saved) t e = h
  nursery-taken (adjust saved) t e = h
  nursery-taken measure t e = h
  nursery-taken (serialize out) t e = h
  nursery-taken (lookup hash) t e = h
  nursery-taken (locate hash) t e = h
  nursery-taken (listing out) t e = h

  -- a refused one leaves the box as it was
  pub refused-same : (x : Call) → accepted (step b x).0 ≡ false → (step b x).1 ≡ b
  unfolding step with_counters with_nursery accepted
  refused-same allocate e = let r = answer-refused _ e in rw (alloc-refused b.counters r.0 r.1).1
  refused-same (batch words) e =
      let r = answer-refused _ e in
      let q = batch-refused b.counters b.counts words r.0 r.1 in
      rw (q.0, q.1)
  refused-same (batch_records ts) e =
      let r = answer-refused _ e in
      let q = batch-refused b.counters b.counts (words_of ts) r.0 r.1 in
      rw (q.0, q.1)
  refused-same (delta id wide inserts removes items) e =
      let r = answer-refused _ e in
      let q = delta-refused h wide inserts removes items r.0 r.1 in
      rw (q.0, q.1, q.2, q.3)
  refused-same (drain round out) e =
      let r = answer-refused _ e in
      let q = drain-refused h round (zeros out) r.0 r.1 in
      rw (q.0, q.1)
  refused-same (get idx) e = refl
  refused-same (shrink saved) e = let r = answer-refused _ e in rw (shrink-refused b.counters b.counts saved r.0 r.1)
  refused-same (adjust saved) e = absurd (true≢false e)
  refused-same measure e = refl
  refused-same (serialize out) e = refl
  refused-same (lookup hash) e = refl
  refused-same (locate hash) e = refl
  refused-same (listing out) e = refl

pub holds-taken : {z : Fixed} {b : Box} {c : counts.State} {n : entries.State} → Holds z b c n → (x : Call) → typed x ≡ true → accepted (step b x).0 ≡ true
    → Holds z (step b x).1 (counters_after z.settings.shrink x c) (nursery_after z.settings.delay x n)
holds-taken {b = b} h x t e = record { counters = counters-taken b h.counters x t e; nursery = nursery-taken b h.nursery x t e }

-- ---- a box as it is made, and after any calls
abbrev pub fixed_of : History → Fixed
fixed_of h = record { settings = h.settings; counts = length h.counts; entries = length h.entries; waiting = length h.waiting; cells = length h.cells }

pub holds-start : (h : History) → Typed h → Holds (fixed_of h) (start h) (fresh h.settings.shrink.base h.next) empty
unfolding start made settings_in_range
holds-start h t =
    let g = h.settings in
    record {
      counters = new-held g.shrink h.next h.counts (and_right (delay_in_range g.delay) (in_range g.shrink) t.settings) t.next;
      nursery = new-nursery g.delay h.entries h.waiting h.cells (and_left (delay_in_range g.delay) (in_range g.shrink) t.settings);
    }

-- the box holds two states
pub record Holding (z : Fixed) (b : Box) : Type 0 where
  pub counters : counts.State
  pub nursery : entries.State
  pub holds : Holds z b counters nursery

pub holding-step : {z : Fixed} {b : Box} (x : Call) → typed x ≡ true → Holding z b → Holding z (step b x).1
holding-step {z} {b} x t h = go (accepted (step b x).0) refl
  where
    go : (ok : Bool) → accepted (step b x).0 ≡ ok → Holding z (step b x).1
    go true e = record { counters = counters_after z.settings.shrink x h.counters; nursery = nursery_after z.settings.delay x h.nursery; holds = holds-taken h.holds x t e }
    go false e = rw (refused-same b h.holds.nursery x e) h

pub holding-run : {z : Fixed} {b : Box} (xs : List Call) → all typed xs ≡ true → Holding z b → Holding z (run b xs)
unfolding run all
holding-run [] t h = h
holding-run {z = z} {b = b} (x ∷ xs) t h = holding-run {b = (step b x).1} xs (and_right (typed x) (all typed xs) t) (holding-step x (and_left (typed x) (all typed xs) t) h)

-- a box that started fresh always holds a state
pub holding : (h : History) → Typed h → Holding (fixed_of h) (end h)
unfolding end
holding h t = holding-run h.calls t.calls (record { counters = fresh h.settings.shrink.base h.next; nursery = empty; holds = holds-start h t })

-- no call changes the settings: of any record and tables
pub step-settings : (b : Box) (x : Call) → settings_of (step b x).1 ≡ settings_of b
unfolding step with_counters with_nursery with_maintenance
step-settings b allocate = ap (λ (g : ShrinkSettings). record { delay = b.nursery.delay; shrink = g }) (alloc-settings b.counters)
step-settings b (batch words) = ap (λ (g : ShrinkSettings). record { delay = b.nursery.delay; shrink = g }) (batch-settings b.counters b.counts words)
step-settings b (batch_records ts) = ap (λ (g : ShrinkSettings). record { delay = b.nursery.delay; shrink = g }) (batch-settings b.counters b.counts (words_of ts))
step-settings b (delta id wide inserts removes items) =
    ap (λ (d : ℕ). record { delay = d; shrink = b.counters.settings }) (delta-delay b.nursery b.entries b.waiting b.cells wide inserts removes items)
step-settings b (drain round out) =
    ap (λ (d : ℕ). record { delay = d; shrink = b.counters.settings }) (drain-delay b.nursery b.entries b.waiting b.cells round (zeros out))
step-settings b (get idx) = refl
step-settings b (shrink saved) = ap (λ (g : ShrinkSettings). record { delay = b.nursery.delay; shrink = g }) (shrink-settings b.counters b.counts saved)
step-settings b (adjust saved) = refl
step-settings b measure = refl
step-settings b (serialize out) = refl
step-settings b (lookup hash) = refl
step-settings b (locate hash) = refl
step-settings b (listing out) = refl

-- so a box has those that it was made with
pub settings-run : (b : Box) (xs : List Call) → settings_of (run b xs) ≡ settings_of b
unfolding run
settings-run b [] = refl
settings-run b (x ∷ xs) = settings-run (step b x).1 xs ∙ step-settings b x

pub settings-kept : (h : History) → Typed h → settings_of (end h) ≡ h.settings
unfolding end record_of nursery.record_of
settings-kept h t =
    let s = holds-start h t in
    settings-run (start h) h.calls ∙ rw (s.counters.same_record, s.nursery.same_record)
