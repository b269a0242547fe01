-- The claims of two batches in a row, shown through the calls.
-- Assumes nothing.
use Rattle.std.specs.Prelude.{◌≡◌, refl, true, List, map, ℕ, ◌≤◌}
use Rattle.std.proofs.Math.Path.{sym, ap}
use Rattle.std.proofs.Common.{ap₂, ◌∙◌, arith}
use Rattle.std.proofs.Math.Option.{some}
use Rattle.std.proofs.Math.ListN.{length}
use Rattle.base.specs.Answers.{taken, Taken}
use Rattle.rows.proofs.TableLaws.{length-rows_of}
use Rattle.counters.specs.declared.ShrinkSettings.{ShrinkSettings}
use Rattle.counters.specs.declared.Counters.{Counters}
use Rattle.counters.specs.declared.CounterMaintenance.{CounterMaintenance}
use Rattle.counters.specs.declared.CounterTransition.{CounterTransition}
use Rattle.counters.specs.Counts.{State}
use Rattle.counters.specs.Maintenance.{maintained}
use Rattle.counters.specs.Batch.{kept, state_after, apply_kept, apply_batch}
use Rattle.counters.proofs.BatchLaws.{apply_kept-order}
use Rattle.counters.proofs.BoundLaws.{bound-taken}
use Rattle.counters.specs.Layout.{ordered, count_row, room_of, with_maintenance, state_of, holds, words_of, batch_of}
use Rattle.counters.proofs.LayoutLaws.{held}
use Rattle.counters.proofs.WordLaws.{words-batch}
use Rattle.counters.specs.Calls.{Changed, effect, on_state, laid, laid_out, batch_call}
use Rattle.counters.proofs.CallLaws.{batch-held, batch-accepted, batch-length, batch-settings, batch-taken-holds}
use Rattle.snapshot.specs.Write.{snapshot_bytes}
use Rattle.snapshot.specs.Calls.{serialize_call}
use Rattle.node_box.specs.Box.{Box, batch, with_counters, step, snapshot_of}
use Rattle.batch_pairs.specs.Pairs.{exchanged, Inverse, batched, RolledBack, AcceptedEitherWay, SameEitherWay, Pairs}
use Rattle.batch_pairs.proofs.InverseLaws.{Passes, passes-taken, taken-passes, inverse-passes, inverse-state}
use Rattle.batch_pairs.proofs.OrderLaws.{states-either}

-- ---- a state that a record and a table hold
module _ (c : Counters) (t : List ℕ) (h : holds c t ≡ true) where
  in_order : ordered (state_of c t).next (state_of c t).counts ≡ true
  unfolding state_of
  in_order = (held c t h).sorted

  in-room : length (state_of c t).counts ≤ room_of t
  unfolding state_of
  in-room = omega (arith, (held c t h).laid.fits, length-rows_of count_row c.stored t)

  in-bound : length (state_of c t).counts ≤ (state_of c t).live
  unfolding state_of
  in-bound = omega (arith, (held c t h).bounded, length-rows_of count_row c.stored t)

  -- laid out, it is the record and the table
  laid-again : laid c.settings (length t) (state_of c t) ≡ effect (record { answer = Taken; counters = c }) t
  unfolding laid
  laid-again = rw ((held c t h).same_record, (held c t h).same_table)

-- whether a record and a table hold a state doesn't depend on maintenance, nor does the snapshot
holds-maintenance : (c : Counters) (t : List ℕ) (m : CounterMaintenance) → holds (with_maintenance c m) t ≡ holds c t
unfolding holds with_maintenance
holds-maintenance c t m = refl

snapshot-maintenance : (b : Box) (m : CounterMaintenance) → snapshot_of (with_counters b (with_maintenance b.counters m) b.counts) ≡ snapshot_of b
unfolding snapshot_of serialize_call on_state holds state_of snapshot_bytes with_counters with_maintenance
snapshot-maintenance b m = refl

-- ---- a batch that is taken: its kept transitions pass the tests, and what they leave is laid out
record Applies (c : Counters) (t ws : List ℕ) (ts : List CounterTransition) : Type 0 where
  holding : holds c t ≡ true
  passes : Passes (room_of t) (state_of c t) (kept ts)
  leaves : batch_call c t ws ≡ laid c.settings (length t) (state_after (kept ts) (state_of c t))
  after : state_of (batch_call c t ws).result.counters (batch_call c t ws).table ≡ state_after (kept ts) (state_of c t)

applies : (c : Counters) (t ws : List ℕ) (ts : List CounterTransition) → batch_of ws ≡ some ts → (batch_call c t ws).result.answer ≡ Taken → Applies c t ws ts
unfolding apply_batch laid_out
applies c t ws ts w e =
    let (s', a, m) = batch-accepted c t ws e in
    let same : a.transitions ≡ ts = cc (a.words, w) in
    let done : apply_batch (room_of t) (state_of c t) ts ≡ taken s' = rw same at a.applied in
    let (ok, many) = (bound-taken (apply_kept (room_of t) (state_of c t) (kept ts)) s').0 done in
    let (p, left) = taken-passes (room_of t) (state_of c t) (kept ts) s' ok in
    record { holding = a.holding; passes = p; leaves = batch-held c t ws ts a.holding w ∙ ap (laid_out c.settings c t) (done ∙ ap taken left); after = m ∙ left }

-- ---- a second batch on what the first left
module _ (c : Counters) (t ws vs : List ℕ) where
  abbrev c₁ : Counters
  c₁ = (batch_call c t ws).result.counters

  abbrev t₁ : List ℕ
  t₁ = (batch_call c t ws).table

  module _ (ts us : List CounterTransition) (a : Applies c t ws ts) (v : batch_of vs ≡ some us) where
    abbrev s : State
    s = state_of c t

    second-passes : (batch_call c₁ t₁ vs).result.answer ≡ Taken → Passes (room_of t) (state_after (kept ts) s) (kept us)
    second-passes e = rw (batch-length c t ws, a.after) at (applies c₁ t₁ vs us v e).passes

    second-leaves : (batch_call c₁ t₁ vs).result.answer ≡ Taken → batch_call c₁ t₁ vs ≡ laid c.settings (length t) (state_after (kept us) (state_after (kept ts) s))
    second-leaves e =
        rw (batch-length c t ws, a.after) at (applies c₁ t₁ vs us v e).leaves
        ∙ ap (λ (g : ShrinkSettings). laid g (length t) (state_after (kept us) (state_after (kept ts) s))) (batch-settings c t ws)

    module _ (inverse : Inverse ts us) where
      abbrev grown : CounterMaintenance
      grown = maintained (map exchanged (kept ts)) (maintained (kept ts) c.maintenance)

      abbrev left : Counters
      left = with_maintenance c grown

      inverse-taken : apply_kept (room_of t) (state_after (kept ts) s) (kept us) ≡ taken (state_of left t)
      unfolding state_of with_maintenance
      inverse-taken =
          let o = in_order c t a.holding in
          let few = in-room c t a.holding in
          sym (apply_kept-order inverse (room_of t) (state_after (kept ts) s))
          ∙ passes-taken (room_of t) (state_after (kept ts) s) (map exchanged (kept ts)) (inverse-passes (room_of t) s (kept ts) o few a.passes)
          ∙ ap taken (inverse-state (room_of t) s (kept ts) o few a.passes)

      -- what it leaves kept the bound before the batch
      inverse-applied : apply_batch (room_of t) (state_after (kept ts) s) us ≡ taken (state_of left t)
      unfolding apply_batch
      inverse-applied = (bound-taken (apply_kept (room_of t) (state_after (kept ts) s) (kept us)) (state_of left t)).1 (inverse-taken, bounded)
        where
          bounded : length (state_of left t).counts ≤ (state_of left t).live
          bounded = in-bound left t (holds-maintenance c t grown ∙ a.holding)

      inverse-leaves : (batch_call c t ws).result.answer ≡ Taken → batch_call c₁ t₁ vs ≡ effect (record { answer = Taken; counters = left }) t
      unfolding laid_out with_maintenance
      inverse-leaves e =
          batch-held c₁ t₁ vs us (batch-taken-holds c t ws e) v
          ∙ rw (batch-length c t ws, a.after, inverse-applied)
          (ap₂ (λ (g : ShrinkSettings) (n : ℕ). laid g n (state_of left t)) (batch-settings c t ws) (batch-length c t ws)
          ∙ laid-again left t (holds-maintenance c t grown ∙ a.holding))

-- ---- the two laws, of the call on a record and a table
-- an inverse leaves the table, and the record but for maintenance
pub call-rolled-back : (c : Counters) (t ws vs : List ℕ) (ts us : List CounterTransition) → batch_of ws ≡ some ts → batch_of vs ≡ some us → Inverse ts us → (batch_call c t ws).result.answer ≡ Taken
    → batch_call (batch_call c t ws).result.counters (batch_call c t ws).table vs
    ≡ effect (record { answer = Taken; counters = with_maintenance c (maintained (map exchanged (kept ts)) (maintained (kept ts) c.maintenance)) }) t
call-rolled-back c t ws vs ts us w v inverse e = inverse-leaves c t ws vs ts us (applies c t ws ts w e) v inverse e

-- in either order: record and table are the same
pub call-either-order : (c : Counters) (t ws vs : List ℕ)
    → (batch_call c t ws).result.answer ≡ Taken → (batch_call (batch_call c t ws).result.counters (batch_call c t ws).table vs).result.answer ≡ Taken
    → (batch_call c t vs).result.answer ≡ Taken → (batch_call (batch_call c t vs).result.counters (batch_call c t vs).table ws).result.answer ≡ Taken
    → batch_call (batch_call c t ws).result.counters (batch_call c t ws).table vs ≡ batch_call (batch_call c t vs).result.counters (batch_call c t vs).table ws
call-either-order c t ws vs p q r u =
    let (k, x, m) = batch-accepted c t ws p in
    let (l, y, n) = batch-accepted c t vs r in
    let ts = x.transitions in
    let us = y.transitions in
    let f = applies c t ws ts x.words p in
    let g = applies c t vs us y.words r in
    let same =
    states-either (room_of t) (state_of c t) (kept ts) (kept us) (in_order c t f.holding) f.passes
    (second-passes c t ws vs ts us f y.words q) g.passes (second-passes c t vs ws us ts g x.words u) in
    second-leaves c t ws vs ts us f y.words q ∙ ap (laid c.settings (length t)) same ∙ sym (second-leaves c t vs ws us ts g x.words u)

-- ---- of a box
module _ (b : Box) (ws vs : List ℕ) where
  box-rolled-back : (ts us : List CounterTransition) → batch_of ws ≡ some ts → batch_of vs ≡ some us → Inverse ts us → (step b (batch ws)).0 ≡ Taken → RolledBack b (batch ws) (batch vs)
  unfolding step with_counters
  box-rolled-back ts us w v inverse e =
      let x = call-rolled-back b.counters b.counts ws vs ts us w v inverse e in
      let m : CounterMaintenance = maintained (map exchanged (kept ts)) (maintained (kept ts) b.counters.maintenance) in
      let left : batched (batched b (batch ws)) (batch vs) ≡ with_counters b (with_maintenance b.counters m) b.counts =
      ap (λ (y : Changed). with_counters b y.result.counters y.table) x in
      record {
        answer = ap (λ (y : Changed). y.result.answer) x;
        snapshot = ap snapshot_of left ∙ snapshot-maintenance b m;
        box = rw left (unfold with_maintenance in refl);
        threshold = rw left (unfold with_maintenance maintained in refl);
      }

  box-either-order : AcceptedEitherWay b (batch ws) (batch vs) → SameEitherWay b (batch ws) (batch vs)
  unfolding step with_counters
  box-either-order a =
      let same : batched (batched b (batch ws)) (batch vs) ≡ batched (batched b (batch vs)) (batch ws) =
      ap (λ (y : Changed). with_counters b y.result.counters y.table) (call-either-order b.counters b.counts ws vs a.one a.then_other a.other a.then_one) in
      record { snapshot = ap snapshot_of same; box = same }

-- records step as their words do
pub pairs : Pairs
unfolding step
pairs =
    record {
      rolled_back = box-rolled-back;
      records_rolled_back = λ b ts us i e.
          let p = box-rolled-back b (words_of ts) (words_of us) ts us (words-batch ts) (words-batch us) i e in
          record { answer = p.answer; snapshot = p.snapshot; box = p.box; threshold = p.threshold };
      either_order = box-either-order;
      records_either_order = λ b ts us a.
          let p =
          box-either-order b (words_of ts) (words_of us) (record { one = a.one; then_other = a.then_other; other = a.other; then_one = a.then_one }) in
          record { snapshot = p.snapshot; box = p.box };
    }
