-- Two batches in a row: what is claimed, without its proof.
-- Assumes nothing.
use Rattle.std.specs.Prelude.{◌≡◌, List, map, ℕ}
use Rattle.std.proofs.Math.Option.{some}
use mathlib.Core.List.{Permᴰ as Reordered}
use Rattle.base.specs.Answers.{Taken}
use Rattle.counters.specs.declared.CounterTransition.{CounterTransition}
use Rattle.counters.specs.Batch.{kept}
use Rattle.counters.specs.Layout.{with_maintenance, batch_of}
use Rattle.node_box.specs.Box.{Box, Call, batch, batch_records, with_counters, step, snapshot_of}

-- a transition with old and new exchanged
abbrev pub exchanged : CounterTransition → CounterTransition
exchanged t = record { idx = t.idx; old_raw = t.new_raw; new_raw = t.old_raw }

-- us is an inverse of ts: its kept transitions are those of ts exchanged, in any order
abbrev pub Inverse : List CounterTransition → List CounterTransition → Type 0
Inverse ts us = Reordered (map exchanged (kept ts)) (kept us)

-- the box after a batch
abbrev pub batched : Box → Call → Box
batched b x = (step b x).1

-- the batch y takes back the batch x before it
pub record RolledBack (b : Box) (x y : Call) : Type 0 where
  -- it is accepted
  pub answer : (step (batched b x) y).0 ≡ Taken
  -- the snapshot is the one from before
  pub snapshot : snapshot_of (batched (batched b x) y) ≡ snapshot_of b
  -- so are all tables, word for word, and both state records, but for the counters' maintenance
  pub box : batched (batched b x) y ≡ with_counters b (with_maintenance b.counters (batched (batched b x) y).counters.maintenance) b.counts
  -- of which only the removal counters are left out
  pub threshold : (batched (batched b x) y).counters.maintenance.min_alive_removed_before_shrink ≡ b.counters.maintenance.min_alive_removed_before_shrink

-- two batches are accepted in both orders: each alone, and after the other
pub record AcceptedEitherWay (b : Box) (x y : Call) : Type 0 where
  pub one : (step b x).0 ≡ Taken
  pub then_other : (step (batched b x) y).0 ≡ Taken
  pub other : (step b y).0 ≡ Taken
  pub then_one : (step (batched b y) x).0 ≡ Taken

-- two batches, one after the other and the other way round, leave the same
pub record SameEitherWay (b : Box) (x y : Call) : Type 0 where
  pub snapshot : snapshot_of (batched (batched b x) y) ≡ snapshot_of (batched (batched b y) x)
  -- all tables and both state records, removal counters included
  pub box : batched (batched b x) y ≡ batched (batched b y) x

pub record Pairs : Type 0 where
  -- after an accepted batch, an inverse of it takes it back
  pub rolled_back : (b : Box) (ws vs : List ℕ) (ts us : List CounterTransition) → batch_of ws ≡ some ts → batch_of vs ≡ some us → Inverse ts us
      → (step b (batch ws)).0 ≡ Taken → RolledBack b (batch ws) (batch vs)
  -- the same of batches that are lent as records
  pub records_rolled_back : (b : Box) (ts us : List CounterTransition) → Inverse ts us
      → (step b (batch_records ts)).0 ≡ Taken → RolledBack b (batch_records ts) (batch_records us)
  -- two batches that are accepted in both orders, whatever indices they name, leave the same in either
  pub either_order : (b : Box) (ws vs : List ℕ) → AcceptedEitherWay b (batch ws) (batch vs) → SameEitherWay b (batch ws) (batch vs)
  pub records_either_order : (b : Box) (ts us : List CounterTransition)
      → AcceptedEitherWay b (batch_records ts) (batch_records us) → SameEitherWay b (batch_records ts) (batch_records us)
