-- The table of refusals over a box that holds its states, as one that started fresh always does: each number exactly under document 01's
-- condition, and no call refused with another. Broken (20) is only for words that spell no batch and items that run past their bytes.
-- Assumes nothing.
use Rattle.std.specs.Prelude.{◌≡◌, ◌↔◌, Bool, false, List, [], ◌∷◌, ℕ, ◌/◌, ◌%◌, ◌≤◌, ◌<◌, length, eqb}
use Rattle.std.proofs.Math.Path.{refl}
use Rattle.std.proofs.Common.{sym, ◌∙◌, arith, eqb-true}
use Rattle.std.proofs.Math.Bool.{true, false≢true}
use Rattle.std.proofs.Math.Option.{none, some}
use Rattle.std.proofs.lemmas.Bool.{eqb-false}
use Rattle.base.specs.Logic.{pick, any, elem, max64}
use Rattle.base.specs.Answers.{taken, ◌>>=◌, or_refuse, answer_of, number_of, Refused}
use Rattle.base.specs.Output.{fitting}
use Rattle.base.specs.declared.Refusal.{Refusal}
use Rattle.base.specs.declared.Refusal.TheVariants.{Spent, Unallocated, Repeated, OffTotal, FalseOld, TableFull, Present, NurseryFull, TooLong, OutputFull, Broken, FewCells}
use Rattle.rows.specs.Table.{rows_of}
use Rattle.counters.specs.declared.CounterTransition.{CounterTransition}
use Rattle.counters.specs.Counts as counts
use Rattle.counters.specs.Batch.{apply_batch}
use Rattle.counters.specs.Layout.{transition_row, batch_of}
use Rattle.counters.proofs.RefusalLaws.{ChangesUnallocated, NamesTwice, HasFalseOld, LeavesTotal, ExceedsTable, ExceedsCells}
use Rattle.counters.proofs.RefusalLaws.{allocate-spent, allocate-numbers, get-unallocated, get-numbers, batch-unallocated, batch-repeated, batch-false-old, batch-off-total, batch-table-full, batch-few, batch-numbers}
use Rattle.snapshot.specs.Write.{snapshot_bytes}
use Rattle.cell_nursery.specs.Entries as entries
use Rattle.cell_nursery.specs.Items.{Delta, delta_of}
use Rattle.cell_nursery.specs.Delta.{Room, apply_delta}
use Rattle.cell_nursery.specs.Drain.{drain_bytes, listing_bytes}
use Rattle.cell_nursery.specs.Calls.{length_width}
use Rattle.base.specs.AnswerLaws.{not-refused, exactly, missing-here, missing-numbers, output-full, output-numbers, says, says-numbers}
use Rattle.cell_nursery.proofs.RefusalLaws.{IsLong, IsPresent, IsFull, delta-long, delta-present, delta-full, delta-numbers}
use Rattle.node_box.specs.Box.{Box, Call, allocate, batch, batch_records, delta, drain, get, shrink, adjust, measure, serialize, lookup, locate, listing, step, counters_of, nursery_of}
use Rattle.node_box.specs.Demand.{History, Typed, end}
use Rattle.demand3.specs.CountersHeld.{counters-state}
use Rattle.demand3.specs.NurseryHeld.{room_for, nursery-state}
use Rattle.demand3.specs.Holding.{Fixed, Holds, fixed_of, holding}
use Rattle.demand3.specs.Answered.{answer_to, answer-is}

-- what tables of these lengths have room for
abbrev pub room_in : Fixed → Room
room_in z = room_for z.entries z.waiting z.cells

-- the words or items of a call spell no batch, or no delta
abbrev pub Unspelled : Call → Type 0
Unspelled allocate = ⊥
Unspelled (batch words) = ¬ (length words % 3 ≡ 0)
Unspelled (batch_records ts) = ⊥
Unspelled (delta id wide inserts removes items) = delta_of (length_width wide) inserts removes items ≡ none
Unspelled (drain round out) = ⊥
Unspelled (get idx) = ⊥
Unspelled (shrink saved) = ⊥
Unspelled (adjust saved) = ⊥
Unspelled measure = ⊥
Unspelled (serialize out) = ⊥
Unspelled (lookup hash) = ⊥
Unspelled (locate hash) = ⊥
Unspelled (listing out) = ⊥

-- the numbers that a call can be refused with
abbrev pub numbers_of : Call → List ℕ
numbers_of allocate = 1 ∷ []
numbers_of (batch words) = 20 ∷ 2 ∷ 3 ∷ 5 ∷ 4 ∷ 6 ∷ 25 ∷ []
numbers_of (batch_records ts) = 2 ∷ 3 ∷ 5 ∷ 4 ∷ 6 ∷ 25 ∷ []
numbers_of (delta id wide inserts removes items) = 20 ∷ 14 ∷ 12 ∷ 13 ∷ []
numbers_of (drain round out) = 15 ∷ []
numbers_of (get idx) = 2 ∷ []
numbers_of (shrink saved) = []
numbers_of (adjust saved) = []
numbers_of measure = []
numbers_of (serialize out) = 15 ∷ []
numbers_of (lookup hash) = []
numbers_of (locate hash) = []
numbers_of (listing out) = 15 ∷ []

module _ (z : Fixed) (b : Box) (c : counts.State) (n : entries.State) where
  -- of a call that lends transitions, as words or as records, and of one that lends a delta
  pub record BatchRefusals (x : Call) (ts : List CounterTransition) : Type 0 where
    pub unallocated : ((step b x).0 ≡ Refused Unallocated) ↔ ChangesUnallocated c ts
    pub repeated : ((step b x).0 ≡ Refused Repeated) ↔ ((¬ ChangesUnallocated c ts) × NamesTwice ts)
    pub false-old : ((step b x).0 ≡ Refused FalseOld) ↔ ((¬ ChangesUnallocated c ts) × (¬ NamesTwice ts) × HasFalseOld c ts)
    pub off-total : ((step b x).0 ≡ Refused OffTotal)
        ↔ ((¬ ChangesUnallocated c ts) × (¬ NamesTwice ts) × (¬ HasFalseOld c ts) × LeavesTotal c ts)
    pub table_full : ((step b x).0 ≡ Refused TableFull)
        ↔ ((¬ ChangesUnallocated c ts) × (¬ NamesTwice ts) × (¬ HasFalseOld c ts) × (¬ LeavesTotal c ts) × ExceedsTable c ts (z.counts / 2))
    pub few-cells : ((step b x).0 ≡ Refused FewCells)
        ↔ ((¬ ChangesUnallocated c ts) × (¬ NamesTwice ts) × (¬ HasFalseOld c ts) × (¬ LeavesTotal c ts) × (¬ ExceedsTable c ts (z.counts / 2)) × ExceedsCells c ts)

  pub record DeltaRefusals (x : Call) (d : Delta) : Type 0 where
    pub too-long : ((step b x).0 ≡ Refused TooLong) ↔ IsLong d
    pub present : ((step b x).0 ≡ Refused Present) ↔ ((¬ IsLong d) × IsPresent n d)
    pub nursery_full : ((step b x).0 ≡ Refused NurseryFull) ↔ ((¬ IsLong d) × (¬ IsPresent n d) × IsFull (room_in z) n d)

  pub record Refusals : Type 0 where
    pub spent : ((step b allocate).0 ≡ Refused Spent) ↔ (c.next ≡ max64)
    pub unallocated : (i : ℕ) → ((step b (get i)).0 ≡ Refused Unallocated) ↔ (c.next ≤ i)
    pub of_batch : (words : List ℕ) (ts : List CounterTransition) → batch_of words ≡ some ts → BatchRefusals (batch words) ts
    pub of_records : (ts : List CounterTransition) → BatchRefusals (batch_records ts) ts
    pub of-delta : (id : ℕ) (wide : Bool) (inserts removes : ℕ) (items : List ℕ) (d : Delta) → delta_of (length_width wide) inserts removes items ≡ some d
        → DeltaRefusals (delta id wide inserts removes items) d
    pub drain-full : (round out : ℕ) → ((step b (drain round out)).0 ≡ Refused OutputFull) ↔ (out < length (drain_bytes z.settings.delay round n))
    pub snapshot_full : (out : ℕ) → ((step b (serialize out)).0 ≡ Refused OutputFull) ↔ (out < length (snapshot_bytes c))
    pub listing_full : (out : ℕ) → ((step b (listing out)).0 ≡ Refused OutputFull) ↔ (out < length (listing_bytes n.entries))
    pub broken : (x : Call) → ((step b x).0 ≡ Refused Broken) ↔ Unspelled x
    pub numbers : (x : Call) (q : Refusal) → (step b x).0 ≡ Refused q → elem (number_of q) (numbers_of x) ≡ true

-- words spell no batch exactly where they are ragged
ragged : (words : List ℕ) → (batch_of words ≡ none) ↔ (¬ (length words % 3 ≡ 0))
unfolding batch_of
ragged words = go (eqb (length words % 3) 0) refl
  where
    go : (b : Bool) → eqb (length words % 3) 0 ≡ b → (pick b (some (rows_of transition_row (length words / 3) words)) none ≡ none) ↔ (¬ (length words % 3 ≡ 0))
    go true e = (λ q. let x : ◌≡◌ {A = ℕ} 0 1 = cc in absurd (omega arith), λ u. absurd (u (eqb-true (length words % 3) 0 e)))
    go false e = (λ q. eqb-false (length words % 3) 0 e, λ u. refl)

-- ---- the table
module _ {z : Fixed} {b : Box} {c : counts.State} {n : entries.State} (h : Holds z b c n) where
  batch-refusals : (x : Call) (ts : List CounterTransition) → answer_to z c n x ≡ answer_of (apply_batch (z.counts / 2) c ts) → BatchRefusals z b c n x ts
  batch-refusals x ts e =
      let o = apply_batch (z.counts / 2) c ts in
      let said : (step b x).0 ≡ answer_of o = answer-is h x ∙ e in
      record {
        unallocated = says o said (batch-unallocated (z.counts / 2) c ts);
        repeated = says o said (batch-repeated (z.counts / 2) c ts);
        false-old = says o said (batch-false-old (z.counts / 2) c ts);
        off-total = says o said (batch-off-total (z.counts / 2) c ts);
        table_full = says o said (batch-table-full (z.counts / 2) c ts);
        few-cells = says o said (batch-few (z.counts / 2) c ts);
      }

  delta-refusals : (id : ℕ) (wide : Bool) (inserts removes : ℕ) (items : List ℕ) (d : Delta) → delta_of (length_width wide) inserts removes items ≡ some d
      → DeltaRefusals z b c n (delta id wide inserts removes items) d
  unfolding answer_to
  delta-refusals id wide inserts removes items d e =
      let o = apply_delta (room_in z) n d in
      let said : (step b (delta id wide inserts removes items)).0 ≡ answer_of o = answer-is h (delta id wide inserts removes items) ∙ rw e in
      record {
        too-long = says o said (delta-long (room_in z) n d);
        present = says o said (delta-present (room_in z) n d);
        nursery_full = says o said (delta-full (room_in z) n d);
      }

  -- the numbers of each call
  call-numbers : (x : Call) (q : Refusal) → (step b x).0 ≡ Refused q → elem (number_of q) (numbers_of x) ≡ true
  unfolding answer_to
  call-numbers x q e = go x (sym (answer-is h x) ∙ e)
    where
      go : (y : Call) → answer_to z c n y ≡ Refused q → elem (number_of q) (numbers_of y) ≡ true
      go allocate p = says-numbers (1 ∷ []) (counts.allocate c.next) refl (allocate-numbers c.next) q p
      go (batch words) p =
          says-numbers (20 ∷ 2 ∷ 3 ∷ 5 ∷ 4 ∷ 6 ∷ 25 ∷ []) (or_refuse Broken (batch_of words) >>= apply_batch (z.counts / 2) c) refl
          (missing-numbers Broken (batch_of words) (apply_batch (z.counts / 2) c) (2 ∷ 3 ∷ 5 ∷ 4 ∷ 6 ∷ 25 ∷ []) (λ ts. batch-numbers (z.counts / 2) c ts)) q p
      go (batch_records ts) p = says-numbers (2 ∷ 3 ∷ 5 ∷ 4 ∷ 6 ∷ 25 ∷ []) (apply_batch (z.counts / 2) c ts) refl (batch-numbers (z.counts / 2) c ts) q p
      go (delta id wide inserts removes items) p =
          let spelled = delta_of (length_width wide) inserts removes items in
          says-numbers (20 ∷ 14 ∷ 12 ∷ 13 ∷ []) (or_refuse Broken spelled >>= apply_delta (room_in z) n) refl
          (missing-numbers Broken spelled (apply_delta (room_in z) n) (14 ∷ 12 ∷ 13 ∷ []) (λ d. delta-numbers (room_in z) n d)) q p
      go (drain round out) p = let bs = drain_bytes z.settings.delay round n in says-numbers (15 ∷ []) (fitting out (taken bs)) refl (output-numbers out bs) q p
      go (get idx) p = says-numbers (2 ∷ []) (counts.get c idx) refl (get-numbers c idx) q p
      go (shrink saved) p = absurd (not-refused p)
      go (adjust saved) p = absurd (not-refused p)
      go measure p = absurd (not-refused p)
      go (serialize out) p = says-numbers (15 ∷ []) (fitting out (taken (snapshot_bytes c))) refl (output-numbers out (snapshot_bytes c)) q p
      go (lookup hash) p = absurd (not-refused p)
      go (locate hash) p = absurd (not-refused p)
      go (listing out) p = let bs = listing_bytes n.entries in says-numbers (15 ∷ []) (fitting out (taken bs)) refl (output-numbers out bs) q p

  -- 20 only where nothing is spelled
  call-broken : (x : Call) → ((step b x).0 ≡ Refused Broken) ↔ Unspelled x
  unfolding answer_to any
  call-broken allocate = (λ e. absurd (false≢true (call-numbers allocate Broken e)), λ u. absurd u)
  call-broken (batch words) =
      let o = or_refuse Broken (batch_of words) >>= apply_batch (z.counts / 2) c in
      let none-spelled = missing-here Broken (batch_of words) (apply_batch (z.counts / 2) c) (λ ts e. false≢true (batch-numbers (z.counts / 2) c ts Broken e)) in
      says o (answer-is h (batch words)) (exactly none-spelled (ragged words))
  call-broken (batch_records ts) = (λ e. absurd (false≢true (call-numbers (batch_records ts) Broken e)), λ u. absurd u)
  call-broken (delta id wide inserts removes items) =
      let spelled = delta_of (length_width wide) inserts removes items in
      says (or_refuse Broken spelled >>= apply_delta (room_in z) n) (answer-is h (delta id wide inserts removes items))
      (missing-here Broken spelled (apply_delta (room_in z) n) (λ d e. false≢true (delta-numbers (room_in z) n d Broken e)))
  call-broken (drain round out) = (λ e. absurd (false≢true (call-numbers (drain round out) Broken e)), λ u. absurd u)
  call-broken (get idx) = (λ e. absurd (false≢true (call-numbers (get idx) Broken e)), λ u. absurd u)
  call-broken (shrink saved) = (λ e. absurd (false≢true (call-numbers (shrink saved) Broken e)), λ u. absurd u)
  call-broken (adjust saved) = (λ e. absurd (false≢true (call-numbers (adjust saved) Broken e)), λ u. absurd u)
  call-broken measure = (λ e. absurd (false≢true (call-numbers measure Broken e)), λ u. absurd u)
  call-broken (serialize out) = (λ e. absurd (false≢true (call-numbers (serialize out) Broken e)), λ u. absurd u)
  call-broken (lookup hash) = (λ e. absurd (false≢true (call-numbers (lookup hash) Broken e)), λ u. absurd u)
  call-broken (locate hash) = (λ e. absurd (false≢true (call-numbers (locate hash) Broken e)), λ u. absurd u)
  call-broken (listing out) = (λ e. absurd (false≢true (call-numbers (listing out) Broken e)), λ u. absurd u)

  pub refusals : Refusals z b c n
  unfolding answer_to
  refusals =
      record {
        spent = says (counts.allocate c.next) (answer-is h allocate) (allocate-spent c.next);
        unallocated = λ i. says (counts.get c i) (answer-is h (get i)) (get-unallocated c i);
        of_batch = λ words ts e. batch-refusals (batch words) ts (rw e);
        of_records = λ ts. batch-refusals (batch_records ts) ts refl;
        of-delta = delta-refusals;
        drain-full = λ round out. let bs = drain_bytes z.settings.delay round n in says (fitting out (taken bs)) (answer-is h (drain round out)) (output-full out bs);
        snapshot_full = λ out. says (fitting out (taken (snapshot_bytes c))) (answer-is h (serialize out)) (output-full out (snapshot_bytes c));
        listing_full = λ out. let bs = listing_bytes n.entries in says (fitting out (taken bs)) (answer-is h (listing out)) (output-full out bs);
        broken = call-broken;
        numbers = call-numbers;
      }

-- so it is after any calls on a box that started fresh, by the two states that the box then spells
pub refusals-after : (a : History) → Typed a → Refusals (fixed_of a) (end a) (counters_of (end a)) (nursery_of (end a))
refusals-after a t = let h = (holding a t).holds in rw (counters-state h.counters, nursery-state h.nursery) (refusals h)
