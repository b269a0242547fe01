-- What a call on a box is answered follows from the two states that the box holds.
-- Assumes nothing.
use Rattle.std.specs.Prelude.{◌≡◌, List, ℕ, ◌/◌, length}
use Rattle.std.proofs.Math.Path.{refl, ap}
use Rattle.std.proofs.Common.{◌∙◌}
use Rattle.std.proofs.Math.Option.{Option, none, some}
use Rattle.std.proofs.Math.ListN.{length-replicate}
use Rattle.base.specs.Logic.{zeros}
use Rattle.base.specs.Answers.{Outcome, refused, taken, ◌>>=◌, or_refuse, answer_of, Answer, Taken}
use Rattle.base.specs.Output.{fitting, put, written}
use Rattle.base.specs.declared.Refusal.TheVariants.{Broken}
use Rattle.counters.specs.declared.Counters.{Counters}
use Rattle.counters.specs.Returned.{ShrunkAnswer}
use Rattle.counters.specs.Counts as counts
use Rattle.counters.specs.Batch.{apply_batch}
use Rattle.counters.specs.Layout.{record_of, batch_of}
use Rattle.counters.proofs.WordLaws.{words-batch}
use Rattle.counters.specs.Calls as counters-calls
use Rattle.counters.specs.Calls.{allocated, alloc_call, get_call, batch_call, decided}
use Rattle.counters.proofs.CallLaws.{laid_out-answer, shrink-held}
use Rattle.snapshot.specs.Write.{snapshot_bytes}
use Rattle.snapshot.specs.Calls.{length_call, serialize_call}
use Rattle.cell_nursery.specs.declared.Nursery.{Nursery}
use Rattle.cell_nursery.specs.Entries as entries
use Rattle.cell_nursery.specs.Delta.{apply_delta}
use Rattle.cell_nursery.specs.Items.{delta_of}
use Rattle.cell_nursery.specs.Drain.{drain_bytes, listing_bytes}
use Rattle.cell_nursery.specs.Calls as nursery-calls
use Rattle.cell_nursery.proofs.CallLaws as nursery
use Rattle.cell_nursery.specs.Calls.{length_width, delta_call, drained_out, drain_call, found_of, lookup_call, data_of, data_call, listing_call}
use Rattle.node_box.specs.Box.{Box, Call, allocate, batch, batch_records, delta, drain, get, shrink, adjust, measure, serialize, lookup, locate, listing, step}
use Rattle.demand3.specs.CountersHeld.{counters-hold, counters-state, counters-length}
use Rattle.demand3.specs.NurseryHeld.{room_for, delay-same, nursery-holds, nursery-state, entries-hold, cells-hold, room-same}
use Rattle.demand3.specs.Holding.{Fixed, Holds}
use Rattle.demand3.specs.Outputs.{entries-are}

-- the answer to a call on a box that holds two states under given settings, in tables of given lengths
unfoldable pub answer_to : Fixed → counts.State → entries.State → Call → Answer
answer_to z c n allocate = answer_of (counts.allocate c.next)
answer_to z c n (batch words) = answer_of (or_refuse Broken (batch_of words) >>= apply_batch (z.counts / 2) c)
answer_to z c n (batch_records ts) = answer_of (apply_batch (z.counts / 2) c ts)
answer_to z c n (delta id wide inserts removes items) =
    answer_of (or_refuse Broken (delta_of (length_width wide) inserts removes items) >>= apply_delta (room_for z.entries z.waiting z.cells) n)
answer_to z c n (drain round out) = answer_of (fitting out (taken (drain_bytes z.settings.delay round n)))
answer_to z c n (get idx) = answer_of (counts.get c idx)
answer_to z c n (shrink saved) = Taken
answer_to z c n (adjust saved) = Taken
answer_to z c n measure = Taken
answer_to z c n (serialize out) = answer_of (fitting out (taken (snapshot_bytes c)))
answer_to z c n (lookup hash) = Taken
answer_to z c n (locate hash) = Taken
answer_to z c n (listing out) = answer_of (fitting out (taken (listing_bytes n.entries)))

-- ---- the answers of the records that calls return
alloc-says : (c : Counters) (o : Outcome ℕ) → (allocated c o).answer ≡ answer_of o
unfolding allocated
alloc-says c (refused r) = refl
alloc-says c (taken n) = refl

drain-says : (r : Nursery) (ws out : List ℕ) (o : Outcome (List ℕ)) (s : entries.State) → (drained_out r ws out o s).result.answer ≡ answer_of o
unfolding drained_out
drain-says r ws out (refused q) s = refl
drain-says r ws out (taken bs) s = refl

found-says : (o : Option ℕ) → (found_of (taken o)).answer ≡ Taken
unfolding found_of
found-says none = refl
found-says (some i) = refl

data-says : (o : Option (ℕ × ℕ)) → (data_of (taken o)).answer ≡ Taken
unfolding data_of
data-says none = refl
data-says (some (p, n)) = refl

put-says : (out : List ℕ) (o : Outcome (List ℕ)) → (put out o).result.answer ≡ answer_of o
unfolding put
put-says out (refused r) = refl
put-says out (taken bs) = refl

written-says : (n : ℕ) (o : Outcome (List ℕ)) → (written (zeros n) o).result.answer ≡ answer_of (fitting n o)
unfolding written
written-says n o = put-says (zeros n) (fitting (length (zeros n)) o) ∙ rw (length-replicate {A = ℕ} n 0)

-- ---- a call's answer
module _ {z : Fixed} {b : Box} {c : counts.State} {n : entries.State} (h : Holds z b c n) where
  pub answer-is : (x : Call) → (step b x).0 ≡ answer_to z c n x
  unfolding step answer_to alloc_call batch_call counters-calls.on_state get_call delta_call nursery-calls.on_state drain_call decided length_call serialize_call lookup_call data_call listing_call record_of
  answer-is allocate = alloc-says b.counters _ ∙ ap (λ (d : Counters). answer_of (counts.allocate d.next_idx.0)) h.counters.same_record
  answer-is (batch words) = laid_out-answer b.counters.settings b.counters b.counts _ ∙ rw (counters-hold h.counters, counters-state h.counters, counters-length h.counters)
  answer-is (batch_records ts) =
      laid_out-answer b.counters.settings b.counters b.counts _ ∙ rw (counters-hold h.counters, counters-state h.counters, counters-length h.counters, words-batch ts)
  answer-is (delta id wide inserts removes items) =
      nursery.laid_out-answer b.nursery.delay b.nursery b.entries b.waiting b.cells _ ∙ rw (nursery-holds h.nursery, nursery-state h.nursery, room-same h.nursery)
  answer-is (drain round out) =
      drain-says b.nursery b.waiting (zeros out) _ _ ∙ rw (nursery-holds h.nursery, nursery-state h.nursery, length-replicate {A = ℕ} out 0, delay-same h.nursery)
  answer-is (get idx) = rw (counters-hold h.counters, counters-state h.counters)
  answer-is (shrink saved) = ap (λ (r : ShrunkAnswer). r.answer) (shrink-held b.counters b.counts saved (counters-hold h.counters))
  answer-is (adjust saved) = refl
  answer-is measure = rw (counters-hold h.counters)
  answer-is (serialize out) = written-says out _ ∙ rw (counters-hold h.counters, counters-state h.counters)
  answer-is (lookup hash) = rw (entries-hold h.nursery) (found-says _)
  answer-is (locate hash) = rw (entries-hold h.nursery, cells-hold h.nursery) (data-says _)
  answer-is (listing out) = written-says out _ ∙ rw (entries-hold h.nursery, cells-hold h.nursery, entries-are b h.nursery)
