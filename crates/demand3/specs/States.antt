-- What an accepted call makes of the two states that a box holds under its settings.
-- Assumes nothing.
use Rattle.std.specs.Prelude.{ℕ, ◌+◌}
use Rattle.base.specs.Maybe.{maybe}
use Rattle.counters.specs.declared.ShrinkSettings.{ShrinkSettings}
use Rattle.counters.specs.Counts as counts
use Rattle.counters.specs.Maintenance.{adjusted, decide, shrunk}
use Rattle.counters.specs.Batch as batches
use Rattle.counters.specs.Batch.{kept}
use Rattle.counters.specs.Layout.{batch_of}
use Rattle.cell_nursery.specs.Entries as entries
use Rattle.cell_nursery.specs.Delta.{state_after}
use Rattle.cell_nursery.specs.Items.{delta_of}
use Rattle.cell_nursery.specs.Calls.{length_width}
use Rattle.cell_nursery.specs.Drain.{drained}
use Rattle.node_box.specs.Box.{Call, allocate, batch, batch_records, delta, drain, get, shrink, adjust, measure, serialize, lookup, locate, listing}

unfoldable pub counters_after : ShrinkSettings → Call → counts.State → counts.State
counters_after g allocate s = record { next = s.next + 1; live = s.live; counts = s.counts; maintenance = s.maintenance }
counters_after g (batch words) s = maybe s (λ ts. batches.state_after (kept ts) s) (batch_of words)
counters_after g (batch_records ts) s = batches.state_after (kept ts) s
counters_after g (delta id wide inserts removes items) s = s
counters_after g (drain round out) s = s
counters_after g (get idx) s = s
counters_after g (shrink saved) s = record { next = s.next; live = s.live; counts = s.counts; maintenance = shrunk g saved (decide s) s.maintenance }
counters_after g (adjust saved) s = record { next = s.next; live = s.live; counts = s.counts; maintenance = adjusted g saved s.maintenance }
counters_after g measure s = s
counters_after g (serialize out) s = s
counters_after g (lookup hash) s = s
counters_after g (locate hash) s = s
counters_after g (listing out) s = s

unfoldable pub nursery_after : ℕ → Call → entries.State → entries.State
nursery_after delay allocate s = s
nursery_after delay (batch words) s = s
nursery_after delay (batch_records ts) s = s
nursery_after delay (delta id wide inserts removes items) s = maybe s (λ d. state_after d s) (delta_of (length_width wide) inserts removes items)
nursery_after delay (drain round out) s = drained delay round s
nursery_after delay (get idx) s = s
nursery_after delay (shrink saved) s = s
nursery_after delay (adjust saved) s = s
nursery_after delay measure s = s
nursery_after delay (serialize out) s = s
nursery_after delay (lookup hash) s = s
nursery_after delay (locate hash) s = s
nursery_after delay (listing out) s = s
