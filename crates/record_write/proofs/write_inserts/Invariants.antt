-- `record_write::write_inserts`. The invariant: what is left to write, laid at the place reached, gives what is wanted.
-- Assumes nothing.
use Rattle.cell_nursery.specs.Calls.{length_width}
use Rattle.record_write.specs.WriteLaws.{Writing}
use Rattle.record_write.proofs.write_inserts.Given as goal

abbrev pub invariant-loop : goal.invariant-loop
invariant-loop l = Writing (length_width l.wide) l.inserts l.counter l.at l.to l.items l.out l.initial.out
