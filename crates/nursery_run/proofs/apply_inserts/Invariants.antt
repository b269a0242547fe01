use Rattle.base.specs.Logic.{fold}
use Rattle.cell_nursery.specs.Entries.{insert}
use Rattle.cell_nursery.specs.Layout.{state_of}
use Rattle.cell_nursery.specs.Calls.{length_width}
use Rattle.delta_items.specs.Walk.{inserts_in, inserts_len, inserts_from}
use Rattle.delta_items.specs.WalkLaws.{Left}
use Rattle.nursery_run.specs.RunLaws.{Inserting}
use Rattle.nursery_run.proofs.apply_inserts.Given as goal

abbrev pub invariant-loop : goal.invariant-loop
invariant-loop l = (Left (length_width l.wide) l.inserts l.counter l.at (inserts_len (length_width l.wide) l.inserts l.items) l.items) × Inserting l.initial.q.delay l.initial.es l.initial.ws l.initial.cs (fold insert (inserts_in (length_width l.wide) l.inserts l.items) (state_of l.initial.q l.initial.es l.initial.ws l.initial.cs)) (inserts_from (length_width l.wide) l.inserts l.counter l.at l.items) l.q l.es l.ws l.cs
