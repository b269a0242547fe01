use Rattle.base.specs.Logic.{fold}
use Rattle.cell_nursery.specs.Entries.{remove}
use Rattle.cell_nursery.specs.Layout.{state_of}
use Rattle.delta_items.specs.Walk.{hashes_in, removes_from}
use Rattle.nursery_run.specs.RunLaws.{Running}
use lib.ListN.{drop}
use Rattle.nursery_run.proofs.apply_removes.Given as goal

abbrev pub invariant-loop-j : goal.invariant-loop-j
invariant-loop-j l = Running l.initial.q.delay l.initial.es l.initial.ws l.initial.cs (fold remove (hashes_in l.removes (drop l.at l.items)) (state_of l.initial.q l.initial.es l.initial.ws l.initial.cs)) (fold remove (removes_from l.removes l.j l.at l.items)) l.q l.es l.ws l.cs
