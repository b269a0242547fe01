use Rattle.rows.specs.Wide.{key_of}
use Rattle.cell_nursery.specs.Held.{Keeping}
use Rattle.nursery_rows.specs.Rows.{other}
use Rattle.nursery_rows.proofs.waiting.keep_others.Given as goal

abbrev pub invariant-loop-i : goal.invariant-loop-i
invariant-loop-i l = Keeping (other (key_of l.hash)) l.n l.initial.t l.t l.i l.j
