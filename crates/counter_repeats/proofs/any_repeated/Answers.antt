-- `counter_repeats::any_repeated`. The words behind the rows are 0, and come back as they were.
-- Assumes nothing.
use native.Mathlib.Omega.{arith}
use Rattle.counter_repeats.specs.SpaceLaws.{length-behind, blank-behind, table_same}
use Rattle.counter_repeats.proofs.any_repeated.Goals as goal

pub sorted_repeated-requires : goal.sorted_repeated-requires
sorted_repeated-requires g c =
    (grind (arith, length-behind c.args.t.now c.args.n c.requires), blank-behind c.args.t.now c.args.n c.requires)

pub returns-else-t-at : goal.returns-else-t-at
returns-else-t-at g c =
    let r = c.sorted_repeated in
    (r.ensures.0, table_same c.args.t.now c.args.n c.requires r.new.s r.ensures.1)
