-- The set that rows spell is the set of counts.
use Rattle.counters.specs.Counts.{small_code}
use Rattle.counters.specs.Counts as counts
use Rattle.roaring_rows.specs.RowMembers.{code_of}
use Rattle.roaring_rows.specs.RowMembers as rows
use Rattle.counter_sets.proofs.in_set.Goals as goal

pub returns : goal.returns
unfolding counts.in_set small_code rows.in_set code_of
returns c = c.in_set.ensures
