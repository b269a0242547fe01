-- `counter_steps::maintained_by`.
-- Assumes nothing.
use Rattle.counters.specs.Maintenance.{maintained}
use Rattle.counter_steps.proofs.maintained_by.Goals as goal

pub returns : goal.returns
unfolding maintained
returns g c = rw (c.grown.ensures, c.tally.ensures, c.grown_sets.ensures)
