use Rattle.counters.specs.Layout.{with_maintenance}
use Rattle.counters.proofs.LayoutLaws.{held}
use Rattle.counters.proofs.MaintenanceLaws.{shrink-held}
use Rattle.counter_shrink.proofs.shrink_held.Goals as goal

pub sets_shrink-small-requires : goal.sets_shrink-small-requires
sets_shrink-small-requires c = (held c.args.c c.args.t.now c.requires).laid.fits

pub returns : goal.returns
unfolding with_maintenance
returns c =
    shrink-held c.args.c c.args.t.now c.args.saved c.should_shrink-alive.result c.sets_shrink-small.result c.maintenance_after-maintenance.result c.requires c.should_shrink-alive.ensures c.sets_shrink-small.ensures c.maintenance_after-maintenance.ensures
