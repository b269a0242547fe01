-- Demand 3, proved.
-- Assumes nothing.
use Rattle.node_box.specs.Demand.{Demand3}
use Rattle.demand3.specs.Snapshots.{snapshots}
use Rattle.demand3.specs.Listings.{listings}
use Rattle.demand3.specs.Rebuilding.{rebuilt}

pub demand3 : Demand3
demand3 =
    record {
      snapshots = snapshots;
      listings = listings;
      rebuilt = rebuilt;
    }
