use Rattle.snapshot_read.specs.LayLaws.{lay-filled, lay-laid}
use Rattle.snapshot_read.proofs.laid_in.Goals as goal

pub lay-requires : goal.lay-requires
lay-requires c = let a = c.args in lay-filled a.s.now a.t.now _ a.p c.fill.ensures c.requires

pub returns : goal.returns
returns c =
    let a = c.args in
    lay-laid a.s.now a.t.now _ a.p c.fill.ensures a.settings a.live c.requires c.lay.ensures c.record_of.ensures
