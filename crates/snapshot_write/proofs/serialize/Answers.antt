-- `snapshot_write::serialize`. The check, and then the snapshot.
-- Assumes nothing.
use mathlib.Core.Path.{sym, ◌∙◌}
use Rattle.snapshot_write.specs.CallLaws.{serialize-broken}
use Rattle.snapshot_write.proofs.serialize.Goals as goal

pub returns-then-not-holds : goal.returns-then-not-holds
returns-then-not-holds c =
    serialize-broken c.args.c c.args.t.now c.args.out.now (sym c.holds.ensures ∙ c.if-not-holds.true)

pub serialize_held-requires : goal.serialize_held-requires
serialize_held-requires c = sym c.holds.ensures ∙ c.if-not-holds.false

pub returns : goal.returns
returns c = c.serialize_held.ensures
