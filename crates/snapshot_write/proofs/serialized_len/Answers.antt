-- `snapshot_write::serialized_len`. The check, and then the length.
-- Assumes nothing.
use mathlib.Core.Path.{sym, ◌∙◌}
use Rattle.snapshot_write.specs.CallLaws.{length-broken, length_taken}
use Rattle.snapshot_write.proofs.serialized_len.Goals as goal

pub returns-then-not-holds : goal.returns-then-not-holds
returns-then-not-holds c =
    length-broken c.args.c c.args.t.now (sym c.holds.ensures ∙ c.if-not-holds.true)

pub serialized_len_held-requires : goal.serialized_len_held-requires
serialized_len_held-requires c = sym c.holds.ensures ∙ c.if-not-holds.false

pub returns : goal.returns
returns c =
    length_taken c.args.c c.args.t.now (sym c.holds.ensures ∙ c.if-not-holds.false) c.serialized_len_held.result c.serialized_len_held.ensures
