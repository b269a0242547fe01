-- `counter_batch::apply_batch`.
-- Assumes nothing.
use mathlib.Core.Path.{sym, ◌∙◌}
use Rattle.counters.proofs.JudgeLaws.{judge-broken}
use Rattle.counter_batch.proofs.apply_batch.Goals as goal

pub returns-then-not-holds : goal.returns-then-not-holds
returns-then-not-holds g c =
    judge-broken c.args.c c.args.t.now (g.B.Transitions.words c.args.b) (sym c.holds.ensures ∙ c.if-not-holds.true)

pub apply_batch_held-requires : goal.apply_batch_held-requires
apply_batch_held-requires g c = sym c.holds.ensures ∙ c.if-not-holds.false

pub returns : goal.returns
returns g c = c.apply_batch_held.ensures
