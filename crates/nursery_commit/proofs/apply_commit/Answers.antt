use Rattle.nursery_commit.specs.CommitLaws.{commit-broken}
use mathlib.Core.Path.{sym, ◌∙◌}
use Rattle.nursery_commit.proofs.apply_commit.Goals as goal

pub returns-then-not-holds : goal.returns-then-not-holds
returns-then-not-holds c =
    let a = c.args in
    commit-broken a.r a.es.now a.ws.now a.cs.now a.wide a.inserts a.removes a.items.now (sym c.holds.ensures ∙ c.if-not-holds.true)
