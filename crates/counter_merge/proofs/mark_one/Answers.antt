use mathlib.Core.Path.{sym, ◌∙◌}
use Rattle.counter_merge.specs.TableLaws.{mark-due, mark-other}
use Rattle.counter_merge.proofs.mark_one.Goals as goal

pub returns-then-is_due : goal.returns-then-is_due
returns-then-is_due c =
    let d = sym c.is_due.ensures ∙ c.if-is_due.true in
    mark-due c.args.n c.args.t.now c.requires c.args.x d c.replace.result _ c.replace.ensures.0 c.replace.ensures.1

pub returns : goal.returns
returns c =
    mark-other c.args.n c.args.t.now c.requires c.args.x (sym c.is_due.ensures ∙ c.if-is_due.false)
