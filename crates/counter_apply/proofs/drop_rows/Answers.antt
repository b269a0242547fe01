use mathlib.Core.Path.{sym, ◌∙◌}
use Rattle.counter_apply.specs.DropLaws.{marked-laid, dropped, none_dropped}
use Rattle.counter_apply.proofs.drop_rows.Goals as goal

pub compact-requires : goal.compact-requires
compact-requires g c =
    marked-laid c.args.n c.args.t.now (g.B.Transitions.words c.args.b) c.requires.in_order c.requires.t_value _ c.mark.ensures.1

pub returns-then-mark : goal.returns-then-mark
returns-then-mark g c =
    dropped c.args.n c.args.t.now (g.B.Transitions.words c.args.b) c.requires.in_order c.requires.t_value _ c.mark.ensures.1
    c.compact.result _ c.compact.ensures.0 c.compact.ensures.1

pub returns : goal.returns
returns g c =
    let m = c.mark in
    none_dropped c.args.n c.args.t.now (g.B.Transitions.words c.args.b) c.requires.in_order c.requires.t_value _ m.ensures.1 (sym m.ensures.0 ∙ c.if-mark.false)
