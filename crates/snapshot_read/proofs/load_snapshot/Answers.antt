use mathlib.Core.Path.{sym, ◌∙◌}
use Rattle.std.proofs.lemmas.Result.{err_from_is_err_and}
use Rattle.snapshot_read.specs.LayLaws.{load-laid, load-plan_under-refused, plan_under-fits}
use Rattle.snapshot_read.proofs.load_snapshot.Goals as goal

pub returns-in_err-p : goal.returns-in_err-p
returns-in_err-p c =
    let a = c.args in
    let p = err_from_is_err_and c.from_residual.result c.from_residual.ensures.1 in
    rw (p.1, p.2) (load-plan_under-refused a.settings a.s.now a.t.now c.in_err-p.field-0.0 (sym c.plan_under.ensures ∙ c.in_err-p.was))

pub laid_in-counters-requires : goal.laid_in-counters-requires
laid_in-counters-requires c = (plan_under-fits c.args.settings c.args.s.now c.args.t.now c.in_ok-p.p (sym c.plan_under.ensures ∙ c.in_ok-p.was)).1.plan

pub returns : goal.returns
returns c =
    let a = c.args in
    let f = plan_under-fits a.settings a.s.now a.t.now c.in_ok-p.p (sym c.plan_under.ensures ∙ c.in_ok-p.was) in
    load-laid a.settings a.s.now a.t.now f.0 c.in_ok-p.p f.1 c.max-live.ensures c.laid_in-counters.ensures
