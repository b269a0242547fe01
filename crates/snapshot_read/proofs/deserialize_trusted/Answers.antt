use mathlib.Core.Path.{sym, ◌∙◌}
use native.Mathlib.Omega.{arith}
use Rattle.std.proofs.lemmas.Result.{err_from_is_err_and}
use Rattle.snapshot_read.specs.LayLaws.{call-few, call-laid, plan_under-refused, plan_under-fits}
use Rattle.snapshot_read.proofs.deserialize_trusted.Goals as goal

pub returns-in_err-p : goal.returns-in_err-p
returns-in_err-p c =
    let a = c.args in
    let p = err_from_is_err_and c.from_residual.result c.from_residual.ensures.1 in
    rw (p.1, p.2) (plan_under-refused a.settings a.s.now a.t.now c.in_err-p.field-0.0 (sym c.plan_under.ensures ∙ c.in_err-p.was))

pub returns : goal.returns
returns c =
    let a = c.args in
    let f = plan_under-fits a.settings a.s.now a.t.now c.in_ok-p.p (sym c.plan_under.ensures ∙ c.in_ok-p.was) in
    call-laid a.settings a.s.now a.t.now f.0 c.in_ok-p.p f.1 (omega arith) c.laid_in.ensures

pub laid_in-requires : goal.laid_in-requires
laid_in-requires c = (plan_under-fits c.args.settings c.args.s.now c.args.t.now c.in_ok-p.p (sym c.plan_under.ensures ∙ c.in_ok-p.was)).1.plan

pub returns-then-p : goal.returns-then-p
returns-then-p c =
    let a = c.args in
    let f = plan_under-fits a.settings a.s.now a.t.now c.in_ok-p.p (sym c.plan_under.ensures ∙ c.in_ok-p.was) in
    call-few a.settings a.s.now a.t.now f.0 c.in_ok-p.p f.1 (omega arith)
