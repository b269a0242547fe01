use mathlib.Core.Path.{subst, sym, ◌∙◌}
use Rattle.std.proofs.lemmas.Result.{err_from_is_err_and}
use Rattle.base.specs.declared.Refusal.TheVariants.{Version, TornSnapshot}
use Rattle.snapshot_lanes.specs.EndLaws.{Ended, ended}
use Rattle.snapshot_judge.specs.DecideLaws.{read_none, read-version, read_short, read-refused, verdict-refused}
use native.Mathlib.Omega.{arith}
use Rattle.snapshot_judge.proofs.decide.decide.Goals as goal

pub returns-then-s-eq0 : goal.returns-then-s-eq0
returns-then-s-eq0 c =
    let a = c.args in
    let t = a.s.now in
    verdict-refused a.room t TornSnapshot (read_none 0 a.room t (omega arith))

pub returns-then-s-ne1 : goal.returns-then-s-ne1
returns-then-s-ne1 c =
    let a = c.args in
    let t = a.s.now in
    verdict-refused a.room t Version (read-version 0 a.room t (omega arith) (λ e. omega arith))

pub returns-then-s-lt17 : goal.returns-then-s-lt17
returns-then-s-lt17 c =
    let a = c.args in
    let t = a.s.now in
    verdict-refused a.room t TornSnapshot (read_short 0 a.room t (omega arith) (omega arith) (omega arith))

pub returns-in_err-end : goal.returns-in_err-end
returns-in_err-end c =
    let a = c.args in
    let t = a.s.now in
    let q = c.in_err-end.field-0.0 in
    let e = subst (λ r. Ended t 17 r) (sym c.sets_end.ensures ∙ c.in_err-end.was) (ended t 17 (omega arith)) in
    let p = err_from_is_err_and c.from_residual.result c.from_residual.ensures.1 in
    rw (p.1, p.2) (verdict-refused a.room t q (read-refused 0 a.room t (omega arith) (omega arith) q e.rest))

pub decide_large-requires : goal.decide_large-requires
decide_large-requires c =
    let a = c.args in
    let t = a.s.now in
    let q = sym c.sets_end.ensures ∙ c.in_ok-end.was in
    let e = subst (λ r. Ended t 17 r) q (ended t 17 (omega arith)) in
    record { long = omega arith; version = omega arith; ends = q; rest = e.rest; inside = e.inside }
