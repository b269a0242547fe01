use Rattle.base.specs.Logic.{any}
use Rattle.snapshot_tiers.specs.Heads.{low}
use Rattle.snapshot_tiers.specs.LargeLaws.{raw-start, low-found, low-passed, low-none}
use mathlib.Core.Path.{sym, ap, ◌∙◌}
use native.Mathlib.Omega.{arith}
use Rattle.snapshot_tiers.proofs.large.any_low.Goals as goal

pub loop-i-init : goal.loop-i-init
loop-i-init c = ap (any low) (raw-start c.args.s.now c.args.at c.args.n)

pub returns-then-read_le64-lt257 : goal.returns-then-read_le64-lt257
returns-then-read_le64-lt257 c =
    let a = c.args in
    let l = c.loop-i in
    let e = c.read_le64.ensures in
    low-found a.s.now a.at a.n l.i (omega arith) (omega arith) ∙ l.invariant

pub loop-i-preserved : goal.loop-i-preserved
loop-i-preserved c =
    let a = c.args in
    let l = c.loop-i in
    let e = c.read_le64.ensures in
    sym (low-passed a.s.now a.at a.n l.i (omega arith) (omega arith)) ∙ l.invariant

pub returns : goal.returns
returns c = let a = c.args in let l = c.loop-i in low-none a.s.now a.at a.n l.i (omega arith) ∙ l.invariant
