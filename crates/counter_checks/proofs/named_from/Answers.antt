use mathlib.Core.Path.{sym, ◌∙◌}
use Prim.Native.Nat.{suc}
use native.Mathlib.Omega.{arith}
use native.Mathlib.Numerals.{add-one}
use lib.Dec.{eqb}
use lib.ListN.{drop}
use Rattle.counters.specs.Batch.{kept}
use Rattle.counters.specs.Steps.{transitions}
use Rattle.counters.proofs.StepLaws.{no-transition, any-passed, any-decided, elem-named, any_none}
use Rattle.lent_batches.proofs.LentLaws.{met}
use Rattle.counter_checks.proofs.named_from.Goals as goal

pub loop-i-init : goal.loop-i-init
loop-i-init g c = let a = c.args in elem-named a.idx (kept (drop a.from (transitions (g.B.Transitions.words a.b))))

pub returns-then-is_named : goal.returns-then-is_named
returns-then-is_named g c =
    let l = c.loop-i in
    let a = c.args in
    let ws = g.B.Transitions.words a.b in
    let x = c.at.result in
    let r = drop (suc l.i) (transitions ws) in
    sym (l.invariant ∙ rw (met ws l.i x c.at.ensures (omega arith)) (any-decided x r (λ t. eqb a.idx t.idx.0) (sym c.is_named.ensures ∙ c.if-is_named.true)))

pub loop-i-preserved : goal.loop-i-preserved
loop-i-preserved g c =
    let l = c.loop-i in
    let a = c.args in
    let ws = g.B.Transitions.words a.b in
    let x = c.at.result in
    let r = drop (suc l.i) (transitions ws) in
    rw add-one (l.invariant ∙ rw (met ws l.i x c.at.ensures (omega arith)) (any-passed x r (λ t. eqb a.idx t.idx.0) (sym c.is_named.ensures ∙ c.if-is_named.false)))

pub returns : goal.returns
returns g c =
    let l = c.loop-i in
    let a = c.args in
    let ws = g.B.Transitions.words a.b in
    sym (l.invariant ∙ rw (no-transition ws l.i (omega arith) (omega arith)) (any_none (λ t. eqb a.idx t.idx.0)))
