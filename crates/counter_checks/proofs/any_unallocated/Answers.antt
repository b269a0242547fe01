use mathlib.Core.Path.{sym, ◌∙◌}
use Prim.Native.Nat.{suc}
use native.Mathlib.Omega.{arith}
use native.Mathlib.Numerals.{add-one}
use lib.ListN.{drop}
use Rattle.counters.specs.Batch.{unallocated}
use Rattle.counters.specs.Steps.{transitions}
use Rattle.counters.proofs.StepLaws.{no-transition, any-passed, any-decided, any_none}
use Rattle.lent_batches.proofs.LentLaws.{met}
use Rattle.counter_checks.proofs.any_unallocated.Goals as goal

pub returns-then-is_unallocated : goal.returns-then-is_unallocated
returns-then-is_unallocated g c =
    let l = c.loop-i in
    let a = c.args in
    let ws = g.B.Transitions.words a.b in
    let x = c.at.result in
    let r = drop (suc l.i) (transitions ws) in
    sym (l.invariant ∙ rw (met ws l.i x c.at.ensures (omega arith)) (any-decided x r (unallocated a.next) (sym c.is_unallocated.ensures ∙ c.if-is_unallocated.true)))

pub loop-i-preserved : goal.loop-i-preserved
loop-i-preserved g c =
    let l = c.loop-i in
    let a = c.args in
    let ws = g.B.Transitions.words a.b in
    let x = c.at.result in
    let r = drop (suc l.i) (transitions ws) in
    rw add-one (l.invariant ∙ rw (met ws l.i x c.at.ensures (omega arith)) (any-passed x r (unallocated a.next) (sym c.is_unallocated.ensures ∙ c.if-is_unallocated.false)))

pub returns : goal.returns
returns g c =
    let l = c.loop-i in
    let a = c.args in
    let ws = g.B.Transitions.words a.b in
    sym (l.invariant ∙ rw (no-transition ws l.i (omega arith) (omega arith)) (any_none (unallocated a.next)))
