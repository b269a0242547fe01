use mathlib.Core.Path.{ap}
use mathlib.Core.Bool.{◌&&◌}
use Prim.Native.Nat.{ℕ, suc}
use native.Mathlib.Omega.{arith}
use native.Mathlib.Numerals.{add-one}
use lib.ListN.{length, drop}
use Rattle.base.specs.Logic.{keep}
use Rattle.counters.specs.Batch.{changes, kept}
use Rattle.counters.specs.Steps.{transitions}
use Rattle.counter_steps.specs.Steps.{of_kind}
use Rattle.counters.proofs.StepLaws.{no-transition, counted, count_none}
use Rattle.lent_batches.proofs.LentLaws.{met}
use Rattle.counters.proofs.StepLaws.{count-one}
use Rattle.counter_steps.proofs.tally.Goals as goal

pub overflow_add-n : goal.overflow_add-n
overflow_add-n g c = let l = c.loop-i in let a = c.args in omega (arith, c.counts-n.ensures, count-one (changes c.at.result && of_kind a.kind c.at.result))

pub loop-i-preserved : goal.loop-i-preserved
loop-i-preserved g c =
    let l = c.loop-i in
    let a = c.args in
    let ws = g.B.Transitions.words a.b in
    let x = c.at.result in
    let r = drop (suc l.i) (transitions ws) in
    let f = ap (λ ts. length (keep (of_kind a.kind) (kept ts))) (met ws l.i x c.at.ensures (omega arith)) in
    let q = ap (λ (j : ℕ). length (keep (of_kind a.kind) (kept (drop j (transitions ws))))) (add-one l.i) in
    (omega (arith, c.counts-n.ensures, count-one (changes x && of_kind a.kind x)), omega (arith, c.counts-n.ensures, f, q, counted x r (of_kind a.kind), l.invariant.1))

pub returns : goal.returns
returns g c =
    let l = c.loop-i in
    let a = c.args in
    let ws = g.B.Transitions.words a.b in
    let e = ap (λ ts. length (keep (of_kind a.kind) (kept ts))) (no-transition ws l.i (omega arith) (omega arith)) in
    omega (arith, e, count_none (of_kind a.kind), l.invariant.1)
