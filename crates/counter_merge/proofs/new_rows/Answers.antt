use mathlib.Core.Path.{ap}
use Prim.Native.Nat.{suc}
use native.Mathlib.Omega.{arith}
use native.Mathlib.Numerals.{add-one}
use lib.ListN.{drop}
use Rattle.rows.specs.Keys.{keys, first_word}
use Rattle.counters.specs.Steps.{transitions}
use Rattle.counters.proofs.StepLaws.{no-transition}
use Rattle.lent_batches.proofs.LentLaws.{met}
use Rattle.counter_merge.specs.Passes.{is_new, new_rows}
use Rattle.counter_merge.specs.AsideLaws.{new-more, new_none, new-one}
use Rattle.counter_merge.proofs.new_rows.Goals as goal

pub overflow_add-k : goal.overflow_add-k
overflow_add-k g c =
    let l = c.loop-i in
    let a = c.args in
    omega (arith, c.is_new-k.ensures, new-one (is_new (keys first_word 2 a.n a.t.now) c.at.result))

pub loop-i-preserved : goal.loop-i-preserved
loop-i-preserved g c =
    let l = c.loop-i in
    let a = c.args in
    let ws = g.B.Transitions.words a.b in
    let ks = keys first_word 2 a.n a.t.now in
    let x = c.at.result in
    let r = drop (suc l.i) (transitions ws) in
    let f = ap (λ ts. new_rows ks ts) (met ws l.i x c.at.ensures (omega arith)) in (
      omega (arith, c.is_new-k.ensures, new-one (is_new ks x)),
      rw add-one (omega (arith, c.is_new-k.ensures, f, new-more ks x r, l.invariant.1)),
    )

pub returns : goal.returns
returns g c =
    let l = c.loop-i in
    let a = c.args in
    let ws = g.B.Transitions.words a.b in
    let ks = keys first_word 2 a.n a.t.now in
    let e = ap (λ ts. new_rows ks ts) (no-transition ws l.i (omega arith) (omega arith)) in
    omega (arith, e, new_none ks, l.invariant.1)
