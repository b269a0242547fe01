-- `blake3::left_len` meets its contract. The loop's invariant: doubling k further, under a bound that is enough, gives the left part's length.
use mathlib.Core.Path.{refl, sym, ◌∙◌}
use native.Mathlib.Omega.{arith}
use Rattle.blake3.specs.Spec.{left_len}
use Rattle.blake3.proofs.Laws.{doubles, stays}
use Rattle.blake3.proofs.left_len.Goals as goal

pub loop-k-init : goal.loop-k-init
unfolding left_len
loop-k-init c = (omega arith, omega arith, (c.args.n, refl, omega arith))

pub loop-k-preserved : goal.loop-k-preserved
loop-k-preserved c =
    let i = c.loop-k.invariant.2 in
    let d = doubles i.0 c.args.n c.loop-k.k (omega arith) (omega arith) i.2 in
    (omega arith, omega arith, (d.0, d.1 ∙ i.1, d.2))

pub returns : goal.returns
returns c =
    let i = c.loop-k.invariant.2 in
    (sym (stays i.0 c.args.n c.loop-k.k (omega arith)) ∙ i.1, omega arith, omega arith)
