-- `blake3::chunk` meets its contract. The loop's invariant: the blocks that are left give the chunk's chaining value.
use mathlib.Core.Path.{refl, ap, ◌∙◌}
use Prim.Native.Nat.{ℕ}
use native.Mathlib.Omega.{arith}
use Rattle.blake3.specs.Spec.{block_words, chunk}
use Rattle.blake3.proofs.Laws.{blocks, one_block, last_block}
use Rattle.blake3.proofs.chunk.Goals as goal

pub loop-rest-init : goal.loop-rest-init
unfolding blocks chunk
loop-rest-init c = (omega arith, omega arith, refl)

pub loop-rest-preserved : goal.loop-rest-preserved
unfolding block_words
loop-rest-preserved c =
    let l = c.loop-rest in
    let a = c.args in
    let s = c.split_at.ensures in
    let m = rw s.front at c.words-m.ensures in (
      omega arith,
      omega arith,
      rw s.back (one_block c.flags-flags.result a.root a.counter l.first l.cv l.rest.now c.loop-rest-test.true l.invariant.2 m c.compress.ensures),
    )

pub returns : goal.returns
unfolding block_words
returns c =
    let l = c.loop-rest in
    let a = c.args in
    let m = rw c.padded-b.ensures at c.words-m-2.ensures in
    last_block c.flags-flags.result a.root a.counter l.first l.cv l.rest.now
    c.loop-rest-test.false l.invariant.2 m c.compress-2.ensures
    ∙ ap (λ (n : ℕ). chunk a.start.words n a.root a.counter a.s.now) c.flags-flags.ensures.0
