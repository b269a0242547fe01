use mathlib.Core.Path.{◌≡◌}
use native.Mathlib.Decide.{dec_le}
use native.Mathlib.Omega.{arith}
use Rattle.rows.specs.Keys.{keys, first_word}
use Rattle.rows.proofs.KeyLaws.{place-le, length-keys}
use Rattle.rows.proofs.SearchLaws.{below-place, place-reached, place-past}
use Rattle.counters.proofs.RowLaws.{in-order-sorted, found-row, no_row, past-rows}
use Rattle.counter_rows.proofs.stored_at.Goals as goal

pub narrow-start-requires : goal.narrow-start-requires
narrow-start-requires c = (omega arith, c.requires.laid.fits, in-order-sorted c.args.n c.args.t.now c.requires)

pub loop-k-init : goal.loop-k-init
loop-k-init c =
    let f = c.narrow-start in
    let n = c.args.n in
    let t = c.args.t.now in
    let i = c.args.idx in
    below-place 2 n t i f.result (omega (arith, f.ensures.0))

pub returns-then-here-idx : goal.returns-then-here-idx
returns-then-here-idx c =
    let l = c.loop-k in
    let n = c.args.n in
    let t = c.args.t.now in
    found-row n t c.requires c.args.idx l.k
    (place-reached 2 n t c.args.idx (in-order-sorted n t c.requires) l.k (omega arith) l.invariant c.loop-k-test.true (omega (arith, c.if-idx-here.true)))
    c.loop-k-test.true c.if-here-idx.true

pub returns-else-here-idx : goal.returns-else-here-idx
returns-else-here-idx c =
    let l = c.loop-k in
    let n = c.args.n in
    let t = c.args.t.now in
    no_row n t c.requires c.args.idx l.k
    (place-reached 2 n t c.args.idx (in-order-sorted n t c.requires) l.k (omega arith) l.invariant c.loop-k-test.true (omega (arith, c.if-idx-here.true)))
    c.loop-k-test.true c.if-here-idx.false

pub loop-k-preserved : goal.loop-k-preserved
loop-k-preserved c =
    let l = c.loop-k in
    λ j h. elim (dec_le l.k j) [
      | yes g ↦ let same : j ≡ l.k = omega arith in rw same (omega (arith, c.if-idx-here.false))
      | no g ↦ l.invariant j (omega arith)
    ]

pub returns : goal.returns
returns c =
    let l = c.loop-k in
    let n = c.args.n in
    let t = c.args.t.now in
    past-rows n t c.requires c.args.idx l.k (place-past 2 n t c.args.idx (in-order-sorted n t c.requires) l.k (omega (arith, c.narrow-start.ensures.0, place-le c.args.idx (keys first_word 2 n t), length-keys first_word 2 n t)) l.invariant c.loop-k-test.false) c.loop-k-test.false
