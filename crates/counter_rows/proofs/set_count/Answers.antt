use Rattle.rows.specs.Keys.{keys, first_word, place}
use Rattle.counters.specs.Held.{InOrder}
use Rattle.counters.proofs.RowLaws.{in-order-sorted}
use Rattle.counters.proofs.SetLaws.{place-within, behind-none, behind-all, set-replaced, set-removed, set-inserted, set-kept, room-more}
use Rattle.std.specs.Prelude.{◌≡◌, ℕ, List, suc, ◌*◌, ◌<◌, get_or}
use native.Mathlib.Decide.{dec_lt}
use native.Mathlib.Omega.{arith}
use Rattle.counter_rows.proofs.set_count.Goals as goal

-- no row has the index
missed : (n : ℕ) (t : List ℕ) → InOrder n t → (i k : ℕ) → k ≡ place i (keys first_word 2 n t) → (k < n → get_or t (k * 2) 0 ≡ i → ⊥)
    → k ≡ place (suc i) (keys first_word 2 n t)
missed n t ok i k here none =
    elim (dec_lt k n) [ yes h ↦ behind-none n t ok i k here h (none h) | no h ↦ behind-all n t ok i k here (omega arith) ]

pub find-k-requires : goal.find-k-requires
find-k-requires c = (omega arith, c.requires.in_order.laid.fits, in-order-sorted c.args.n c.args.t.now c.requires.in_order)

pub overflow_mul-at : goal.overflow_mul-at
overflow_mul-at c =
    omega (arith, c.requires.in_order.laid.fits, place-within c.args.n c.args.t.now c.requires.in_order c.args.idx c.find-k.result c.find-k.ensures)

pub returns-then-new-ge2 : goal.returns-then-new-ge2
returns-then-new-ge2 c =
    set-replaced c.args.n c.args.t.now c.requires.in_order c.args.idx c.args.new c.find-k.result c.find-k.ensures (omega arith) c.if-t-at.true c.if-new-ge2.true

pub returns-then-t-at : goal.returns-then-t-at
returns-then-t-at c =
    rw c.remove_row.ensures
    (set-removed c.args.n c.args.t.now c.requires.in_order c.args.idx c.args.new c.find-k.result c.find-k.ensures (omega arith) c.if-t-at.true c.if-new-ge2.false)

pub insert_row-requires : goal.insert_row-requires
insert_row-requires c =
    let b = missed c.args.n c.args.t.now c.requires.in_order c.args.idx c.find-k.result c.find-k.ensures (grind arith) in
    let r = room-more c.args.n c.args.t.now c.requires.in_order c.args.idx c.args.new c.find-k.result c.find-k.ensures b c.if-new-ge2-2.true c.requires.t_in_bounds in
    omega (arith, place-within c.args.n c.args.t.now c.requires.in_order c.args.idx c.find-k.result c.find-k.ensures, r)

pub returns-then-new-ge2-2 : goal.returns-then-new-ge2-2
returns-then-new-ge2-2 c =
    let b = missed c.args.n c.args.t.now c.requires.in_order c.args.idx c.find-k.result c.find-k.ensures (grind arith) in
    rw c.insert_row.ensures
    (set-inserted c.args.n c.args.t.now c.requires.in_order c.args.idx c.args.new c.find-k.result c.find-k.ensures b c.if-new-ge2-2.true c.requires.t_in_bounds)

pub returns : goal.returns
returns c =
    let b = missed c.args.n c.args.t.now c.requires.in_order c.args.idx c.find-k.result c.find-k.ensures (grind arith) in
    set-kept c.args.n c.args.t.now c.requires.in_order c.args.idx c.args.new c.find-k.result c.find-k.ensures b c.if-new-ge2-2.false
