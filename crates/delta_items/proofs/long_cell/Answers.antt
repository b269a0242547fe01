-- `delta_items::long_cell`. The invariant: a cell of all inserts is over the limit exactly where one of those from insert `counter` on is.
use mathlib.Core.Path.{◌≡◌, sym, ap, ◌∙◌}
use Prim.Native.Nat.{ℕ, ◌-◌}
use native.Mathlib.Omega.{arith}
use borrow.Author.Tests.{lt-ltb, le-ltb}
use lib.ListN.{drop}
use Rattle.base.specs.Logic.{any}
use Rattle.cell_nursery.specs.Calls.{length_width}
use Rattle.delta_items.specs.Walk.{cell_len, inserts_in, inserts_len, long_cell}
use Rattle.delta_items.specs.WalkLaws.{left-start, left-inside, left-next, long-turn, inserts-done}
use Rattle.delta_items.proofs.long_cell.Goals as goal

pub loop-init : goal.loop-init
loop-init c =
    let a = c.args in
    let w = length_width a.wide in
    let z : a.inserts - 0 ≡ a.inserts = omega arith in
    (left-start w a.inserts a.items.now c.requires, ap (λ (k : ℕ). long_cell (inserts_in w k a.items.now)) z)

pub cell_len-requires : goal.cell_len-requires
cell_len-requires c = omega (arith, left-inside c.loop.invariant.0 (omega arith))

pub returns-then-cell_len-gt65535 : goal.returns-then-cell_len-gt65535
returns-then-cell_len-gt65535 c =
    let a = c.args in
    let l = c.loop in
    let e = inserts_len (length_width a.wide) a.inserts a.items.now in
    let t = long-turn (length_width a.wide) a.inserts l.counter l.at e a.items.now (omega arith) l.invariant.0 in
    let over = lt-ltb 65535 (cell_len (length_width a.wide) (drop l.at a.items.now)) (omega arith) in
    sym (rw over at t) ∙ l.invariant.1

pub insert_end-at-requires : goal.insert_end-at-requires
insert_end-at-requires c = omega (arith, left-inside c.loop.invariant.0 (omega arith))

pub loop-preserved : goal.loop-preserved
loop-preserved c =
    let a = c.args in
    let l = c.loop in
    let w = length_width a.wide in
    let e = inserts_len w a.inserts a.items.now in
    let t = long-turn w a.inserts l.counter l.at e a.items.now (omega arith) l.invariant.0 in
    let under = le-ltb 65535 (cell_len w (drop l.at a.items.now)) (omega arith) in
    rw c.insert_end-at.ensures (left-next w a.inserts l.counter l.at e a.items.now (omega arith) l.invariant.0, sym (rw under at t) ∙ l.invariant.1)

pub returns : goal.returns
unfolding any
returns c =
    let a = c.args in
    let l = c.loop in
    let w = length_width a.wide in
    let e = inserts_len w a.inserts a.items.now in
    sym (ap long_cell (inserts-done w a.inserts l.counter l.at e a.items.now (omega arith))) ∙ l.invariant.1
