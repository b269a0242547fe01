-- `drain_rows::rows_fit` meets its contract. The invariant: what is left and the bytes of the first i rows make the room.
use lib.ListN.{length, take}
use mathlib.Core.List.{[]}
use Rattle.cell_nursery.proofs.PrefixLaws.{waiter-of-row}
use Rattle.cell_nursery.specs.Rows.{handed_out}
use Rattle.cell_nursery.proofs.OutputLaws.{flat-within, length-next}
use Rattle.cell_nursery.proofs.LayoutLaws.{number-waiting}
use Rattle.cell_nursery.specs.Layout.{waiting_row, waiter_of, entries_of, waiting_of}
use Rattle.cell_nursery.specs.declared.Nursery.{Nursery}
use Rattle.cell_nursery.specs.Entries.{Waiting}
use Rattle.base.specs.Logic.{flat}
use borrow.Author.Tests.{lt-leb, le-leb}
use lib.Seq.{take_all, length-take-le}
use mathlib.Core.List.{List}
use mathlib.Core.Path.{◌≡◌, refl, sym, ap, ◌∙◌}
use Prim.Native.Nat.{ℕ, ◌≤◌}
use native.Mathlib.Omega.{arith}
use Rattle.drain_rows.proofs.rows_fit.Goals as goal

-- the rows that are due, and what each hands out
abbrev due_of : ℕ → Nursery → List ℕ → List Waiting
due_of k r ws = take k (waiting_of r.waiting ws)

abbrev out_of : Nursery → List ℕ → List ℕ → Waiting → List ℕ
out_of r es cs = handed_out (entries_of r.entries es cs)

abbrev none_of : Waiting
none_of = waiter_of (waiting_row.dec [])

number : (k : ℕ) (r : Nursery) (ws : List ℕ) → k ≤ r.waiting → length (due_of k r ws) ≡ k
number k r ws h = length-take-le k (waiting_of r.waiting ws) (rw (number-waiting r ws) h)

pub loop-i-init : goal.loop-i-init
unfolding flat
loop-i-init c = omega arith

pub row_len-len-requires : goal.row_len-len-requires
row_len-len-requires c = (c.requires.0, c.requires.1, omega arith)

pub returns-then-left-len : goal.returns-then-left-len
returns-then-left-len c =
    let l = c.loop-i in
    let a = c.args in
    let o : Waiting → List ℕ = out_of a.r a.es.now a.cs.now in
    let q : List Waiting = due_of a.k a.r a.ws.now in
    let n = number a.k a.r a.ws.now c.requires.2 in
    let g = c.row_len-len.ensures ∙ ap (λ (w : Waiting). length (out_of a.r a.es.now a.cs.now w)) (sym (waiter-of-row a.r.waiting a.ws.now a.k l.i (omega arith) c.requires.2)) in
    sym (lt-leb (length (flat o q)) a.room (omega (arith, flat-within o q l.i none_of (omega arith))))

pub returns : goal.returns
returns c =
    let l = c.loop-i in
    let a = c.args in
    let o : Waiting → List ℕ = out_of a.r a.es.now a.cs.now in
    let d : List Waiting = due_of a.k a.r a.ws.now in
    let n = number a.k a.r a.ws.now c.requires.2 in
    let q = ap (λ (x : List Waiting). length (flat (out_of a.r a.es.now a.cs.now) x)) (take_all l.i d (omega arith)) in
    sym (le-leb (length (flat o d)) a.room (omega arith))

pub loop-i-preserved : goal.loop-i-preserved
loop-i-preserved c =
    let l = c.loop-i in
    let a = c.args in
    let o : Waiting → List ℕ = out_of a.r a.es.now a.cs.now in
    let q : List Waiting = due_of a.k a.r a.ws.now in
    let n = number a.k a.r a.ws.now c.requires.2 in
    let g = c.row_len-len.ensures ∙ ap (λ (w : Waiting). length (out_of a.r a.es.now a.cs.now w)) (sym (waiter-of-row a.r.waiting a.ws.now a.k l.i (omega arith) c.requires.2)) in
    omega (arith, length-next o q l.i none_of (omega arith) (length (flat o (take l.i q))) c.row_len-len.result refl g)
