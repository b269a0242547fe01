-- `drain_rows::write_rows` meets its contract. The invariant: the bytes of the first i rows stand at the start.
use Rattle.cell_nursery.proofs.PrefixLaws.{waiter-of-row}
use Rattle.cell_nursery.specs.Rows.{handed_out}
use Rattle.cell_nursery.proofs.OutputLaws.{flat-within, length-next, paste-next, paste_all}
use Rattle.cell_nursery.proofs.LayoutLaws.{number-waiting}
use Rattle.cell_nursery.specs.Layout.{waiting_row, waiter_of, entries_of, waiting_of}
use Rattle.cell_nursery.specs.declared.Nursery.{Nursery}
use Rattle.cell_nursery.specs.Entries.{Waiting}
use Rattle.base.specs.Logic.{flat}
use lib.Seq.{paste, paste-zero, take_all, length-take-le}
use lib.ListN.{length, take, get_or}
use mathlib.Core.List.{List, []}
use mathlib.Core.Path.{◌≡◌, refl, sym, ap, ◌∙◌}
use Prim.Native.Nat.{ℕ, ◌≤◌}
use native.Mathlib.Omega.{arith}
use Rattle.drain_rows.proofs.write_rows.Goals as goal

-- the rows that are due, and what each hands out
abbrev due_of : ℕ → Nursery → List ℕ → List Waiting
due_of k r ws = take k (waiting_of r.waiting ws)

abbrev out_of : Nursery → List ℕ → List ℕ → Waiting → List ℕ
out_of r es cs = handed_out (entries_of r.entries es cs)

abbrev none_of : Waiting
none_of = waiter_of (waiting_row.dec [])

number : (k : ℕ) (r : Nursery) (ws : List ℕ) → k ≤ r.waiting → length (due_of k r ws) ≡ k
number k r ws h = length-take-le k (waiting_of r.waiting ws) (rw (number-waiting r ws) h)

pub loop-i-init : goal.loop-i-init
unfolding flat
loop-i-init c = (refl, paste-zero c.args.out.now 0 [], refl)

pub write_row-at-requires : goal.write_row-at-requires
write_row-at-requires c =
    let l = c.loop-i in
    let a = c.args in
    let o : Waiting → List ℕ = out_of a.r a.es.now a.cs.now in
    let d : List Waiting = due_of a.k a.r a.ws.now in
    let n = number a.k a.r a.ws.now c.requires.entries_held.2 in
    let w = waiter-of-row a.r.waiting a.ws.now a.k l.i (omega arith) c.requires.entries_held.2 in
    let g = ap (λ (x : Waiting). length (out_of a.r a.es.now a.cs.now x)) w in
    record {
      entries_held = (c.requires.entries_held.0, c.requires.entries_held.1, omega arith);
      i_in_bounds = omega (arith, c.requires.ws_in_bounds, flat-within o d l.i none_of (omega arith));
    }

pub overflow_add-at : goal.overflow_add-at
overflow_add-at c =
    let l = c.loop-i in
    let a = c.args in
    let o : Waiting → List ℕ = out_of a.r a.es.now a.cs.now in
    let d : List Waiting = due_of a.k a.r a.ws.now in
    let n = number a.k a.r a.ws.now c.requires.entries_held.2 in
    let w = waiter-of-row a.r.waiting a.ws.now a.k l.i (omega arith) c.requires.entries_held.2 in
    let g = ap (λ (x : Waiting). length (out_of a.r a.es.now a.cs.now x)) w in
    omega (arith, c.requires.ws_in_bounds, c.write_row-at.ensures.0, flat-within o d l.i none_of (omega arith))

pub loop-i-preserved : goal.loop-i-preserved
loop-i-preserved c =
    let l = c.loop-i in
    let a = c.args in
    let o : Waiting → List ℕ = out_of a.r a.es.now a.cs.now in
    let d : List Waiting = due_of a.k a.r a.ws.now in
    let n = number a.k a.r a.ws.now c.requires.entries_held.2 in
    let w = waiter-of-row a.r.waiting a.ws.now a.k l.i (omega arith) c.requires.entries_held.2 in
    let g = ap (λ (x : Waiting). length (out_of a.r a.es.now a.cs.now x)) w in
    let e = c.write_row-at.ensures in
    let m = c.write_row-at.result in
    let q : m ≡ length (o (get_or d l.i none_of)) = e.0 ∙ sym g in (
      length-next o d l.i none_of (omega arith) l.at m l.invariant.0 q,
      e.1 ∙ ap (λ (x : Waiting). paste l.out l.at (o x) m) (sym w) ∙ paste-next o d l.i none_of (omega arith) a.out.now l.out l.at m l.invariant.0 q l.invariant.1,
      omega arith,
    )

pub returns : goal.returns
returns c =
    let l = c.loop-i in
    let a = c.args in
    let o : Waiting → List ℕ = out_of a.r a.es.now a.cs.now in
    let d : List Waiting = due_of a.k a.r a.ws.now in
    let n = number a.k a.r a.ws.now c.requires.entries_held.2 in
    let q = ap (λ (x : List Waiting). length (flat o x)) (take_all l.i d (omega arith)) in
    (l.invariant.0 ∙ q, paste_all o d l.i c.args.out.now l.out l.at (omega arith) l.invariant.0 l.invariant.1)
