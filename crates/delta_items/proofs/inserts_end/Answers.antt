-- `delta_items::inserts_end`. The invariant: where all inserts end is where those from insert `counter` on do.
use mathlib.Core.Path.{sym, ◌∙◌}
use native.Mathlib.Omega.{arith}
use borrow.Author.Tests.{leb-true}
use lib.ListN.{length, drop, length-drop}
use Rattle.cell_nursery.specs.Calls.{length_width}
use Rattle.delta_items.specs.Walk.{insert_len}
use Rattle.delta_items.specs.WalkLaws.{end-start, end-past, end-turn, end-done}
use Rattle.delta_items.proofs.inserts_end.Goals as goal

pub loop-init : goal.loop-init
loop-init c =
    let a = c.args in
    (omega arith, end-start (length_width a.wide) a.inserts a.items.now)

pub returns-then-not-insert_fits : goal.returns-then-not-insert_fits
returns-then-not-insert_fits c =
    let a = c.args in
    let l = c.loop in
    let past = sym c.insert_fits.ensures ∙ c.if-not-insert_fits.true in
    sym (end-past (length_width a.wide) a.inserts l.counter l.at a.items.now (omega arith) past) ∙ l.invariant.1

pub loop-preserved : goal.loop-preserved
loop-preserved c =
    let a = c.args in
    let l = c.loop in
    let d = drop l.at a.items.now in
    let fits = sym c.insert_fits.ensures ∙ c.if-not-insert_fits.false in
    let e = c.insert_end-at.ensures in (
      omega (arith, leb-true (insert_len (length_width a.wide) d) (length d) fits, length-drop l.at a.items.now, l.invariant.0, e),
      rw e (sym (end-turn (length_width a.wide) a.inserts l.counter l.at a.items.now (omega arith) fits) ∙ l.invariant.1),
    )

pub returns : goal.returns
returns c =
    let a = c.args in
    let l = c.loop in
    sym (end-done (length_width a.wide) a.inserts l.counter l.at a.items.now (omega arith)) ∙ l.invariant.1
