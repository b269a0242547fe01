-- `waiting_checks::window_tied` meets its contract. The invariant: all rows pass from no marks exactly where those from row j on pass from the marks so far.
use mathlib.Core.Path.{sym, ap, ◌∙◌}
use mathlib.Core.List.{List}
use Prim.Native.Nat.{ℕ, ◌+◌}
use native.Mathlib.Omega.{arith}
use lib.ListN.{drop}
use Rattle.rows.specs.Table.{rows_of}
use Rattle.cell_nursery.specs.Layout.{waiting_row}
use Rattle.waiting_checks.specs.Marks.{place_of, names_at}
use Rattle.waiting_checks.specs.WindowLaws.{all_pass, window-clean}
use Rattle.waiting_checks.specs.RowLaws.{pass-stops, pass-goes, pass-ends}
use Rattle.waiting_checks.proofs.window_tied.Goals as goal

pub mark_row-requires : goal.mark_row-requires
mark_row-requires c = (c.requires.0, omega (arith, c.requires.1.laid.fits), c.requires.2)

pub returns-then-not-mark_row : goal.returns-then-not-mark_row
returns-then-not-mark_row c =
    let l = c.loop-j in
    let r = c.args.r in
    let key = place_of r c.args.es.now in
    let ok = names_at r c.args.es.now in
    sym (sym (window-clean key ok c.args.lo (rows_of waiting_row r.waiting c.args.ws.now)) ∙ l.invariant
    ∙ pass-stops key ok c.args.lo l.marks r.waiting c.args.ws.now l.j c.loop-j-test.true (sym c.mark_row.ensures.0 ∙ c.if-not-mark_row.true))

pub loop-j-preserved : goal.loop-j-preserved
loop-j-preserved c =
    let l = c.loop-j in
    let r = c.args.r in
    let key = place_of r c.args.es.now in
    let ok = names_at r c.args.es.now in
    l.invariant
    ∙ pass-goes key ok c.args.lo l.marks r.waiting c.args.ws.now l.j c.loop-j-test.true (sym c.mark_row.ensures.0 ∙ c.if-not-mark_row.false)
    ∙ ap (λ (m : List ℕ). all_pass key ok c.args.lo m (drop (l.j + 1) (rows_of waiting_row r.waiting c.args.ws.now))) (sym c.mark_row.ensures.1)

pub returns : goal.returns
returns c =
    let l = c.loop-j in
    let r = c.args.r in
    let key = place_of r c.args.es.now in
    let ok = names_at r c.args.es.now in
    sym (sym (window-clean key ok c.args.lo (rows_of waiting_row r.waiting c.args.ws.now)) ∙ l.invariant
    ∙ pass-ends key ok c.args.lo l.marks r.waiting c.args.ws.now l.j c.loop-j-test.false)
