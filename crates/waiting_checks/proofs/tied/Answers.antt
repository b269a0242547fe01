-- `waiting_checks::tied` meets its contract. The invariant: all rows are right and apart exactly where those of the windows from `lo` on are.
use mathlib.Core.Path.{sym, ap, ◌∙◌}
use mathlib.Core.List.{List}
use mathlib.Core.Bool.{Bool, ◌&&◌}
use Prim.Native.Nat.{ℕ, ◌+◌}
use native.Mathlib.Omega.{arith}
use Rattle.rows.specs.Table.{rows_of}
use Rattle.rows.specs.Keys.{first_four, keys}
use Rattle.rows.proofs.KeyLaws.{place-le, length-keys}
use Rattle.cell_nursery.specs.Layout.{hash_of, WaitingRow, waiting_row}
use Rattle.waiting_checks.specs.Marks.{clean, place_of, names_at}
use Rattle.waiting_checks.specs.WindowLaws.{rows_from, first-window, next-window, last-window}
use Rattle.waiting_checks.specs.TiedLaws.{tied-clean}
use Rattle.waiting_checks.proofs.tied.Goals as goal

pub loop-lo-init : goal.loop-lo-init
loop-lo-init c =
    let a = c.args in
    let key = place_of a.r a.es.now in
    let ok = names_at a.r a.es.now in
    ap (λ (ws : List WaitingRow). clean key ok ws) (sym (first-window key ok (rows_of waiting_row a.r.waiting a.ws.now)))

pub window_tied-requires : goal.window_tied-requires
window_tied-requires c = (c.requires.0, c.requires.1, omega arith)

pub returns-then-not-window_tied : goal.returns-then-not-window_tied
returns-then-not-window_tied c = λ (cs : List ℕ).
    let l = c.loop-lo in
    let key = place_of c.args.r c.args.es.now in
    let ok = names_at c.args.r c.args.es.now in
    let ws = rows_of waiting_row c.args.r.waiting c.args.ws.now in
    let e = sym c.window_tied.ensures ∙ c.if-not-window_tied.true in
    sym (sym (tied-clean c.args.r c.args.es.now c.args.ws.now cs c.requires.0) ∙ l.invariant ∙ next-window key ok l.lo ws
    ∙ ap (λ (b : Bool). b && clean key ok (rows_from key ok (l.lo + 65536) ws)) e)

pub loop-lo-preserved : goal.loop-lo-preserved
loop-lo-preserved c =
    let l = c.loop-lo in
    let key = place_of c.args.r c.args.es.now in
    let ok = names_at c.args.r c.args.es.now in
    let ws = rows_of waiting_row c.args.r.waiting c.args.ws.now in
    let e = sym c.window_tied.ensures ∙ c.if-not-window_tied.false in
    l.invariant ∙ next-window key ok l.lo ws ∙ ap (λ (b : Bool). b && clean key ok (rows_from key ok (l.lo + 65536) ws)) e

pub returns : goal.returns
returns c = λ (cs : List ℕ).
    let l = c.loop-lo in
    let key = place_of c.args.r c.args.es.now in
    let ok = names_at c.args.r c.args.es.now in
    let ws = rows_of waiting_row c.args.r.waiting c.args.ws.now in
    let ks = keys first_four 8 c.args.r.entries c.args.es.now in
    sym (sym (tied-clean c.args.r c.args.es.now c.args.ws.now cs c.requires.0) ∙ l.invariant
    ∙ last-window key ok l.lo ws (λ w. omega (arith, place-le (hash_of w.hash) ks, length-keys first_four 8 c.args.r.entries c.args.es.now)))

pub returns-else-not-window_tied : goal.returns-else-not-window_tied
returns-else-not-window_tied c = λ (cs : List ℕ).
    let l = c.loop-lo in
    let key = place_of c.args.r c.args.es.now in
    let ok = names_at c.args.r c.args.es.now in
    let ws = rows_of waiting_row c.args.r.waiting c.args.ws.now in
    let ks = keys first_four 8 c.args.r.entries c.args.es.now in
    let e = sym c.window_tied.ensures ∙ c.if-not-window_tied.false in
    sym (sym (tied-clean c.args.r c.args.es.now c.args.ws.now cs c.requires.0) ∙ l.invariant ∙ next-window key ok l.lo ws
    ∙ ap (λ (b : Bool). b && clean key ok (rows_from key ok (l.lo + 65536) ws)) e
    ∙ last-window key ok (l.lo + 65536) ws (λ w. omega (arith, place-le (hash_of w.hash) ks, length-keys first_four 8 c.args.r.entries c.args.es.now)))
