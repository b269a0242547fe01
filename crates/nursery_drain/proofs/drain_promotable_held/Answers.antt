-- `nursery_drain::drain_promotable_held` meets its contract: the rows that are due, their bytes, and the rows behind them moved to the front.
-- Assumes nothing.
use Rattle.cell_nursery.proofs.PrefixLaws.{due-within, drain-full, drain-done}
use Rattle.cell_nursery.specs.Rows.{handed_out}
use Rattle.cell_nursery.proofs.LayoutLaws.{held}
use Rattle.cell_nursery.specs.Held.{Held, U64}
use Rattle.cell_nursery.specs.Layout.{entries_of, waiting_of}
use Rattle.base.specs.Logic.{flat}
use borrow.Author.Tests.{leb-true, leb-false}
use lib.ListN.{length, take}
use mathlib.Core.Path.{refl, sym, ◌∙◌}
use Prim.Native.Nat.{◌≤◌}
use borrow.Author.Rules.{rules}
use native.Mathlib.Omega.{arith}
use Rattle.nursery_drain.proofs.drain_promotable_held.Goals as goal
use Rattle.nursery_drain.proofs.drain_promotable_held.Goals.{After-due_rows-k}

-- the words of the two tables of rows are u64, and the tables hold a state
words : (c : After-due_rows-k) → U64 c.args.ws.now
words c = λ i. search rules

all_held : (c : After-due_rows-k) → let a = c.args in Held a.r a.es.now a.ws.now a.cs.now
all_held c = held c.args.r c.args.es.now c.args.ws.now c.args.cs.now (λ i. search rules) (words c) c.requires

-- the first rows that are due are no more than there are
few : (c : After-due_rows-k) → c.due_rows-k.result ≤ c.args.r.waiting
few c = let a = c.args in due-within a.r.delay a.round a.r a.ws.now (all_held c).waiting c.due_rows-k.result c.due_rows-k.ensures

pub due_rows-k-requires : goal.due_rows-k-requires
due_rows-k-requires c = let a = c.args in (held a.r a.es.now a.ws.now a.cs.now (λ i. search rules) (λ i. search rules) c.requires).waiting

pub rows_fit-requires : goal.rows_fit-requires
rows_fit-requires c = let h = all_held c in (h.entries, h.cells, few c, h.waiting.laid.fits)

pub returns-then-not-rows_fit : goal.returns-then-not-rows_fit
returns-then-not-rows_fit c =
    let a = c.args in
    let h = all_held (goal.at.returns-then-not-rows_fit c).After-due_rows-k in
    drain-full a.round a.r a.es.now a.ws.now a.cs.now h.entries h.waiting h.cells c.due_rows-k.result c.due_rows-k.ensures a.out.now c.requires (leb-false _ (length a.out.now) (sym c.rows_fit.ensures ∙ c.if-not-rows_fit.true))

pub write_rows-len-requires : goal.write_rows-len-requires
write_rows-len-requires c =
    let d = (goal.at.write_rows-len-requires c).After-due_rows-k in
    let h = all_held d in
    record {
      entries_held = (h.entries, h.cells, few d, h.waiting.laid.fits);
      ws_in_bounds = leb-true _ (length c.args.out.now) (sym c.rows_fit.ensures ∙ c.if-not-rows_fit.false);
    }

pub overflow_mul-r : goal.overflow_mul-r
overflow_mul-r c = omega (arith, (all_held (goal.at.overflow_mul-r c).After-due_rows-k).waiting.laid.fits)

pub overflow_mul-k : goal.overflow_mul-k
overflow_mul-k c = let d = (goal.at.overflow_mul-k c).After-due_rows-k in omega (arith, (all_held d).waiting.laid.fits, few d)

pub remove_row-requires : goal.remove_row-requires
remove_row-requires c =
    let d = (goal.at.remove_row-requires c).After-due_rows-k in
    let g = few d in
    let h = (all_held d).waiting.laid.fits in
    (omega arith, omega arith)

pub returns : goal.returns
returns c =
    let d = (goal.at.returns c).After-due_rows-k in
    let a = c.args in
    let h = all_held d in
    rw (c.write_rows-len.ensures.1, c.remove_row.ensures, c.write_rows-len.ensures.0)
    (drain-done a.round a.r a.es.now a.ws.now a.cs.now h.entries h.waiting h.cells c.due_rows-k.result c.due_rows-k.ensures a.out.now c.requires (words d) (flat (handed_out (entries_of a.r.entries a.es.now a.cs.now)) (take c.due_rows-k.result (waiting_of a.r.waiting a.ws.now))) refl (leb-true _ (length a.out.now) (sym c.rows_fit.ensures ∙ c.if-not-rows_fit.false)))
