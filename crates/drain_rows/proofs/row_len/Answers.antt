-- `drain_rows::row_len` meets its contract.
-- Assumes nothing.
use Rattle.cell_nursery.proofs.PrefixLaws.{handed-length, handed-none}
use Rattle.cell_nursery.proofs.OutputLaws.{row_fits}
use Rattle.cell_nursery.specs.Rows.{promoted_row, waiter_at_row}
use Rattle.nursery_lookup.specs.RowLaws.{row-found, none-found}
use lib.ListN.{length}
use mathlib.Core.Path.{refl, sym, ap}
use native.Mathlib.Omega.{arith}
use Rattle.drain_rows.proofs.row_len.Goals as goal

pub overflow_add-result-in-Some : goal.overflow_add-result-in-Some
overflow_add-result-in-Some c =
    let a = c.args in
    let f = row-found a.r.entries _ c.in-Some.k c.in-Some.ensures.row in
    omega (arith, (row_fits a.r a.es.now a.cs.now c.requires.0 c.requires.1 c.in-Some.k f.0).len)

pub returns-in-Some : goal.returns-in-Some
returns-in-Some c =
    let a = c.args in
    let f = row-found a.r.entries _ c.in-Some.k c.in-Some.ensures.row in
    handed-length a.r a.es.now a.cs.now c.requires.0 c.requires.1 (waiter_at_row a.ws.now a.i) c.in-Some.k f.1 f.0

pub returns-in-None : goal.returns-in-None
returns-in-None c =
    let a = c.args in
    let w = waiter_at_row a.ws.now a.i in
    sym (ap length (handed-none a.r a.es.now a.cs.now c.requires.0 c.requires.1 w (promoted_row a.r a.es.now w) refl (none-found a.r.entries _ c.in-None.ensures.row)))
