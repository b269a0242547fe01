use mathlib.Core.Path.{sym, ◌∙◌}
use Rattle.rows.specs.Table.{rows_of}
use Rattle.counters.specs.Layout.{count_row}
use Rattle.counters.proofs.CodingLaws.{count-lawful}
use Rattle.rows.proofs.TableLaws.{table-rows_of, length-rows_of}
use Rattle.counter_steps.specs.Steps.{stores}
use Rattle.counter_steps.specs.PassLaws.{one-due, one-other}
use Rattle.counter_steps.proofs.apply_one.Goals as goal

pub set_count-requires : goal.set_count-requires
set_count-requires c =
    let a = c.args in
    let e = one-due (stores a.pass) a.x (rows_of count_row a.n a.t.now) (sym c.is_due.ensures ∙ c.if-is_due.true) in
    record { in_order = c.requires.in_order; t_in_bounds = rw e at c.requires.t_in_bounds }

pub returns-then-is_due : goal.returns-then-is_due
returns-then-is_due c =
    let a = c.args in
    let e = one-due (stores a.pass) a.x (rows_of count_row a.n a.t.now) (sym c.is_due.ensures ∙ c.if-is_due.true) in
    rw e c.set_count.ensures

pub returns : goal.returns
returns c =
    let a = c.args in
    let e = one-other (stores a.pass) a.x (rows_of count_row a.n a.t.now) (sym c.is_due.ensures ∙ c.if-is_due.false) in
    rw e (sym (length-rows_of count_row a.n a.t.now), sym (table-rows_of count-lawful a.n a.t.now c.requires.in_order.laid))
