use mathlib.Core.Path.{sym, ◌∙◌}
use Rattle.rows.specs.Keys.{keys, first_word}
use Rattle.counter_merge.specs.AsideLaws.{new-not, new-there, new-here}
use Rattle.counter_merge.proofs.is_new.Goals as goal
use Rattle.counter_merge.proofs.is_new.Goals.{else-is_due-via-then-is_due+else-not-has_row, else-is_due-via-else-is_due}

pub returns-then-not-has_row : goal.returns-then-not-has_row
returns-then-not-has_row c =
    let a = c.args in
    new-here (keys first_word 2 a.n a.t.now) a.x (sym c.is_due.ensures ∙ c.if-is_due.true) (sym c.if-not-has_row.true ∙ c.has_row.ensures)

pub returns-else-is_due : goal.returns-else-is_due
returns-else-is_due c =
    let a = c.args in
    let ks = keys first_word 2 a.n a.t.now in
    let x = a.x in
    elim c.else-is_due.branch [
      | else-is_due-via-then-is_due+else-not-has_row w ↦ new-there ks x (sym c.is_due.ensures ∙ w.if-is_due.true) (sym w.if-not-has_row.false ∙ w.has_row.ensures)
      | else-is_due-via-else-is_due w ↦ new-not ks x (sym c.is_due.ensures ∙ w.if-is_due.false)
    ]
