-- The codings of a stored count and of a transition are lawful.
-- Assumes nothing.
use Rattle.std.specs.Prelude.{refl}
use Rattle.base.specs.Logic.{from}
use Rattle.rows.proofs.TableLaws.{Lawful, first-words}
use Rattle.counters.specs.Layout.{count_row, transition_row}

pub count-lawful : Lawful count_row
unfolding from
count-lawful = record { wide = λ e. refl; back = λ e z. refl; forth = first-words 2 }

pub transition-lawful : Lawful transition_row
unfolding from
transition-lawful = record { wide = λ t. refl; back = λ t z. refl; forth = first-words 3 }
