-- The codings of an entry and of a waiting row are lawful.
-- Assumes nothing.
use Rattle.std.specs.Prelude.{refl}
use Rattle.base.specs.Logic.{from}
use Rattle.rows.proofs.TableLaws.{Lawful, first-words}
use Rattle.cell_nursery.specs.Layout.{entry_row, waiting_row}

pub entry-lawful : Lawful entry_row
unfolding from
entry-lawful = record { wide = λ r. refl; back = λ r z. refl; forth = first-words 8 }

pub waiting-lawful : Lawful waiting_row
unfolding from
waiting-lawful = record { wide = λ r. refl; back = λ r z. refl; forth = first-words 5 }
