-- `nursery_checks::holds_cells` meets its contract.
-- Assumes nothing.
use Rattle.cell_nursery.proofs.CheckLaws.{cells-past, cells-by-zeros}
use borrow.Author.Tests.{lt-leb}
use lib.ListN.{length}
use mathlib.Core.Path.{◌∙◌}
use Rattle.nursery_checks.proofs.holds_cells.Goals as goal

pub returns-then-r-cs : goal.returns-then-r-cs
returns-then-r-cs c = let a = c.args in c.all_from.ensures ∙ cells-by-zeros a.r a.cs.now c.if-r-cs.true

pub returns-else-r-cs : goal.returns-else-r-cs
returns-else-r-cs c = let a = c.args in lt-leb a.r.cell_bytes (length a.cs.now) c.if-r-cs.false ∙ cells-past a.r a.cs.now c.if-r-cs.false
