-- `waiting_checks::in_window`. The place reaches the window, and not the next one.
use Rattle.std.proofs.Common.{sym, ap, ◌∙◌}
use mathlib.Core.Bool.{not}
use Rattle.waiting_checks.specs.Marks.{within}
use Rattle.waiting_checks.proofs.in_window.Goals as goal

pub returns-then-reaches : goal.returns-then-reaches
unfolding within
returns-then-reaches c = let e = sym c.reaches.ensures ∙ c.if-reaches.true in rw e (ap not c.reaches-then-reaches.ensures)

pub returns-else-reaches : goal.returns-else-reaches
unfolding within
returns-else-reaches c = let e = sym c.reaches.ensures ∙ c.if-reaches.false in rw e c.if-reaches.false
