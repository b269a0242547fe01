-- `waiting_checks::marked` meets its contract.
-- Assumes nothing.
use borrow.Author.Rules.{rules}
use Rattle.waiting_checks.specs.Marks.{is_marked}
use Rattle.waiting_checks.proofs.marked.Goals as goal

pub returns : goal.returns
unfolding is_marked
returns c = search rules
