-- `call_lists::lines::spelled`.
-- Assumes nothing.
use Rattle.std.proofs.Common.{◌/◌, length, arith, rules, le-leb}
use borrow.Author.Tests.{lt-leb}
use Rattle.call_lists.proofs.lines.spelled.Goals as goal

pub returns-then-n-le66000 : goal.returns-then-n-le66000
returns-then-n-le66000 c = (search rules, rw (le-leb (length c.args.text.now / 2) 66000 (omega arith)))

pub returns-else-n-le66000 : goal.returns-else-n-le66000
returns-else-n-le66000 c = (search rules, rw (lt-leb (length c.args.text.now / 2) 66000 (omega arith)))
