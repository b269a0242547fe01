-- `call_lists::lines::digit`.
-- Assumes nothing.
use Rattle.std.proofs.Common.{arith}
use Rattle.call_lists.specs.Laws.{digit-number, digit-letter, digit-below, digit-between, digit-above}
use Rattle.call_lists.proofs.lines.digit.Goals as goal

pub returns-in-48-to-57 : goal.returns-in-48-to-57
returns-in-48-to-57 c = (digit-number c.args.b (omega arith) (omega arith), omega arith)

pub returns-in-97-to-102 : goal.returns-in-97-to-102
returns-in-97-to-102 c = (digit-letter c.args.b (omega arith) (omega arith), omega arith)

pub returns-in_default : goal.returns-in_default
returns-in_default c = (digit-below c.args.b (omega arith), tt)

pub returns-in_default-2 : goal.returns-in_default-2
returns-in_default-2 c = (digit-between c.args.b (omega arith) (omega arith), tt)

pub returns-in_default-3 : goal.returns-in_default-3
returns-in_default-3 c = (digit-above c.args.b (omega arith), tt)
