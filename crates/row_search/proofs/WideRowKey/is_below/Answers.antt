-- `row_search`, keys of four words: the derived order is that of the keys.
use Rattle.std.proofs.Common.{◌∙◌, arith}
use Rattle.rows.proofs.WideLaws.{less}
use Rattle.row_search.proofs.WideRowKey.is_below.Goals as goal

pub returns : goal.returns
returns c =
    c.lt.ensures
    ∙ less c.args.self c.args.other
    (record { first = omega arith; second = omega arith; third = omega arith; fourth = omega arith })
    (record { first = omega arith; second = omega arith; third = omega arith; fourth = omega arith })
