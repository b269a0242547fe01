use native.Mathlib.Omega.{arith}
use Rattle.counter_merge.specs.WordLaws.{row_kept, row-left}
use Rattle.counter_merge.proofs.keep_row.Goals as goal

pub returns-then-t-i-ge2 : goal.returns-then-t-i-ge2
returns-then-t-i-ge2 c =
    row_kept c.args.t.now c.args.i c.args.to c.if-t-i-ge2.true _ c.copy_row.ensures

pub returns : goal.returns
returns c =
    row-left c.args.t.now c.args.i c.args.to (omega arith)
