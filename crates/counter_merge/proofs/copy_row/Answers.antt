use native.Mathlib.Omega.{arith}
use lib.ListN.{length-set}
use Rattle.counter_merge.specs.WordLaws.{row_written}
use Rattle.counter_merge.proofs.copy_row.Goals as goal

pub bounds-t-to-2 : goal.bounds-t-to-2
bounds-t-to-2 c = rw length-set (omega arith)

pub returns : goal.returns
returns c = row_written c.args.t.now c.args.to _ _ (omega arith)
