use Rattle.snapshot_worst.specs.WorstLaws.{next-none, next-some, record-worst}
use native.Mathlib.Omega.{arith}
use Rattle.snapshot_worst.proofs.worst_record.Goals as goal

pub returns-then-n-gt0 : goal.returns-then-n-gt0
returns-then-n-gt0 c = record-worst c.args.n _ (next-some c.args.n (omega arith))

pub returns-else-n-gt0 : goal.returns-else-n-gt0
returns-else-n-gt0 c = record-worst c.args.n _ (next-none c.args.n (omega arith))
