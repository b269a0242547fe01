-- `row_checks::ascend`. The invariant: the keys ascend exactly where those from row i - 1 on do.
-- Assumes nothing.
use Rattle.std.proofs.Common.{◌≡◌, ◌-◌, drop, get_or}
use Rattle.base.specs.Logic.{ascending_from}
use Rattle.rows.specs.Keys.{keys}
use Rattle.row_checks.proofs.ascend.Given as goal

abbrev pub invariant-loop-i : goal.invariant-loop-i
invariant-loop-i g l =
    ascending_from 0 (keys g.K.RowKey.spelt l.w l.n l.t)
    ≡ ascending_from (get_or (keys g.K.RowKey.spelt l.w l.n l.t) (l.i - 1) 0) (drop (l.i - 1) (keys g.K.RowKey.spelt l.w l.n l.t))
