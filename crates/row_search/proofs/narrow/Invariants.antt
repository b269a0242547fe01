-- `row_search::narrow`. The invariant: the place lies from lo to hi.
-- Assumes nothing.
use Rattle.std.proofs.Common.{◌-◌, ◌≤◌}
use Rattle.rows.specs.Keys.{keys, place}
use Rattle.row_search.proofs.narrow.Given as goal

abbrev pub invariant-loop-hi : goal.invariant-loop-hi
invariant-loop-hi g l =
    (l.lo ≤ place (g.K.RowKey.number l.key) (keys g.K.RowKey.spelt l.w l.n l.t))
    × (place (g.K.RowKey.number l.key) (keys g.K.RowKey.spelt l.w l.n l.t) ≤ l.hi)
    × (l.hi ≤ l.n)

abbrev pub decreases-loop-hi : goal.decreases-loop-hi
decreases-loop-hi g l = l.hi - l.lo
