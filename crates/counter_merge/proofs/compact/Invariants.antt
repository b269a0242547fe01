use mathlib.Core.Path.{◌≡◌}
use Prim.Native.Nat.{◌*◌, ◌≤◌}
use lib.ListN.{length, take, drop}
use Rattle.base.specs.Logic.{flat}
use Rattle.rows.specs.Table.{rows_of}
use Rattle.counters.specs.Layout.{count_row}
use Rattle.counter_merge.specs.Passes.{standing}
use Rattle.counter_merge.proofs.compact.Given as goal

abbrev pub invariant-loop-i : goal.invariant-loop-i
invariant-loop-i l =
    (l.to ≤ l.i) × (length l.t ≡ length l.initial.t) × (drop (l.i * 2) l.t ≡ drop (l.i * 2) l.initial.t)
    × (take (l.to * 2) l.t ≡ flat count_row.enc (standing (take l.i (rows_of count_row l.n l.initial.t)))) × (l.to ≡ length (standing (take l.i (rows_of count_row l.n l.initial.t))))
