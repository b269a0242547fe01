use Rattle.std.specs.Prelude.{◌≡◌, ℕ, ◌-◌, ◌*◌, length}
use mathlib.Core.Path.{sym, ◌∙◌}
use native.Mathlib.Omega.{arith}
use Rattle.base.specs.Logic.{flat, zeros}
use Rattle.rows.specs.Table as rows
use Rattle.counters.specs.Counts.{fresh, fresh_maintenance}
use Rattle.counters.specs.Layout.{record_of, table_of}
use Rattle.counters.specs.Calls.{laid}
use Rattle.counters.proofs.CallLaws.{new-bad, new-taken}
use Rattle.counter_table.proofs.new.Goals as goal

-- a table of zeros is that of fresh counters
zeros-fresh : (n base next : ℕ) → zeros n ≡ table_of n (fresh base next)
unfolding table_of rows.table_of flat fresh
zeros-fresh n base next = let e : n - 0 * 2 ≡ n = omega arith in rw e

pub returns-then-not-in_range : goal.returns-then-not-in_range
returns-then-not-in_range c =
    let a = c.args in
    new-bad a.settings a.next_idx a.t.now (sym c.in_range.ensures ∙ c.if-not-in_range.true)

pub returns : goal.returns
unfolding laid record_of fresh fresh_maintenance
returns c =
    let a = c.args in
    rw (c.fill.ensures.after (λ y e. e), zeros-fresh (length a.t.now) a.settings.base a.next_idx.0)
    (sym (new-taken a.settings a.next_idx a.t.now (sym c.in_range.ensures ∙ c.if-not-in_range.false)))
