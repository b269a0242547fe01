use Rattle.rows.proofs.TableLaws.{rows-over, rows_fit, rows-test}
use mathlib.Core.Path.{sym, ◌∙◌}
use Prim.Native.Nat.{◌*◌, ◌≤◌}
use native.Mathlib.Omega.{arith}
use lib.ListN.{length}
use Rattle.row_checks.proofs.holds_rows.Goals as goal

-- the rows lie in the table
fits : (c : goal.Else-t-w) → c.args.n * c.args.w ≤ length c.args.t.now
fits c = rows_fit c.args.w c.args.n c.args.t.now c.requires c.if-t-w.false

-- the rows lie in the table
fits-at-After-all_from : (c : goal.After-all_from) → c.args.n * c.args.w ≤ length c.args.t.now
fits-at-After-all_from c = rows_fit c.args.w c.args.n c.args.t.now c.requires c.if-t-w.false

pub returns-then-t-w : goal.returns-then-t-w
returns-then-t-w c = sym (rows-over c.args.w c.args.n c.args.t.now c.requires c.if-t-w.true)

pub overflow_mul-n : goal.overflow_mul-n
overflow_mul-n c = omega (arith, fits c)

pub all_from-requires : goal.all_from-requires
all_from-requires c = fits c

pub returns : goal.returns
returns c = c.all_from.ensures ∙ rows-test c.args.w c.args.n c.args.t.now (fits-at-After-all_from c)
