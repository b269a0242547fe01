use Rattle.rows.specs.Wide.{key_of}
use Rattle.rows.proofs.WideLaws.{alike}
use Rattle.cell_nursery.specs.Layout.{waiting_row}
use Rattle.nursery_rows.specs.Rows.{other, other-read}
use mathlib.Core.Path.{◌≡◌, refl, ap, ◌∙◌}
use mathlib.Core.Bool.{not}
use Prim.Native.Nat.{◌*◌}
use native.Mathlib.Omega.{arith}
use lib.ListN.{drop}
use Rattle.nursery_rows.proofs.waiting.keep_row.Goals as goal
use Rattle.nursery_rows.proofs.waiting.keep_row.Goals.{After-eq}

-- the test on the row
kept : (c : After-eq) → let a = c.args in other (key_of a.hash) (waiting_row.dec (drop (a.i * 5) a.t.now)) ≡ not c.eq.result
kept c =
    let a = c.args in
    let same = alike c.wide_at.result a.hash (record { first = omega arith; second = omega arith; third = omega arith; fourth = omega arith }) (record { first = omega arith; second = omega arith; third = omega arith; fourth = omega arith }) in
    other-read a.t.now (a.i * 5) (key_of a.hash) c.wide_at.result c.eq.result c.wide_at.ensures (c.eq.ensures ∙ same)

pub returns-then-eq : goal.returns-then-eq
returns-then-eq c = rw (kept (goal.at.returns-then-eq c).After-eq ∙ ap not c.if-eq.true) (refl, refl)

pub returns : goal.returns
returns c = rw (kept (goal.at.returns c).After-eq ∙ ap not c.if-eq.false) (refl, c.move_within.ensures)
