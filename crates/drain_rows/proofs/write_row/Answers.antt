-- `drain_rows::write_row` meets its contract: two pastes side by side, or none.
-- Assumes nothing.
use Rattle.cell_nursery.proofs.PrefixLaws.{handed-length, handed-some, handed-none}
use Rattle.cell_nursery.proofs.OutputLaws.{row_fits, promoted-written}
use Rattle.cell_nursery.specs.Rows.{RowFits, promoted_row, waiter_at_row, handed_out}
use Rattle.cell_nursery.specs.Layout.{waiter_of, entries_of}
use Rattle.nursery_lookup.specs.RowLaws.{row-found, none-found}
use lib.Seq.{paste, paste-zero}
use lib.ListN.{length, get_or}
use mathlib.Core.List.{List, []}
use mathlib.Core.Path.{◌≡◌, refl, sym, ap, ◌∙◌}
use Prim.Native.Nat.{ℕ, ◌+◌, ◌*◌}
use native.Mathlib.Omega.{arith}
use Rattle.drain_rows.proofs.write_row.Goals as goal
use Rattle.drain_rows.proofs.write_row.Goals.{In-Some}

-- the row fits, and how many bytes it hands out
fits : (c : In-Some) → RowFits c.args.es.now c.args.cs.now c.in-Some.k
fits c =
    let a = c.args in
    row_fits a.r a.es.now a.cs.now c.requires.entries_held.0 c.requires.entries_held.1 c.in-Some.k (row-found a.r.entries _ c.in-Some.k c.in-Some.ensures.row).0

bytes : (c : In-Some) → let a = c.args in 42 + get_or a.es.now (c.in-Some.k * 8 + 7) 0 ≡ length (handed_out (entries_of a.r.entries a.es.now a.cs.now) (waiter_of (waiter_at_row a.ws.now a.i)))
bytes c =
    let a = c.args in
    let f = row-found a.r.entries _ c.in-Some.k c.in-Some.ensures.row in
    handed-length a.r a.es.now a.cs.now c.requires.entries_held.0 c.requires.entries_held.1 (waiter_at_row a.ws.now a.i) c.in-Some.k f.1 f.0

pub returns-in_default : goal.returns-in_default
returns-in_default c =
    let a = c.args in
    let w = waiter_at_row a.ws.now a.i in
    let no = handed-none a.r a.es.now a.cs.now c.requires.entries_held.0 c.requires.entries_held.1 w (promoted_row a.r a.es.now w) refl (none-found a.r.entries _ c.in_default.ensures.row) in
    (sym (ap length no), paste-zero a.out.now a.at [] ∙ ap (λ (b : List ℕ). paste a.out.now a.at b 0) (sym no))

pub write_head-requires : goal.write_head-requires
write_head-requires c =
    let d = (goal.at.write_head-requires c).In-Some in
    ((fits d).row, omega (arith, c.requires.i_in_bounds, bytes d))

pub write_tail-requires : goal.write_tail-requires
write_tail-requires c =
    let d = (goal.at.write_tail-requires c).In-Some in
    (fits d, omega (arith, c.requires.i_in_bounds, bytes d))

pub overflow_add-result-2 : goal.overflow_add-result-2
overflow_add-result-2 c = omega (arith, (fits (goal.at.overflow_add-result-2 c).In-Some).len)

pub returns : goal.returns
returns c =
    let a = c.args in
    let d = (goal.at.returns c).In-Some in
    let k = c.in-Some.k in
    let f = row-found a.r.entries _ k c.in-Some.ensures.row in
    let some = handed-some a.r a.es.now a.cs.now c.requires.entries_held.0 c.requires.entries_held.1 (waiter_at_row a.ws.now a.i) k f.1 f.0 in (
      bytes d,
      c.write_tail.ensures
          ∙ promoted-written a.es.now a.cs.now k (fits d) a.out.now c.write_head.new.out a.at (omega (arith, c.requires.i_in_bounds, bytes d)) c.write_head.ensures
          ∙ ap (λ (b : List ℕ). paste a.out.now a.at b (42 + get_or a.es.now (k * 8 + 7) 0)) (sym some),
    )
