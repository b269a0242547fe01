use mathlib.Core.Path.{◌≡◌, sym, ap, ◌∙◌}
use Prim.Native.Nat.{suc}
use native.Mathlib.Omega.{arith}
use native.Mathlib.Numerals.{add-one}
use lib.ListN.{length, drop}
use Rattle.rows.specs.Table.{rows_of}
use Rattle.counters.specs.Layout.{count_row}
use Rattle.counters.proofs.CodingLaws.{count-lawful}
use Rattle.counters.specs.Steps.{transitions}
use Rattle.counters.proofs.StepLaws.{no-transition}
use Rattle.lent_batches.proofs.LentLaws.{met}
use Rattle.rows.proofs.TableLaws.{rows_of-table, length-table, table-rows_of, length-rows_of}
use Rattle.counters.specs.Batch.{counts_after}
use mathlib.Core.List.{◌∷◌}
use mathlib.Core.Path.{refl}
use Rattle.counter_steps.specs.Steps.{stores, pass_of, apply_one}
use Rattle.counters.proofs.ApplyLaws.{in-order-table, in-order-ascends}
use Rattle.counter_steps.specs.PassLaws.{one-ascends, one-fits, turn, pass-none}
use Rattle.counter_steps.proofs.apply_some.Goals as goal

pub loop-i-init : goal.loop-i-init
loop-i-init g c = (refl, c.requires.in_order, refl)

pub apply_one-rows-requires : goal.apply_one-rows-requires
apply_one-rows-requires g c =
    let l = c.loop-i in
    let a = c.args in
    let ws = g.B.Transitions.words a.b in
    let x = c.at.result in
    let r = drop (suc l.i) (transitions ws) in
    let es = rows_of count_row l.rows l.t in
    let e : counts_after (pass_of (stores a.pass) (x ∷ r)) es ≡ counts_after (pass_of (stores a.pass) (transitions ws)) (rows_of count_row a.n a.t.now) =
    ap (λ ts. counts_after (pass_of (stores a.pass) ts) es) (sym (met ws l.i x c.at.ensures (omega arith))) ∙ l.invariant.2 in
    record { in_order = l.invariant.1; t_in_bounds = one-fits (stores a.pass) x r es (in-order-ascends l.rows l.t l.invariant.1) (length l.t) (rw (length-rows_of count_row l.rows l.t) l.invariant.1.laid.fits) (rw (e, l.invariant.0) c.requires.t_in_bounds) }

pub loop-i-preserved : goal.loop-i-preserved
loop-i-preserved g c =
    let l = c.loop-i in
    let a = c.args in
    let ws = g.B.Transitions.words a.b in
    let x = c.at.result in
    let r = drop (suc l.i) (transitions ws) in
    let es = rows_of count_row l.rows l.t in
    let asc = in-order-ascends l.rows l.t l.invariant.1 in
    let one = apply_one (stores a.pass) x es in
    let f = c.apply_one-rows.ensures in
    let e : counts_after (pass_of (stores a.pass) (x ∷ r)) es ≡ counts_after (pass_of (stores a.pass) (transitions ws)) (rows_of count_row a.n a.t.now) =
    ap (λ ts. counts_after (pass_of (stores a.pass) ts) es) (sym (met ws l.i x c.at.ensures (omega arith))) ∙ l.invariant.2 in
    let room = one-fits (stores a.pass) x r es asc (length l.t) (rw (length-rows_of count_row l.rows l.t) l.invariant.1.laid.fits) (rw (e, l.invariant.0) c.requires.t_in_bounds) in (
      ap length f.1 ∙ length-table count-lawful (length l.t) one room ∙ l.invariant.0,
      rw (f.0, f.1) (in-order-table (length l.t) one room (one-ascends (stores a.pass) x r es asc)),
      rw (add-one, f.0, f.1, rows_of-table count-lawful (length l.t) one) (sym (turn (stores a.pass) x r es asc) ∙ e),
    )

pub returns : goal.returns
returns g c =
    let l = c.loop-i in
    let a = c.args in
    let ws = g.B.Transitions.words a.b in
    let e : rows_of count_row l.rows l.t ≡ counts_after (pass_of (stores a.pass) (transitions ws)) (rows_of count_row a.n a.t.now) =
    sym (pass-none (stores a.pass) (rows_of count_row l.rows l.t))
    ∙ ap (λ ts. counts_after (pass_of (stores a.pass) ts) (rows_of count_row l.rows l.t)) (sym (no-transition ws l.i (omega arith) (omega arith))) ∙ l.invariant.2 in
    rw (← e, ← l.invariant.0) (sym (length-rows_of count_row l.rows l.t), sym (table-rows_of count-lawful l.rows l.t l.invariant.1.laid))
