-- `journal_read::apply_record`. The decoded record's items, lent to the delta's call, are its delta.
-- Assumes nothing.
use mathlib.Core.Bool.{false}
use mathlib.Core.Path.{refl, ap, ◌∙◌}
use mathlib.Core.List.{List}
use Prim.Native.Nat.{ℕ, ◌+◌}
use native.Mathlib.Omega.{arith}
use Rattle.std.specs.Prelude.{Ok, Err}
use Rattle.std.proofs.lemmas.Result.{err_from_is_err_and}
use Rattle.slices.specs.Laws.{part-lent}
use Rattle.cell_nursery.specs.Calls.{Changed, delta_call}
use Rattle.format.specs.Returned.{as_decoded}
use Rattle.journal_read.specs.Reading.{Stepped, beside, told}
use Rattle.journal_read.specs.RecordLaws.{record-refused, record-taken}
use Rattle.journal_read.proofs.apply_record.Goals as goal

pub returns-in_err-d : goal.returns-in_err-d
returns-in_err-d c =
    let a = c.args in
    let p = err_from_is_err_and c.from_residual.result c.from_residual.ensures.1 in
    rw (p.1, p.2)
    (ap (λ (z : Stepped). told z) (record-refused a.r a.es.now a.ws.now a.cs.now a.s.now (as_decoded (Err c.in_err-d.field-0.0)) c.in_err-d.ensures c.in_err-d.field-0.0 refl))

pub overflow_add-len : goal.overflow_add-len
overflow_add-len c =
    let a = c.args in
    let w = record-taken a.r a.es.now a.ws.now a.cs.now a.s.now (as_decoded (Ok c.in_ok-d.d)) c.in_ok-d.ensures refl in
    let g = c.well_formed in
    omega (arith, w.inside)

pub slice_bounds-items-end : goal.slice_bounds-items-end
slice_bounds-items-end c =
    let a = c.args in
    let w = record-taken a.r a.es.now a.ws.now a.cs.now a.s.now (as_decoded (Ok c.in_ok-d.d)) c.in_ok-d.ensures refl in
    w.inside

pub returns-in_err-nursery : goal.returns-in_err-nursery
returns-in_err-nursery c =
    let a = c.args in
    let d = c.in_ok-d.d in
    let n = d.items_len in
    let w = record-taken a.r a.es.now a.ws.now a.cs.now a.s.now (as_decoded (Ok d)) c.in_ok-d.ensures refl in
    let p = err_from_is_err_and c.from_residual-in_err-nursery.result c.from_residual-in_err-nursery.ensures.1 in
    rw (p.1, p.2)
    (ap (λ (x : Changed). told (beside (56 + n) x))
    (c.in_err-nursery.ensures
    ∙ ap (λ (l : List ℕ). delta_call a.r a.es.now a.ws.now a.cs.now false d.stats.insert_ops d.stats.remove_ops l) (part-lent a.s.now 56 (56 + n) n refl))
    ∙ ap (λ (z : Stepped). told z) (w.call c.requires))

pub returns : goal.returns
returns c =
    let a = c.args in
    let d = c.in_ok-d.d in
    let n = d.items_len in
    let w = record-taken a.r a.es.now a.ws.now a.cs.now a.s.now (as_decoded (Ok d)) c.in_ok-d.ensures refl in
    ap (λ (x : Changed). told (beside (56 + n) x))
    (c.in_ok-nursery.ensures
    ∙ ap (λ (l : List ℕ). delta_call a.r a.es.now a.ws.now a.cs.now false d.stats.insert_ops d.stats.remove_ops l) (part-lent a.s.now 56 (56 + n) n refl))
    ∙ ap (λ (z : Stepped). told z) (w.call c.requires)
