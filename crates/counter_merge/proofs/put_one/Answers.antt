use mathlib.Core.Path.{sym, ◌∙◌}
use lib.Seq.{length-take-le}
use Rattle.counter_merge.specs.AsideLaws.{put-found, put-aside, put_other, aside-is, back-room}
use Rattle.counter_merge.proofs.put_one.Goals as goal

pub slice_bounds-replace-end-then-is_due : goal.slice_bounds-replace-end-then-is_due
slice_bounds-replace-end-then-is_due c = sym (length-take-le c.args.at c.args.t.now c.requires.halves.within)

pub returns-then-replace : goal.returns-then-replace
returns-then-replace c =
    let a = c.args in
    let l = sym c.is_due.ensures ∙ c.if-is_due.true in
    put-found a.n a.at a.s a.t.now c.requires.halves a.x l (sym c.if-replace.true ∙ c.replace.ensures.0) _ c.replace.ensures.1

pub set_count-requires : goal.set_count-requires
set_count-requires c =
    let a = c.args in
    let x = a.x in
    let l = sym c.is_due.ensures ∙ c.if-is_due.true in
    let e = aside-is a.n a.at a.s a.t.now c.requires.halves x l (sym c.if-replace.false ∙ c.replace.ensures.0) in
    record { in_order = (back-room a.n a.at a.s a.t.now c.requires.halves a.x.idx.0 a.x.new_raw _ c.replace.ensures.1 (rw e at c.requires.t_in_bounds)).0; t_in_bounds = (back-room a.n a.at a.s a.t.now c.requires.halves a.x.idx.0 a.x.new_raw _ c.replace.ensures.1 (rw e at c.requires.t_in_bounds)).1 }

pub returns-then-is_due : goal.returns-then-is_due
returns-then-is_due c =
    let a = c.args in
    let l = sym c.is_due.ensures ∙ c.if-is_due.true in
    put-aside a.n a.at a.s a.t.now c.requires.halves a.x l (sym c.if-replace.false ∙ c.replace.ensures.0) _ c.replace.ensures.1 c.set_count.result _ c.set_count.ensures.0 c.set_count.ensures.1

pub returns : goal.returns
returns c =
    let a = c.args in
    put_other a.n a.at a.s a.t.now c.requires.halves a.x (sym c.is_due.ensures ∙ c.if-is_due.false)
