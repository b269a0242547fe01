use mathlib.Core.Path.{refl, sym, ◌∙◌}
use native.Mathlib.Omega.{arith}
use Rattle.rows.proofs.WideLaws.{Words}
use Rattle.cell_nursery.specs.Calls.{length_width}
use Rattle.delta_items.specs.Walk.{inserts_len}
use Rattle.delta_items.specs.WalkLaws.{left-inside, left-next}
use Rattle.delta_checks.specs.ChecksLaws.{told-yes, told-no, told-done}
use Rattle.delta_checks.proofs.any_from.Goals as goal

pub loop-init : goal.loop-init
loop-init g c = record { left = c.requires.left; same = λ h tells. refl }

pub wide_of-requires : goal.wide_of-requires
wide_of-requires g c = omega (arith, left-inside c.loop.invariant.left (omega arith))

pub returns-then-told : goal.returns-then-told
returns-then-told g c h tells =
    let a = c.args in
    let l = c.loop in
    let words : Words c.wide_of.result = record { first = omega arith; second = omega arith; third = omega arith; fourth = omega arith } in
    told-yes (length_width a.wide) a.inserts l.counter l.at a.items.now (omega arith) h c.wide_of.result c.told.result c.wide_of.ensures (tells _ words _ c.told.ensures) c.if-told.true ∙ l.invariant.same h tells

pub insert_end-at-requires : goal.insert_end-at-requires
insert_end-at-requires g c = omega (arith, left-inside c.loop.invariant.left (omega arith))

pub loop-preserved : goal.loop-preserved
loop-preserved g c =
    let a = c.args in
    let l = c.loop in
    let w = length_width a.wide in
    let words : Words c.wide_of.result = record { first = omega arith; second = omega arith; third = omega arith; fourth = omega arith } in
    rw c.insert_end-at.ensures (
    record {
      left = left-next w a.inserts l.counter l.at (inserts_len w a.inserts a.items.now) a.items.now (omega arith) l.invariant.left;
      same = λ h tells.
          told-no w a.inserts l.counter l.at a.items.now (omega arith) h c.wide_of.result c.told.result c.wide_of.ensures (tells _ words _ c.told.ensures) c.if-told.false ∙ l.invariant.same h tells;
    })

pub returns : goal.returns
returns g c h tells =
    let a = c.args in
    let l = c.loop in
    sym (told-done (length_width a.wide) a.inserts l.counter l.at a.items.now (omega arith) h) ∙ l.invariant.same h tells
