use Rattle.snapshot_lanes.specs.EndLaws.{first_of}
use Rattle.snapshot_lanes.specs.LaneLaws.{open-same, open-set, open_turn, open_done}
use mathlib.Core.Path.{◌≡◌, refl, ◌∙◌}
use Prim.Native.Nat.{suc, ◌+◌, ◌-◌}
use native.Mathlib.Omega.{arith}
use native.Mathlib.Numerals.{add-one}
use lib.ListN.{drop, length-set}
use Rattle.snapshot_lanes.proofs.lanes.open_all.Goals as goal

pub open_at-first-requires : goal.open_at-first-requires
open_at-first-requires c = (first_of c.args.s.now c.args.at 8 (omega arith) c.requires).here

pub loop-l-init : goal.loop-l-init
loop-l-init c = (refl, open-same c.args.s.now 8 c.open_at-first.result c.open_at-first.ensures.0.opened, refl, c.requires)

pub loop-l-preserved : goal.loop-l-preserved
loop-l-preserved c =
    let a = c.args in
    let l = c.loop-l in
    let m = c.open_at in
    let f = first_of a.s.now l.p (8 - l.l-index) (omega arith) l.invariant.3 in
    let z : 8 - l.l-index - 1 ≡ 8 - (l.l-index + 1) = omega arith in
    let y : 8 - l.l-index - 1 ≡ 8 - suc l.l-index = omega arith in (
      length-set l.l-items l.l-index m.result ∙ l.invariant.0,
      open-set a.s.now l.l-items l.l-index m.result l.invariant.1 m.ensures.0.opened,
      rw (add-one l.l-index)
          (open_turn a.s.now l.l-items l.l-index m.result (8 - l.l-index) (8 - suc l.l-index) l.p m.result.end _ _ (omega arith) m.ensures.0.list (rw (m.ensures.1, ← y) f.sets) l.invariant.2),
      rw (m.ensures.1, ← z) f.more,
    )

pub open_at-requires : goal.open_at-requires
open_at-requires c = let a = c.args in let l = c.loop-l in (first_of a.s.now l.p (8 - l.l-index) (omega arith) l.invariant.3).here

pub returns : goal.returns
returns c =
    let a = c.args in
    let l = c.loop-l in
    record { lists = open_done a.s.now l.l-items l.l-index (8 - l.l-index) (drop l.p a.s.now) _ (omega arith) (omega arith) l.invariant.2; opened = l.invariant.1 }
