use Rattle.snapshot_lanes.specs.EndLaws.{end_short, end-torn, end-bad, end-next, end-done, part_same}
use mathlib.Core.Path.{◌≡◌, refl, sym, ◌∙◌}
use Prim.Native.Nat.{◌+◌, ◌-◌}
use native.Mathlib.Omega.{arith}
use Rattle.snapshot_lanes.proofs.sets.sets_end.Goals as goal

pub loop-init : goal.loop-init
loop-init c = (c.requires, refl)

pub returns-then-s-p-lt8 : goal.returns-then-s-p-lt8
returns-then-s-p-lt8 c = let a = c.args in let l = c.loop in end_short a.s.now l.p (8 - l.counter) (omega arith) (omega arith) ∙ l.invariant.1

pub returns-then-s-p : goal.returns-then-s-p
returns-then-s-p c = let a = c.args in let l = c.loop in let r = c.read_le64-size in end-torn a.s.now l.p (8 - l.counter) (omega arith) r.result r.ensures (omega arith) (omega arith) ∙ l.invariant.1

pub returns-then-not-is_bitmap64 : goal.returns-then-not-is_bitmap64
returns-then-not-is_bitmap64 c =
    let a = c.args in
    let l = c.loop in
    let r = c.read_le64-size in
    let i = c.is_bitmap64 in
    end-bad a.s.now l.p (8 - l.counter) (omega arith) r.result r.ensures (omega arith) (omega arith)
    (rw (← part_same a.s.now l.p r.result) (sym i.ensures ∙ c.if-not-is_bitmap64.true))
    ∙ l.invariant.1

pub loop-preserved : goal.loop-preserved
loop-preserved c =
    let a = c.args in
    let l = c.loop in
    let r = c.read_le64-size in
    let i = c.is_bitmap64 in
    let z : 8 - l.counter - 1 ≡ 8 - (l.counter + 1) = omega arith in (
      omega arith,
      rw (← z)
          (sym (end-next a.s.now l.p (8 - l.counter) (omega arith) r.result r.ensures (omega arith) (omega arith)
          (rw (← part_same a.s.now l.p r.result) (sym i.ensures ∙ c.if-not-is_bitmap64.false)))
          ∙ l.invariant.1),
    )

pub returns : goal.returns
returns c = let a = c.args in let l = c.loop in end-done a.s.now l.p (8 - l.counter) (omega arith) ∙ l.invariant.1
