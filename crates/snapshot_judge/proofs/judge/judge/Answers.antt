use mathlib.Core.Path.{subst}
use Rattle.std.proofs.Common.{inl, inr}
use Rattle.snapshot_tiers.specs.TierLaws.{from_idx}
use Rattle.snapshot_tiers.specs.Heads.{tier_of, set_all}
use Rattle.snapshot_lanes.specs.Lanes.{lists_of}
use Rattle.snapshot_judge.specs.Judge.{big_of, small_of, judged_from}
use Rattle.snapshot_judge.specs.JudgeLaws.{front_at, rest-above, start-above, start-judged, judged-end, judged-clash, judged-far, judged-next, fewer}
use mathlib.Core.Path.{◌≡◌, sym, refl, ◌∙◌}
use Prim.Native.Nat.{◌+◌, ◌<◌}
use native.Mathlib.Omega.{arith}
use lib.ListN.{length}
use Rattle.snapshot_judge.proofs.judge.judge.Goals as goal

pub sorted-ascending-requires : goal.sorted-ascending-requires
sorted-ascending-requires c = c.requires.inside

pub open_all-lanes-requires : goal.open_all-lanes-requires
open_all-lanes-requires c = c.requires.sets

pub large_head-b-requires : goal.large_head-b-requires
large_head-b-requires c = (c.requires.inside, c.sorted-ascending.ensures)

pub loop-f-init : goal.loop-f-init
loop-f-init c =
    let a = c.args in
    let r = c.open_all-lanes.result in
    let o = c.open_all-lanes.ensures in
    (o.opened, start-above a.s.now a.at r o, omega arith, start-judged a.s.now a.at a.next (big_of a.s.now a.end a.n) r o, c.large_head-b.ensures)

pub advance-moved-requires : goal.advance-moved-requires
advance-moved-requires c = c.loop-f.invariant.0

pub returns-in_default : goal.returns-in_default
returns-in_default c =
    let l = c.loop-f in
    let p = front_at _ _ _ _ _ _ _ c.requires.high l.invariant.1 c.small_head-a.ensures l.invariant.4 (sym c.in_default.is ∙ c.first.ensures) in
    judged-end l.rows c.args.next _ _ _ _ _ _ p refl ∙ l.invariant.3

pub returns-then-meets : goal.returns-then-meets
returns-then-meets c =
    let l = c.loop-f in
    let p = front_at _ _ _ _ _ _ _ c.requires.high l.invariant.1 c.small_head-a.ensures l.invariant.4 (sym c.in-Some.is ∙ c.first.ensures) in
    elim c.then-meets.either [
      | inl e ↦ judged-clash l.rows c.args.next _ _ _ _ _ _ p refl (sym c.meets.ensures ∙ e) ∙ l.invariant.3
      | inr e ↦ judged-far l.rows c.args.next _ _ _ _ _ _ p refl e.1 ∙ l.invariant.3
    ]

pub overflow_add-rows : goal.overflow_add-rows
overflow_add-rows c =
    let l = c.loop-f in
    let p = front_at _ _ _ _ _ _ _ c.requires.high l.invariant.1 c.small_head-a.ensures l.invariant.4 (sym c.in-Some.is ∙ c.first.ensures) in
    omega (arith, p.from refl, l.invariant.2)

pub large_after-b-requires-clause-head_to : goal.large_after-b-requires-clause-head_to
large_after-b-requires-clause-head_to c =
    let l = c.loop-f in
    let p = front_at _ _ _ _ _ _ _ c.requires.high l.invariant.1 c.small_head-a.ensures l.invariant.4 (sym c.in-Some.is ∙ c.first.ensures) in
    record { from = l.lo; below = omega (arith, p.from refl); is = l.invariant.4 }

pub loop-f-smaller : goal.loop-f-smaller
loop-f-smaller c =
    let a = c.args in
    let l = c.loop-f in
    let big = big_of a.s.now a.end a.n in
    let p = front_at _ _ _ _ _ _ _ c.requires.high l.invariant.1 c.small_head-a.ensures l.invariant.4 (sym c.in-Some.is ∙ c.first.ensures) in
    subst (λ yss. length (set_all (from_idx (c.in-Some.f.idx + 1) big) (tier_of yss)) < length (set_all (from_idx l.lo big) (tier_of (lists_of a.s.now l.lanes)))) (sym c.advance-moved.ensures.lists)
    (fewer l.rows a.next _ _ _ _ _ _ p refl)

pub loop-f-preserved : goal.loop-f-preserved
loop-f-preserved c =
    let a = c.args in
    let l = c.loop-f in
    let m = c.advance-moved in
    let big = big_of a.s.now a.end a.n in
    let p = front_at _ _ _ _ _ _ _ c.requires.high l.invariant.1 c.small_head-a.ensures l.invariant.4 (sym c.in-Some.is ∙ c.first.ensures) in (
      m.ensures.opened,
      rest-above a.s.now c.in-Some.f.idx l.lanes m.result (p.bound refl) m.ensures,
      omega (arith, p.from refl, l.invariant.2),
      subst (λ yss. judged_from (l.rows + 1) a.next (from_idx (c.in-Some.f.idx + 1) big) (tier_of yss) ≡ judged_from 0 a.next big (small_of a.s.now a.at)) (sym m.ensures.lists)
          (judged-next l.rows a.next _ _ _ _ _ _ p refl (sym c.meets.ensures ∙ c.if-meets.false) c.if-next-f.false ∙ l.invariant.3),
      c.large_after-b.ensures,
    )
