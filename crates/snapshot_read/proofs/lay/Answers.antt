use Rattle.snapshot_tiers.specs.TierLaws.{from_idx}
use Rattle.snapshot_tiers.specs.Heads.{tier_of, set_all}
use Rattle.snapshot_judge.specs.Judge.{big_of}
use Rattle.snapshot_judge.specs.JudgeLaws.{front_at, rest-above, start-above, from_zero}
use Rattle.snapshot_judge.specs.Decide.{counts_of}
use Rattle.snapshot_read.specs.LayLaws.{lay-start, lay-turn, lay-end, rest-left, found_left, row-left, row_below}
use mathlib.Core.Path.{◌≡◌, refl, sym, subst, ◌∙◌}
use Prim.Native.Nat.{◌+◌, ◌*◌, ◌<◌}
use native.Mathlib.Omega.{arith}
use lib.ListN.{length, drop, set, length-set}
use Rattle.snapshot_read.proofs.lay.Goals as goal

pub sorted-ascending-requires : goal.sorted-ascending-requires
sorted-ascending-requires c = c.requires.1.readable.inside

pub open_all-lanes-requires : goal.open_all-lanes-requires
open_all-lanes-requires c = c.requires.1.readable.sets

pub large_head-b-requires : goal.large_head-b-requires
large_head-b-requires c = (c.requires.1.readable.inside, c.sorted-ascending.ensures)

pub loop-k-init : goal.loop-k-init
loop-k-init c =
    let a = c.args in
    let o = c.open_all-lanes.ensures in (
      refl,
      o.opened,
      start-above a.s.now 17 c.open_all-lanes.result o,
      lay-start 0 a.t.now (counts_of a.s.now a.p.end a.p.large) c.requires.0,
      rw (from_zero (big_of a.s.now a.p.end a.p.large), o.lists),
      c.large_head-b.ensures,
    )

pub unwrap-f-requires : goal.unwrap-f-requires
unwrap-f-requires c =
    let a = c.args in
    let l = c.loop-k in
    let q = c.requires.1 in
    let both = counts_of a.s.now a.p.end a.p.large in
    let h : l.k < length both = omega (arith, q.rows) in
    let p = front_at _ _ _ _ _ _ _ q.readable.high l.invariant.2 c.small_head.ensures l.invariant.5 c.first.ensures in
    found_left _ _ _ both _ _ _ p l.k h l.invariant.4

pub overflow_mul-t : goal.overflow_mul-t
overflow_mul-t c = omega (arith, c.requires.1.fits, c.loop-k.invariant.0)

pub offset_bounds-t-k : goal.offset_bounds-t-k
offset_bounds-t-k c = omega (arith, c.requires.1.fits, c.loop-k.invariant.0)

pub bounds-t-k : goal.bounds-t-k
bounds-t-k c = omega (arith, c.requires.1.fits, c.loop-k.invariant.0)

pub overflow_mul-t-in-loop-k : goal.overflow_mul-t-in-loop-k
overflow_mul-t-in-loop-k c = omega (arith, c.requires.1.fits, c.loop-k.invariant.0)

pub overflow_add-t : goal.overflow_add-t
overflow_add-t c = omega (arith, c.requires.1.fits, c.loop-k.invariant.0)

pub offset_bounds-t-k-in-loop-k : goal.offset_bounds-t-k-in-loop-k
offset_bounds-t-k-in-loop-k c = omega (arith, c.requires.1.fits, c.loop-k.invariant.0)

pub bounds-t-k-in-loop-k : goal.bounds-t-k-in-loop-k
bounds-t-k-in-loop-k c = let l = c.loop-k in rw (length-set l.t (l.k * 2) c.unwrap-f.result.idx) (omega (arith, c.requires.1.fits, c.loop-k.invariant.0))

pub advance-moved-requires : goal.advance-moved-requires
advance-moved-requires c = c.loop-k.invariant.1

pub overflow_add-lo : goal.overflow_add-lo
overflow_add-lo c =
    let a = c.args in
    let l = c.loop-k in
    let q = c.requires.1 in
    let both = counts_of a.s.now a.p.end a.p.large in
    let h : l.k < length both = omega (arith, q.rows) in
    let p = front_at _ _ _ _ _ _ _ q.readable.high l.invariant.2 c.small_head.ensures l.invariant.5 (sym c.unwrap-f.ensures ∙ c.first.ensures) in
    omega (arith, c.well_formed, row_below _ _ _ both _ _ _ p l.k h l.invariant.4 a.p.next q.below)

pub large_after-b-requires : goal.large_after-b-requires
large_after-b-requires c =
    let l = c.loop-k in
    let q = c.requires.1 in
    let p = front_at _ _ _ _ _ _ _ q.readable.high l.invariant.2 c.small_head.ensures l.invariant.5 (sym c.unwrap-f.ensures ∙ c.first.ensures) in
    record { n_in_bounds = (q.readable.inside, c.sorted-ascending.ensures); head_to = record { from = l.lo; below = omega (arith, p.from refl); is = l.invariant.5 } }

pub loop-k-preserved : goal.loop-k-preserved
loop-k-preserved c =
    let a = c.args in
    let l = c.loop-k in
    let q = c.requires.1 in
    let both = counts_of a.s.now a.p.end a.p.large in
    let h : l.k < length both = omega (arith, q.rows) in
    let p = front_at _ _ _ _ _ _ _ q.readable.high l.invariant.2 c.small_head.ensures l.invariant.5 (sym c.unwrap-f.ensures ∙ c.first.ensures) in
    let f = c.unwrap-f.result in
    let m = c.advance-moved in
    let r = row-left _ _ _ both _ _ _ p l.k h l.invariant.4 in (
      length-set (set l.t (l.k * 2) f.idx) (l.k * 2 + 1) f.count ∙ length-set l.t (l.k * 2) f.idx ∙ l.invariant.0,
      m.ensures.opened,
      rest-above a.s.now f.idx l.lanes m.result (p.bound refl) m.ensures,
      lay-turn (length a.t.now) l.k both _ f.idx f.count r l.t (omega (arith, q.fits, q.rows)) l.invariant.3,
      subst (λ yss. drop (l.k + 1) both ≡ set_all (from_idx (f.idx + 1) (big_of a.s.now a.p.end a.p.large)) (tier_of yss)) (sym m.ensures.lists)
          (rest-left (length a.t.now) l.k both _ f.idx f.count r),
      c.large_after-b.ensures,
    )

pub shape_of-t : goal.shape_of-t
shape_of-t c = c.loop-k.invariant.0

pub returns : goal.returns
returns c =
    let a = c.args in
    let l = c.loop-k in
    l.invariant.3 ∙ lay-end (length a.t.now) l.k (counts_of a.s.now a.p.end a.p.large) (omega (arith, c.requires.1.rows))
