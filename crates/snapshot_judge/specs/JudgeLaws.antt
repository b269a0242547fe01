-- A step of going through both tiers, and what it says of what is judged.
-- Assumes nothing.
use Rattle.std.specs.Prelude.{◌≡◌, refl, true, false, List, [], ◌∷◌, drop, eqb, Option, Some, None}
use Rattle.std.specs.Option.{is_some}
use Rattle.std.proofs.Common.{sym, ap}
use Rattle.std.proofs.Math.Bool.{or-true}
use Prim.Native.Nat.{ℕ, suc, ◌+◌, ◌≤◌, ◌<◌}
use native.Mathlib.Omega.{arith}
use Rattle.std.proofs.Math.Numerals.{add-one}
use Rattle.std.proofs.Math.ListN.{length}
use borrow.Author.Tests.{le-leb, lt-leb, le-ltb, lt-ltb}
use Rattle.base.specs.Logic.{all, any, keep, fold, ascending_from}
use Rattle.counters.specs.Counts.{Entry}
use Rattle.snapshot_tiers.specs.declared.Head.{Head}
use Rattle.snapshot_lanes.specs.declared.lanes.Lane.{Lane}
use Rattle.snapshot_tiers.specs.PayloadLaws.{sets-ascend}
use Rattle.snapshot_tiers.specs.TierLaws.{from_idx, all_past}
use Rattle.snapshot_tiers.specs.Heads.{low, tier_of, no_head, idx_of, set_all, lower_from, clashes, first_of, meet}
use Rattle.snapshot_tiers.specs.JoinLaws.{Small, Large, Front, rest_of, front-of}
use Rattle.snapshot_tiers.specs.LargeLaws.{scanned}
use Rattle.snapshot_lanes.specs.Lanes.{lists_of, small_head, Opened, Advanced}
use Rattle.snapshot_lanes.specs.LaneLaws.{small-of}
use Rattle.snapshot_judge.specs.Judge.{small_of, judged_from}

-- ---- a step
module _ (s : List ℕ) (lo : ℕ) (raw : List Entry) (ls : List Lane) (a b f : Option Head) where
  pub front_at : any low raw ≡ false → all (ascending_from lo) (lists_of s ls) ≡ true → a ≡ small_head ls → b ≡ fold (lower_from lo) raw no_head → f ≡ first_of a b
      → Front lo (lists_of s ls) (set_all raw []) a b f
  front_at h asc p q r =
      let sm : Small lo (lists_of s ls) a = rw p (small-of s lo ls asc) in
      let lg : Large lo (set_all raw []) b = rw q (scanned lo raw h) in
      rw r (front-of lo (lists_of s ls) (set_all raw []) a b sm lg)

pub rest-above : (s : List ℕ) (x : ℕ) (ls moved : List Lane) → all (ascending_from x) (lists_of s ls) ≡ true → Advanced s x ls moved
    → all (ascending_from (x + 1)) (lists_of s moved) ≡ true
rest-above s x ls moved h m = rw (m.lists, add-one x) (all_past x (lists_of s ls) h)

-- ---- a new snapshot: all that there is
pub from_zero : (es : List Entry) → from_idx 0 es ≡ es
unfolding keep
from_zero [] = refl
from_zero (e ∷ es) = rw (le-leb 0 e.idx (omega arith)) (ap (λ (r : List Entry). e ∷ r) (from_zero es))

pub start-above : (s : List ℕ) (at : ℕ) (ls : List Lane) → Opened s at ls → all (ascending_from 0) (lists_of s ls) ≡ true
start-above s at ls o = rw o.lists (sets-ascend 8 (drop at s))

pub start-judged : (s : List ℕ) (at next : ℕ) (big : List Entry) (ls : List Lane) → Opened s at ls
    → judged_from 0 next (from_idx 0 big) (tier_of (lists_of s ls)) ≡ judged_from 0 next big (small_of s at)
start-judged s at next big ls o = rw (from_zero big, o.lists)

-- ---- what each way of a step says
module _ (rows next lo : ℕ) (xss : List (List ℕ)) (big : List Entry) (a b f : Option Head) (p : Front lo xss big a b f) where
  pub judged-end : is_some f ≡ false → Some rows ≡ judged_from rows next (from_idx lo big) (tier_of xss)
  unfolding judged_from any
  judged-end e =
      let z : rows + 0 ≡ rows = omega arith in
      rw (p.unclashed e, p.ended e) (ap (λ (n : ℕ). Some n) (sym z))

  module _ (e : is_some f ≡ true) where
    pub judged-clash : meet a b ≡ true → None ≡ judged_from rows next (from_idx lo big) (tier_of xss)
    unfolding judged_from
    judged-clash m = rw (p.clash e, m)

    pub judged-far : next ≤ idx_of f → None ≡ judged_from rows next (from_idx lo big) (tier_of xss)
    unfolding judged_from any
    judged-far h = rw (p.rows e, le-leb next (idx_of f) h, or-true (clashes (from_idx lo big) (tier_of xss)))

    pub judged-next : meet a b ≡ false → idx_of f < next
        → judged_from (rows + 1) next (from_idx (idx_of f + 1) big) (tier_of (rest_of (idx_of f) xss)) ≡ judged_from rows next (from_idx lo big) (tier_of xss)
    unfolding judged_from any
    judged-next m h =
        let n = length (set_all (from_idx (suc (idx_of f)) big) (tier_of (rest_of (idx_of f) xss))) in
        let z : rows + 1 + n ≡ rows + suc n = omega arith in
        rw (p.clash e, m, p.rows e, lt-leb next (idx_of f) h, add-one (idx_of f), z)

    pub fewer : length (set_all (from_idx (idx_of f + 1) big) (tier_of (rest_of (idx_of f) xss))) < length (set_all (from_idx lo big) (tier_of xss))
    fewer = rw (p.rows e, add-one (idx_of f)) (omega arith)

-- ---- the first of two
module _ (a b : Option Head) where
  pub first-large : is_some a ≡ false → b ≡ first_of a b
  first-large e = rw e

  pub first_small : is_some a ≡ true → is_some b ≡ false → a ≡ first_of a b
  first_small e f = rw (e, f)

  pub first-lower : is_some a ≡ true → is_some b ≡ true → idx_of a < idx_of b → a ≡ first_of a b
  first-lower e f h = rw (e, f, lt-ltb (idx_of a) (idx_of b) h)

  pub first-equal : is_some a ≡ true → is_some b ≡ true → idx_of b ≤ idx_of a → b ≡ first_of a b
  first-equal e f h = rw (e, f, le-ltb (idx_of a) (idx_of b) h)

  pub meet-no-small : is_some a ≡ false → false ≡ meet a b
  meet-no-small e = rw e

  pub meet-no-large : is_some a ≡ true → is_some b ≡ false → false ≡ meet a b
  meet-no-large e f = rw (e, f)

  pub meet-both : is_some a ≡ true → is_some b ≡ true → eqb (idx_of a) (idx_of b) ≡ meet a b
  meet-both e f = rw (e, f)
