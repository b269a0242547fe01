-- Sets laid over each other, an index at a time: the lowest index takes a bit from each set that it leads, and is gone from these.
-- Assumes nothing.
use Rattle.std.specs.Prelude.{◌≡◌, Bool, eqb}
use Rattle.std.proofs.Math.Path.{refl}
use Rattle.std.proofs.Common.{◌∙◌}
use Rattle.std.proofs.Math.Bool.{true, false}
use mathlib.Core.List.{List, [], ◌∷◌, map}
use Prim.Native.Nat.{ℕ, zero, suc, ◌+◌, ◌^◌, ◌≤◌, ◌<◌, max}
use native.Mathlib.Omega.{arith}
use Rattle.std.proofs.Math.Nat.{one-le-pow}
use Rattle.std.proofs.Math.Dec.{leb, ltb}
use borrow.Author.Tests.{le-leb, lt-leb, le-ltb, lt-ltb, leb-true, eqb-true, eqb-false, eq-eqb, ne_eqb}
use Rattle.base.specs.Logic.{pick, all, keep, fold, ascending_from}
use Rattle.base.specs.Laws.{and_left, and_right, and_both, ascending-head, ascending-tail, ascending-lower}
use Rattle.base.specs.ListLaws.{keep-whole, keep-empty}
use Rattle.rows.proofs.RowLaws.{all-put}
use Rattle.rows.proofs.KeyLaws.{put_rows}
use Rattle.counters.specs.Counts.{Entry, stored_at, count_at, row_of, set_count}
use Rattle.snapshot.specs.Read.{lay_bit}
use Rattle.snapshot_tiers.specs.Payloads.{lay_all}
use Rattle.snapshot_tiers.specs.Heads.{entry, past, tier_of}

-- the counts from an index on, and that there are no others
abbrev pub from_idx : ℕ → List Entry → List Entry
from_idx lo es = keep (λ e. leb lo e.idx) es

abbrev pub Above : ℕ → List Entry → Type 0
Above lo es = all (λ e. leb lo e.idx) es ≡ true

-- the bit that a set lays at x, where x is its first member
unfoldable pub bit_at : ℕ → ℕ → List ℕ → ℕ
bit_at k x [] = 0
bit_at k x (y ∷ ys) = pick (eqb y x) (2 ^ k) 0

-- what sets from bit k on lay at x
unfoldable pub code_from : ℕ → ℕ → List (List ℕ) → ℕ
code_from k x [] = 0
code_from k x (xs ∷ xss) = bit_at k x xs + code_from (suc k) x xss

-- counts with the code c at x before them, where there is one
unfoldable pub with_code : ℕ → ℕ → List Entry → List Entry
with_code x zero es = es
with_code x (suc c) es = entry x (suc (suc c)) ∷ es

-- ---- a count set before the others, at the first, and behind it
one-row : (i n : ℕ) → 2 ≤ n → row_of i n ≡ entry i n ∷ []
unfolding row_of
one-row i n h = rw (le-leb 2 n h)

above-not : (i : ℕ) (e : Entry) → leb (suc i) e.idx ≡ true → ltb e.idx i ≡ false
above-not i e h = le-ltb e.idx i (omega (arith, leb-true (suc i) e.idx h))

module _ (i n : ℕ) (es : List Entry) where
  pub set_front : 2 ≤ n → Above (suc i) es → set_count i n es ≡ entry i n ∷ es
  unfolding set_count put_rows
  set_front h a =
      rw (
        one-row i n h,
        keep-empty (λ e. ltb e.idx i) (λ e. leb (suc i) e.idx) (above-not i) es a,
        keep-whole (λ e. leb (suc i) e.idx) (λ e. leb (suc i) e.idx) (λ e p. p) es a,
      )

  pub set-hit : (m : ℕ) → 2 ≤ n → Above (suc i) es → set_count i n (entry i m ∷ es) ≡ entry i n ∷ es
  unfolding set_count put_rows keep
  set-hit m h a =
      rw (
        le-ltb i i (omega arith),
        one-row i n h,
        keep-empty (λ e. ltb e.idx i) (λ e. leb (suc i) e.idx) (above-not i) es a,
        keep-whole (λ e. leb (suc i) e.idx) (λ e. leb (suc i) e.idx) (λ e p. p) es a,
      )

  pub set-behind : (e : Entry) → e.idx < i → set_count i n (e ∷ es) ≡ e ∷ set_count i n es
  unfolding set_count put_rows keep
  set-behind e h = rw (lt-ltb e.idx i h, lt-leb (suc i) e.idx (omega arith))

  pub set-above : (lo : ℕ) → lo ≤ i → Above lo es → Above lo (set_count i n es)
  unfolding set_count row_of all put_rows
  set-above lo h a = all-put (λ e. e.idx) i (suc i) (row_of i n) es (λ e. leb lo e.idx) a (row (leb 2 n))
    where
      row : (b : Bool) → all (λ e. leb lo e.idx) (pick b (entry i n ∷ []) []) ≡ true
      row true = rw (le-leb lo i h)
      row false = refl

-- the count stored at an index before the others, and behind the first
pub stored-below : (i : ℕ) (es : List Entry) → Above (suc i) es → stored_at i es ≡ 0
unfolding stored_at all
stored-below i [] a = refl
stored-below i (e ∷ es) a =
    let h = leb-true (suc i) e.idx (and_left (leb (suc i) e.idx) (all (λ x. leb (suc i) x.idx) es) a) in
    rw (ne_eqb e.idx i (omega arith)) (stored-below i es (and_right (leb (suc i) e.idx) (all (λ x. leb (suc i) x.idx) es) a))

pub stored-behind : (i : ℕ) (e : Entry) (es : List Entry) → (e.idx ≡ i → ⊥) → stored_at i (e ∷ es) ≡ stored_at i es
unfolding stored_at
stored-behind i e es h = rw (ne_eqb e.idx i h)

-- ---- a set laid over counts
lay-behind : (k : ℕ) (e : Entry) (xs : List ℕ) (es : List Entry) → ascending_from (suc e.idx) xs ≡ true → lay_bit k xs (e ∷ es) ≡ e ∷ lay_bit k xs es
unfolding lay_bit fold count_at
lay-behind k e [] es a = refl
lay-behind k e (x ∷ xs) es a =
    let h = ascending-head (suc e.idx) x xs a in
    rw (stored-behind x e es (omega arith), set-behind x (max (stored_at x es) 1 + 2 ^ k) es e (omega arith))
    (lay-behind k e xs (set_count x (max (stored_at x es) 1 + 2 ^ k) es) (ascending-lower (suc e.idx) (suc x) xs (omega arith) (ascending-tail (suc e.idx) x xs a)))

lay-above : (k lo : ℕ) (xs : List ℕ) (es : List Entry) → ascending_from lo xs ≡ true → Above lo es → Above lo (lay_bit k xs es)
unfolding lay_bit fold
lay-above k lo [] es a h = h
lay-above k lo (x ∷ xs) es a h =
    let l = ascending-head lo x xs a in
    lay-above k lo xs (set_count x (count_at x es + 2 ^ k) es) (ascending-lower lo (suc x) xs (omega arith) (ascending-tail lo x xs a))
    (set-above x (count_at x es + 2 ^ k) es lo l h)

pub past-above : (x : ℕ) (xs : List ℕ) → ascending_from x xs ≡ true → ascending_from (suc x) (past x xs) ≡ true
unfolding past ascending_from
past-above x [] a = refl
past-above x (y ∷ ys) a = go (eqb y x) refl
  where
    go : (b : Bool) → eqb y x ≡ b → ascending_from (suc x) (pick b ys (y ∷ ys)) ≡ true
    go true e = rw (← eqb-true y x e) (ascending-tail x y ys a)
    go false e =
        let l = ascending-head x y ys a in
        let n = eqb-false y x e in
        and_both (leb (suc x) y) (ascending_from (suc y) ys) (le-leb (suc x) y (omega (arith, n))) (ascending-tail x y ys a)

pub code-some : (x c : ℕ) (es : List Entry) → 0 < c → with_code x c es ≡ entry x (suc c) ∷ es
unfolding with_code
code-some x zero es h = absurd (omega arith)
code-some x (suc c) es h = refl

stored-first : (x n : ℕ) (es : List Entry) → stored_at x (entry x n ∷ es) ≡ n
unfolding stored_at
stored-first x n es = rw (eq-eqb x x refl)

lay-first : (k y : ℕ) (ys : List ℕ) (es : List Entry) → lay_bit k (y ∷ ys) es ≡ lay_bit k ys (set_count y (count_at y es + 2 ^ k) es)
unfolding lay_bit fold
lay-first k y ys es = refl

-- a set above x beside a count at x
kept-none : (k x : ℕ) (es : List Entry) (xs : List ℕ) → lay_bit k xs (with_code x 0 es) ≡ with_code x 0 (lay_bit k xs es)
unfolding with_code
kept-none k x es xs = refl

kept-some : (k x : ℕ) (es : List Entry) (d : ℕ) (xs : List ℕ) → ascending_from (suc x) xs ≡ true → lay_bit k xs (with_code x (suc d) es) ≡ with_code x (suc d) (lay_bit k xs es)
unfolding with_code
kept-some k x es d xs a = lay-behind k (entry x (suc (suc d))) xs es a

-- ---- the lowest index of sets goes before what the rest of them lays
module _ (k x : ℕ) (es : List Entry) (a : Above (suc x) es) where
  head-set : (c : ℕ) → set_count x (count_at x (with_code x c es) + 2 ^ k) (with_code x c es) ≡ entry x (suc (c + 2 ^ k)) ∷ es
  unfolding with_code count_at
  head-set zero =
      let p = one-le-pow k 2 (omega arith) in
      let m : max 0 1 + 2 ^ k ≡ suc (0 + 2 ^ k) = omega arith in
      rw (stored-below x es a, m) (set_front x (suc (0 + 2 ^ k)) es (omega arith) a)
  head-set (suc c) =
      let s : stored_at x (entry x (suc (suc c)) ∷ es) ≡ suc (suc c) = stored-first x (suc (suc c)) es in
      let m : max (suc (suc c)) 1 + 2 ^ k ≡ suc (suc c + 2 ^ k) = omega arith in
      rw (s, m) (set-hit x (suc (suc c + 2 ^ k)) es (suc (suc c)) (omega arith) a)

  lay-head : (c : ℕ) (xs : List ℕ) → ascending_from x xs ≡ true → lay_bit k xs (with_code x c es) ≡ with_code x (c + bit_at k x xs) (lay_bit k (past x xs) es)
  unfolding lay_bit fold past bit_at ascending_from
  lay-head c [] h = let z : c + 0 ≡ c = omega arith in rw z
  lay-head c (y ∷ ys) h = go (eqb y x) refl
    where
      kept : (d : ℕ) → ascending_from (suc x) (y ∷ ys) ≡ true → lay_bit k (y ∷ ys) (with_code x d es) ≡ with_code x d (lay_bit k (y ∷ ys) es)
      kept zero q = kept-none k x es (y ∷ ys)
      kept (suc d) q = kept-some k x es d (y ∷ ys) q

      go : (b : Bool) → eqb y x ≡ b → lay_bit k (y ∷ ys) (with_code x c es) ≡ with_code x (c + pick b (2 ^ k) 0) (lay_bit k (pick b ys (y ∷ ys)) es)
      go true e =
          let p = one-le-pow k 2 (omega arith) in
          let i : y ≡ x = eqb-true y x e in
          lay-first k y ys (with_code x c es)
          ∙ rw (i, head-set c, code-some x (c + 2 ^ k) (lay_bit k ys es) (omega arith))
          (lay-behind k (entry x (suc (c + 2 ^ k))) ys es (rw (← i) (ascending-tail x y ys h)))
      go false e =
          let l = ascending-head x y ys h in
          let z : c + 0 ≡ c = omega arith in
          rw z (kept c (and_both (leb (suc x) y) (ascending_from (suc y) ys) (le-leb (suc x) y (omega (arith, eqb-false y x e))) (ascending-tail x y ys h)))

pub all_head : (k x c : ℕ) (xss : List (List ℕ)) (es : List Entry) → all (ascending_from x) xss ≡ true → Above (suc x) es
    → lay_all k xss (with_code x c es) ≡ with_code x (c + code_from k x xss) (lay_all k (map (past x) xss) es)
unfolding lay_all code_from all
all_head k x c [] es h a = let z : c + 0 ≡ c = omega arith in rw z
all_head k x c (xs ∷ xss) es h a =
    let p = and_left (ascending_from x xs) (all (ascending_from x) xss) h in
    let q = and_right (ascending_from x xs) (all (ascending_from x) xss) h in
    let z : c + (bit_at k x xs + code_from (suc k) x xss) ≡ (c + bit_at k x xs) + code_from (suc k) x xss = omega arith in
    rw (lay-head k x es a c xs p, z)
    (all_head (suc k) x (c + bit_at k x xs) xss (lay_bit k (past x xs) es) q (lay-above k (suc x) (past x xs) es (past-above x xs p) a))

pub all_above : (k lo : ℕ) (xss : List (List ℕ)) (es : List Entry) → all (ascending_from lo) xss ≡ true → Above lo es → Above lo (lay_all k xss es)
unfolding lay_all all
all_above k lo [] es h a = a
all_above k lo (xs ∷ xss) es h a =
    all_above (suc k) lo xss (lay_bit k xs es) (and_right (ascending_from lo xs) (all (ascending_from lo) xss) h)
    (lay-above k lo xs es (and_left (ascending_from lo xs) (all (ascending_from lo) xss) h) a)

pub all_past : (x : ℕ) (xss : List (List ℕ)) → all (ascending_from x) xss ≡ true → all (ascending_from (suc x)) (map (past x) xss) ≡ true
unfolding all
all_past x [] h = refl
all_past x (xs ∷ xss) h =
    and_both (ascending_from (suc x) (past x xs)) (all (ascending_from (suc x)) (map (past x) xss))
    (past-above x xs (and_left (ascending_from x xs) (all (ascending_from x) xss) h)) (all_past x xss (and_right (ascending_from x xs) (all (ascending_from x) xss) h))

module _ (x : ℕ) (xss : List (List ℕ)) (h : all (ascending_from x) xss ≡ true) where
  pub tier-step : tier_of xss ≡ with_code x (code_from 0 x xss) (tier_of (map (past x) xss))
  unfolding with_code all
  tier-step = let z : 0 + code_from 0 x xss ≡ code_from 0 x xss = omega arith in all_head 0 x 0 xss [] h refl ∙ rw z

  pub tier-rest : Above (suc x) (tier_of (map (past x) xss))
  unfolding all
  tier-rest = all_above 0 (suc x) (map (past x) xss) [] (all_past x xss h) refl
