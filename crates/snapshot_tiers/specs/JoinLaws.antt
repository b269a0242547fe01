-- The two tiers as one, an index at a time.
-- Assumes nothing.
use Rattle.std.specs.Prelude.{◌≡◌, Bool, true, false, ◌&&◌, ◌||◌, List, [], ◌∷◌, map, length, ltb, eqb, Option}
use Rattle.std.specs.Option.{is_some}
use Rattle.std.proofs.Math.Path.{refl}
use Rattle.std.proofs.Common.{sym, ◌∙◌, true≢false, arith}
use Prim.Native.Nat.{ℕ, zero, suc, ◌+◌, ◌^◌, ◌≤◌, ◌<◌}
use Rattle.std.proofs.Math.Nat.{one-le-pow, two-pow-succ}
use Rattle.std.proofs.Math.Dec.{leb}
use borrow.Author.Tests.{le-leb, lt-ltb, leb-true, leb-false, ltb-true, ltb-false, eqb-true, eqb-false, eq-eqb, ne_eqb}
use Rattle.base.specs.Logic.{pick, all, any, fold, ascending_from}
use Rattle.base.specs.Laws.{and_left, and_right, and_both, ascending-head, ascending-tail, ascending-lower}
use Rattle.base.specs.ListLaws.{all_weaker, keep-whole, keep-narrow, all-kept}
use Rattle.counters.specs.Counts.{Entry, stored_at, set_count}
use Rattle.snapshot_tiers.specs.declared.Head.{Head}
use Rattle.snapshot_tiers.specs.Payloads.{lay_all}
use Rattle.snapshot_tiers.specs.TierLaws.{from_idx, Above, bit_at, code_from, with_code, set_front, set-hit, set-behind, stored-below, stored-behind, code-some, tier-step, tier-rest}
use Rattle.snapshot.specs.Read.{lay_bit}
use Rattle.snapshot_tiers.specs.Heads.{entry, past, tier_of, no_head, lowest, set_all, clashes, first_of, meet, head_at, idx_of, count_of}

-- counts with the count n at x before them, where that isn't 0
unfoldable pub with_row : ℕ → ℕ → List Entry → List Entry
with_row x zero es = es
with_row x (suc n) es = entry x (suc n) ∷ es

above-first : (lo : ℕ) (e : Entry) (es : List Entry) → Above lo (e ∷ es) → lo ≤ e.idx
unfolding all
above-first lo e es a = leb-true lo e.idx (and_left (leb lo e.idx) (all (λ x. leb lo x.idx) es) a)

above-rest : (lo : ℕ) (e : Entry) (es : List Entry) → Above lo (e ∷ es) → Above lo es
unfolding all
above-rest lo e es a = and_right (leb lo e.idx) (all (λ x. leb lo x.idx) es) a

-- ---- a count before all of the large ones stays before them
pub set-all-behind : (e : Entry) (big small : List Entry) → Above (suc e.idx) big → set_all big (e ∷ small) ≡ e ∷ set_all big small
unfolding fold
set-all-behind e [] small a = refl
set-all-behind e (b ∷ big) small a =
    let h = above-first (suc e.idx) b big a in
    rw (set-behind b.idx b.count small e (omega arith)) (set-all-behind e big (set_count b.idx b.count small) (above-rest (suc e.idx) b big a))

pub clashes-behind : (e : Entry) (big small : List Entry) → Above (suc e.idx) big → clashes big (e ∷ small) ≡ clashes big small
unfolding any
clashes-behind e [] small a = refl
clashes-behind e (b ∷ big) small a =
    let h = above-first (suc e.idx) b big a in
    rw (stored-behind b.idx e small (omega arith), clashes-behind e big small (above-rest (suc e.idx) b big a))

-- ---- the lowest index of both
module _ (x : ℕ) (big small : List Entry) (a : Above (suc x) big) (s : Above (suc x) small) where
  -- a small count alone
  pub small-step : (c : ℕ) → 0 < c → set_all big (with_code x c small) ≡ entry x (suc c) ∷ set_all big small
  small-step c h = rw (code-some x c small h) (set-all-behind (entry x (suc c)) big small a)

  pub small-clash : (c : ℕ) → 0 < c → clashes big (with_code x c small) ≡ clashes big small
  small-clash c h = rw (code-some x c small h) (clashes-behind (entry x (suc c)) big small a)

  -- a large one, beside a small one or alone
  pub large-step : (n c : ℕ) → 2 ≤ n → set_all (entry x n ∷ big) (with_code x c small) ≡ entry x n ∷ set_all big small
  unfolding fold with_code
  large-step n zero h = rw (set_front x n small h s) (set-all-behind (entry x n) big small a)
  large-step n (suc c) h = rw (set-hit x n small (suc (suc c)) h s) (set-all-behind (entry x n) big small a)

  pub large-clash : (n c : ℕ) → clashes (entry x n ∷ big) (with_code x c small) ≡ (ltb 0 c || clashes big small)
  unfolding any with_code stored_at
  large-clash n zero = rw (stored-below x small s)
  large-clash n (suc c) = rw (eq-eqb x x refl, lt-ltb 0 (suc (suc c)) (omega arith), lt-ltb 0 (suc c) (omega arith))

-- ---- what sets lay at an index
no-bit : (k x : ℕ) (ys : List ℕ) → ascending_from (suc x) ys ≡ true → bit_at k x ys ≡ 0
unfolding bit_at
no-bit k x [] a = refl
no-bit k x (y ∷ ys) a = let h = ascending-head (suc x) y ys a in rw (ne_eqb y x (omega arith))

pub code-none : (k x : ℕ) (xss : List (List ℕ)) → all (ascending_from (suc x)) xss ≡ true → code_from k x xss ≡ 0
unfolding code_from all
code-none k x [] h = refl
code-none k x (xs ∷ xss) h =
    omega (arith, no-bit k x xs (and_left (ascending_from (suc x) xs) (all (ascending_from (suc x)) xss) h), code-none (suc k) x xss (and_right (ascending_from (suc x) xs) (all (ascending_from (suc x)) xss) h))

bit-most : (k x : ℕ) (ys : List ℕ) → bit_at k x ys ≤ 2 ^ k
unfolding bit_at
bit-most k x [] = omega (arith, one-le-pow k 2 (omega arith))
bit-most k x (y ∷ ys) = go (eqb y x)
  where
    go : (b : Bool) → pick {A = ℕ} b (2 ^ k) 0 ≤ 2 ^ k
    go true = omega arith
    go false = omega (arith, one-le-pow k 2 (omega arith))

pub code-most : (k x : ℕ) (xss : List (List ℕ)) → code_from k x xss + 2 ^ k ≤ 2 ^ (k + length xss)
unfolding code_from
code-most k x [] = let z : k + 0 ≡ k = omega arith in rw z (omega arith)
code-most k x (xs ∷ xss) =
    let z : k + suc (length xss) ≡ suc k + length xss = omega arith in
    rw z (omega (arith, code-most (suc k) x xss, bit-most k x xs, two-pow-succ k))

-- ---- the lowest index of sets
all-lower : (lo hi : ℕ) (xss : List (List ℕ)) → lo ≤ hi → all (ascending_from hi) xss ≡ true → all (ascending_from lo) xss ≡ true
all-lower lo hi xss h a = all_weaker (ascending_from lo) (ascending_from hi) (λ xs. ascending-lower lo hi xs h) xss a

pub record Lowest (lo : ℕ) (xss : List (List ℕ)) (h : Option Head) : Type 0 where
  pub none : is_some h ≡ false → (x : ℕ) → all (ascending_from x) xss ≡ true
  pub blank : is_some h ≡ false → (k : ℕ) (es : List Entry) → lay_all k xss es ≡ es
  pub bound : is_some h ≡ true → all (ascending_from (idx_of h)) xss ≡ true
  pub hit : is_some h ≡ true → (k : ℕ) → 0 < code_from k (idx_of h) xss
  pub from : is_some h ≡ true → lo ≤ idx_of h

no-lowest : (lo : ℕ) → Lowest lo [] no_head
unfolding all lay_all
no-lowest lo =
    record {
      none = λ e x. refl;
      blank = λ e k es. refl;
      bound = λ e. absurd (true≢false (sym e));
      hit = λ e. absurd (true≢false (sym e));
      from = λ e. absurd (true≢false (sym e));
    }

past-empty : (lo : ℕ) (xss : List (List ℕ)) (h : Option Head) → Lowest lo xss h → Lowest lo ([] ∷ xss) h
unfolding all lay_all lay_bit fold ascending_from code_from bit_at
past-empty lo xss h l =
    record {
      none = l.none;
      blank = λ e k es. l.blank e (suc k) es;
      bound = l.bound;
      hit = λ e k. omega (arith, l.hit e (suc k));
      from = l.from;
    }

module _ (lo y : ℕ) (ys : List ℕ) (xss : List (List ℕ)) (h : Option Head) (l : Lowest lo xss h) (a : ascending_from lo (y ∷ ys) ≡ true) where
  same-lowest : is_some h ≡ true → idx_of h ≤ y → Lowest lo ((y ∷ ys) ∷ xss) h
  unfolding all ascending_from code_from
  same-lowest f g =
      record {
        none = λ e. absurd (true≢false (sym f ∙ e));
        blank = λ e. absurd (true≢false (sym f ∙ e));
        bound =
            λ e.
            and_both (ascending_from (idx_of h) (y ∷ ys)) (all (ascending_from (idx_of h)) xss)
            (and_both (leb (idx_of h) y) (ascending_from (suc y) ys) (le-leb (idx_of h) y g) (ascending-tail lo y ys a)) (l.bound e);
        hit = λ e k. omega (arith, l.hit e (suc k));
        from = l.from;
      }

  new-lowest : all (ascending_from y) xss ≡ true → Lowest lo ((y ∷ ys) ∷ xss) (head_at y 0)
  unfolding all ascending_from code_from bit_at
  new-lowest b =
      record {
        none = λ e. absurd (true≢false e);
        blank = λ e. absurd (true≢false e);
        bound =
            λ e.
            and_both (ascending_from y (y ∷ ys)) (all (ascending_from y) xss)
            (and_both (leb y y) (ascending_from (suc y) ys) (le-leb y y (omega arith)) (ascending-tail lo y ys a)) b;
        hit = λ e k. rw (eq-eqb y y refl) (omega (arith, one-le-pow k 2 (omega arith)));
        from = λ e. ascending-head lo y ys a;
      }

pub lowest-of : (lo : ℕ) (xss : List (List ℕ)) → all (ascending_from lo) xss ≡ true → Lowest lo xss (lowest xss)
unfolding all lowest ascending_from
lowest-of lo [] a = no-lowest lo
lowest-of lo ([] ∷ xss) a = past-empty lo xss (lowest xss) (lowest-of lo xss a)
lowest-of lo ((y ∷ ys) ∷ xss) a =
    go (lowest-of lo xss (and_right (ascending_from lo (y ∷ ys)) (all (ascending_from lo) xss) a)) (is_some (lowest xss)) (leb (idx_of (lowest xss)) y) refl refl
  where
    p : ascending_from lo (y ∷ ys) ≡ true
    p = and_left (ascending_from lo (y ∷ ys)) (all (ascending_from lo) xss) a

    go : Lowest lo xss (lowest xss) → (f b : Bool) → is_some (lowest xss) ≡ f → leb (idx_of (lowest xss)) y ≡ b
        → Lowest lo ((y ∷ ys) ∷ xss) (pick (f && b) (lowest xss) (head_at y 0))
    go l true true e g = same-lowest lo y ys xss (lowest xss) l p e (leb-true (idx_of (lowest xss)) y g)
    go l true false e g = new-lowest lo y ys xss (lowest xss) l p (all-lower y (idx_of (lowest xss)) xss (omega (arith, leb-false (idx_of (lowest xss)) y g)) (l.bound e))
    go l false b e g = new-lowest lo y ys xss (lowest xss) l p (l.none e y)

-- ---- the first count of the small tier, of the large tier from an index on, and of both
pub record Small (lo : ℕ) (xss : List (List ℕ)) (a : Option Head) : Type 0 where
  pub none : is_some a ≡ false → (x : ℕ) → all (ascending_from x) xss ≡ true
  pub blank : is_some a ≡ false → tier_of xss ≡ []
  pub bound : is_some a ≡ true → all (ascending_from (idx_of a)) xss ≡ true
  pub hit : is_some a ≡ true → 0 < code_from 0 (idx_of a) xss
  pub code : is_some a ≡ true → count_of a ≡ suc (code_from 0 (idx_of a) xss)
  pub from : is_some a ≡ true → lo ≤ idx_of a

pub record Large (lo : ℕ) (big : List Entry) (b : Option Head) : Type 0 where
  pub rows : from_idx lo big ≡ pick (is_some b) (entry (idx_of b) (count_of b) ∷ from_idx (suc (idx_of b)) big) []
  pub from : is_some b ≡ true → lo ≤ idx_of b
  pub two : is_some b ≡ true → 2 ≤ count_of b

-- what is left behind an index
abbrev pub rest_of : ℕ → List (List ℕ) → List (List ℕ)
rest_of x xss = map (past x) xss

pub record Front (lo : ℕ) (xss : List (List ℕ)) (big : List Entry) (a b f : Option Head) : Type 0 where
  pub ended : is_some f ≡ false → set_all (from_idx lo big) (tier_of xss) ≡ []
  pub unclashed : is_some f ≡ false → clashes (from_idx lo big) (tier_of xss) ≡ false
  pub rows : is_some f ≡ true
      → set_all (from_idx lo big) (tier_of xss) ≡ entry (idx_of f) (count_of f) ∷ set_all (from_idx (suc (idx_of f)) big) (tier_of (rest_of (idx_of f) xss))
  pub clash : is_some f ≡ true
      → clashes (from_idx lo big) (tier_of xss) ≡ (meet a b || clashes (from_idx (suc (idx_of f)) big) (tier_of (rest_of (idx_of f) xss)))
  pub bound : is_some f ≡ true → all (ascending_from (idx_of f)) xss ≡ true
  pub from : is_some f ≡ true → lo ≤ idx_of f

-- large counts that start behind an index are those from there on
from-later : (lo m : ℕ) (big : List Entry) → lo ≤ m → Above m (from_idx lo big) → from_idx m big ≡ from_idx lo big
from-later lo m big h a =
    sym (keep-narrow (λ e. leb m e.idx) (λ e. leb lo e.idx) (λ e q. le-leb lo e.idx (omega (arith, leb-true m e.idx q))) big)
    ∙ keep-whole (λ e. leb m e.idx) (λ e. leb m e.idx) (λ e q. q) (from_idx lo big) a

module _ (lo : ℕ) (xss : List (List ℕ)) (big : List Entry) (a b : Option Head) (sm : Small lo xss a) (lg : Large lo big b) where
  -- the large count is first, or at the small one's index
  large-front : is_some b ≡ true → all (ascending_from (idx_of b)) xss ≡ true → ltb 0 (code_from 0 (idx_of b) xss) ≡ meet a b → Front lo xss big a b b
  large-front f h m =
      let x = idx_of b in
      let r : from_idx lo big ≡ entry x (count_of b) ∷ from_idx (suc x) big = rw f at lg.rows in
      let p = all-kept (λ e. leb (suc x) e.idx) big in
      let q = tier-rest x xss h in
      record {
        ended = λ e. absurd (true≢false (sym f ∙ e));
        unclashed = λ e. absurd (true≢false (sym f ∙ e));
        rows = λ e. rw (r, tier-step x xss h) (large-step x (from_idx (suc x) big) (tier_of (rest_of x xss)) p q (count_of b) (code_from 0 x xss) (lg.two f));
        clash = λ e. rw (r, tier-step x xss h, ← m) (large-clash x (from_idx (suc x) big) (tier_of (rest_of x xss)) p q (count_of b) (code_from 0 x xss));
        bound = λ e. h;
        from = λ e. lg.from f;
      }

  -- the small count is before the large ones
  small-front : is_some a ≡ true → Above (suc (idx_of a)) (from_idx lo big) → meet a b ≡ false → Front lo xss big a b a
  small-front f h m =
      let x = idx_of a in
      let l = sm.from f in
      let r : from_idx lo big ≡ from_idx (suc x) big = sym (from-later lo (suc x) big (omega arith) h) in
      let p = all-kept (λ e. leb (suc x) e.idx) big in
      let q = tier-rest x xss (sm.bound f) in
      record {
        ended = λ e. absurd (true≢false (sym f ∙ e));
        unclashed = λ e. absurd (true≢false (sym f ∙ e));
        rows =
            λ e.
            rw (r, tier-step x xss (sm.bound f), sm.code f)
            (small-step x (from_idx (suc x) big) (tier_of (rest_of x xss)) p q (code_from 0 x xss) (sm.hit f));
        clash =
            λ e.
            rw (r, tier-step x xss (sm.bound f), m)
            (small-clash x (from_idx (suc x) big) (tier_of (rest_of x xss)) p q (code_from 0 x xss) (sm.hit f));
        bound = λ e. sm.bound f;
        from = λ e. sm.from f;
      }

  large-rows : is_some b ≡ true → from_idx lo big ≡ entry (idx_of b) (count_of b) ∷ from_idx (suc (idx_of b)) big
  large-rows f = rw f at lg.rows

  large-none : is_some b ≡ false → from_idx lo big ≡ []
  large-none f = rw f at lg.rows

  neither : is_some a ≡ false → is_some b ≡ false → Front lo xss big a b b
  unfolding fold any
  neither e f =
      record {
        ended = λ g. rw (large-none f, sm.blank e);
        unclashed = λ g. rw (large-none f);
        rows = λ g. absurd (true≢false (sym g ∙ f));
        clash = λ g. absurd (true≢false (sym g ∙ f));
        bound = λ g. absurd (true≢false (sym g ∙ f));
        from = λ g. absurd (true≢false (sym g ∙ f));
      }

  behind-large : is_some b ≡ true → idx_of a < idx_of b → Above (suc (idx_of a)) (from_idx lo big)
  unfolding all
  behind-large f h =
      rw (large-rows f)
      (and_both (leb (suc (idx_of a)) (idx_of b)) (all (λ e. leb (suc (idx_of a)) e.idx) (from_idx (suc (idx_of b)) big)) (le-leb (suc (idx_of a)) (idx_of b) (omega arith))
      (all_weaker (λ e. leb (suc (idx_of a)) e.idx) (λ e. leb (suc (idx_of b)) e.idx)
      (λ e q. le-leb (suc (idx_of a)) e.idx (omega (arith, leb-true (suc (idx_of b)) e.idx q))) (from_idx (suc (idx_of b)) big)
      (all-kept (λ e. leb (suc (idx_of b)) e.idx) big)))

  behind-none : is_some b ≡ false → Above (suc (idx_of a)) (from_idx lo big)
  unfolding all
  behind-none f = rw (large-none f)

  -- both are there, and the large one isn't behind the small one
  meeting : is_some a ≡ true → is_some b ≡ true → idx_of b ≤ idx_of a → ltb 0 (code_from 0 (idx_of b) xss) ≡ meet a b
  meeting e f h = rw (e, f) (go (eqb (idx_of a) (idx_of b)) refl)
    where
      go : (q : Bool) → eqb (idx_of a) (idx_of b) ≡ q → ltb 0 (code_from 0 (idx_of b) xss) ≡ q
      go true g = lt-ltb 0 (code_from 0 (idx_of b) xss) (rw (← eqb-true (idx_of a) (idx_of b) g) (sm.hit e))
      go false g =
          rw (code-none 0 (idx_of b) xss (all-lower (suc (idx_of b)) (idx_of a) xss (omega (arith, eqb-false (idx_of a) (idx_of b) g)) (sm.bound e)))

  pub front-of : Front lo xss big a b (first_of a b)
  front-of = go (is_some a) (is_some b) (ltb (idx_of a) (idx_of b)) refl refl refl
    where
      go : (u v w : Bool) → is_some a ≡ u → is_some b ≡ v → ltb (idx_of a) (idx_of b) ≡ w → Front lo xss big a b (pick (u && pick v w true) a b)
      go false false w e f g = neither e f
      go false true w e f g =
          large-front f (sm.none e (idx_of b)) (rw (e, code-none 0 (idx_of b) xss (sm.none e (suc (idx_of b)))))
      go true false w e f g = small-front e (behind-none f) (rw (e, f))
      go true true true e f g =
          let h = ltb-true (idx_of a) (idx_of b) g in
          small-front e (behind-large f h) (rw (e, f, ne_eqb (idx_of a) (idx_of b) (omega arith)))
      go true true false e f g =
          let h = ltb-false (idx_of a) (idx_of b) g in
          large-front f (all-lower (idx_of b) (idx_of a) xss (omega arith) (sm.bound e)) (meeting e f (omega arith))
