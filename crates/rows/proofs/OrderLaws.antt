-- Rows put in their place by key, for rows of any kind: put twice, put at two places, and what stays true of the rows.
-- Assumes nothing.
use Rattle.std.specs.Prelude.{◌≡◌, Bool, true, false, ◌&&◌, eqb}
use Rattle.std.proofs.Math.Path.{refl, sym, ap₂}
use Rattle.std.proofs.Common.{ap, ◌∙◌, arith}
use Rattle.std.proofs.Math.Bool.{not}
use mathlib.Core.List.{List, [], ◌∷◌, ◌++◌, map, append_assoc, append-nil}
use mathlib.Core.List.Permᴰ
use mathlib.Core.List.Permᴰ.{cons as order-cons}
use mathlib.Core.List.Permᴰ.{trans as order_trans}
use mathlib.Core.List.{Permᴰ as Reordered}
use Prim.Native.Nat.{ℕ, suc, ◌≤◌, zero-le}
use Rattle.std.proofs.Math.Decide.{dec_le}
use Rattle.std.proofs.Math.Dec.{leb, ltb}
use borrow.Author.Tests.{le-ltb, lt-ltb, le-leb, lt-leb, leb-true, ltb-true, eqb-false, not-true}
use Rattle.base.specs.Logic.{all, any, elem, keep, ascending_from}
use Rattle.base.specs.Laws.{and_left, and_right, and_both}
use Rattle.base.specs.OrderLaws.{two-parts, every}
use Rattle.base.specs.ListLaws.{or-false, eqb-sym, all_weaker, all-kept, keep_append, keep-whole, keep-empty, keep-swap, keep-narrow, ascending-append, ascending-keep, ascending-from}
use Rattle.rows.proofs.KeyLaws.{put_rows}

-- ---- the tests of a key k against two bounds
module _ (k i j : ℕ) (h : i ≤ j) where
  lt-higher : ltb k i ≡ true → ltb k j ≡ true
  lt-higher e = lt-ltb k j (omega (arith, ltb-true k i e))

  le-lower : leb j k ≡ true → leb i k ≡ true
  le-lower e = le-leb i k (omega (arith, leb-true j k e))

  le_not_lt : leb j k ≡ true → ltb k i ≡ false
  le_not_lt e = le-ltb k i (omega (arith, leb-true j k e))

  lt_not_le : ltb k i ≡ true → leb j k ≡ false
  lt_not_le e = lt-leb j k (omega (arith, ltb-true k i e))

module _ {E : Type 0} (key : E → ℕ) where
  -- every key is at least lo, and below hi
  abbrev pub within : ℕ → ℕ → List E → Bool
  within lo hi es = all (λ e. leb lo (key e) && ltb (key e) hi) es

  -- the rows with keys below i, and those with keys from i on
  abbrev below : ℕ → List E → List E
  below i es = keep (λ e. ltb (key e) i) es

  abbrev from : ℕ → List E → List E
  from i es = keep (λ e. leb i (key e)) es

  module _ (lo hi : ℕ) (new es : List E) (order : lo ≤ hi) (fit : within lo hi new ≡ true) where
    reaches : (e : E) → (leb lo (key e) && ltb (key e) hi) ≡ true → leb lo (key e) ≡ true
    reaches e h = and_left (leb lo (key e)) (ltb (key e) hi) h

    stays : (e : E) → (leb lo (key e) && ltb (key e) hi) ≡ true → ltb (key e) hi ≡ true
    stays e h = and_right (leb lo (key e)) (ltb (key e) hi) h

    parts : (p : E → Bool) → keep p (put_rows key lo hi new es) ≡ keep p (below lo es) ++ (keep p new ++ keep p (from hi es))
    unfolding put_rows
    parts p = rw (keep_append p (below lo es) (new ++ from hi es), keep_append p new (from hi es))

    -- the rows before the place and behind it are as they were
    below_put : (i : ℕ) → i ≤ lo → below i (put_rows key lo hi new es) ≡ below i es
    below_put i h =
        parts (λ e. ltb (key e) i)
        ∙ rw (
          keep-narrow (λ e. ltb (key e) i) (λ e. ltb (key e) lo) (λ e. lt-higher (key e) i lo h) es,
          keep-empty (λ e. ltb (key e) i) (λ e. leb lo (key e) && ltb (key e) hi) (λ e t. le_not_lt (key e) i lo h (reaches e t)) new fit,
          keep-empty (λ e. ltb (key e) i) (λ e. leb hi (key e)) (λ e. le_not_lt (key e) i hi (omega arith)) (from hi es) (all-kept (λ e. leb hi (key e)) es),
        ) (append-nil (below i es))

    from-put : (i : ℕ) → hi ≤ i → from i (put_rows key lo hi new es) ≡ from i es
    from-put i h =
        parts (λ e. leb i (key e))
        ∙ rw (
          keep-empty (λ e. leb i (key e)) (λ e. ltb (key e) lo) (λ e. lt_not_le (key e) lo i (omega arith)) (below lo es) (all-kept (λ e. ltb (key e) lo) es),
          keep-empty (λ e. leb i (key e)) (λ e. leb lo (key e) && ltb (key e) hi) (λ e t. lt_not_le (key e) hi i h (stays e t)) new fit,
          keep-narrow (λ e. leb i (key e)) (λ e. leb hi (key e)) (λ e. le-lower (key e) hi i h) es,
        )

    -- up to a place behind, and from a place before, there are the rows put
    below-behind : (i : ℕ) → hi ≤ i → below i (put_rows key lo hi new es) ≡ below lo es ++ (new ++ below i (from hi es))
    below-behind i h =
        parts (λ e. ltb (key e) i)
        ∙ rw (
          keep-whole (λ e. ltb (key e) i) (λ e. ltb (key e) lo) (λ e. lt-higher (key e) lo i (omega arith)) (below lo es) (all-kept (λ e. ltb (key e) lo) es),
          keep-whole (λ e. ltb (key e) i) (λ e. leb lo (key e) && ltb (key e) hi) (λ e t. lt-higher (key e) hi i h (stays e t)) new fit,
        )

    from-before : (i : ℕ) → i ≤ lo → from i (put_rows key lo hi new es) ≡ from i (below lo es) ++ (new ++ from hi es)
    from-before i h =
        parts (λ e. leb i (key e))
        ∙ rw (
          keep-whole (λ e. leb i (key e)) (λ e. leb lo (key e) && ltb (key e) hi) (λ e t. le-lower (key e) i lo h (reaches e t)) new fit,
          keep-whole (λ e. leb i (key e)) (λ e. leb hi (key e)) (λ e. le-lower (key e) i hi (omega arith)) (from hi es) (all-kept (λ e. leb hi (key e)) es),
        )

    -- what is put at the same place again stands there alone
    pub put_rows-again : (newer : List E) → put_rows key lo hi newer (put_rows key lo hi new es) ≡ put_rows key lo hi newer es
    unfolding put_rows
    put_rows-again newer = ap₂ (λ (a b : List E). a ++ (newer ++ b)) (below_put lo (omega arith)) (from-put hi (omega arith))

    -- rows by ascending key stay so
    pub put_rows-ascending : ascending_from lo (map key new) ≡ true → ascending_from 0 (map key es) ≡ true
        → ascending_from 0 (map key (put_rows key lo hi new es)) ≡ true
    unfolding put_rows
    put_rows-ascending a b =
        ascending-append key 0 lo (below lo es) (new ++ from hi es) zero-le (ascending-keep key (λ e. ltb (key e) lo) 0 es b) (all-kept (λ e. ltb (key e) lo) es)
        (ascending-append key lo hi new (from hi es) order a (all_weaker (λ e. ltb (key e) hi) (λ e. leb lo (key e) && ltb (key e) hi) stays new fit)
        (ascending-from key 0 hi (from hi es) (ascending-keep key (λ e. leb hi (key e)) 0 es b) (all-kept (λ e. leb hi (key e)) es)))

  -- rows put at two places come to the same in either order
  pub put_rows-swap : (lo hi lo' hi' : ℕ) (new new' es : List E) → lo ≤ hi → hi ≤ lo' → lo' ≤ hi'
      → within lo hi new ≡ true → within lo' hi' new' ≡ true
      → put_rows key lo' hi' new' (put_rows key lo hi new es) ≡ put_rows key lo hi new (put_rows key lo' hi' new' es)
  unfolding put_rows
  put_rows-swap lo hi lo' hi' new new' es a b c d e =
      let regroup : (below lo es ++ (new ++ below lo' (from hi es))) ++ (new' ++ from hi' es) ≡ below lo es ++ (new ++ (from hi (below lo' es) ++ (new' ++ from hi' es))) =
      simp (append_assoc, keep-swap (λ x. ltb (key x) lo') (λ x. leb hi (key x)) es) in
      ap₂ (λ (x y : List E). x ++ (new' ++ y)) (below-behind lo hi new es a d lo' b) (from-put lo hi new es a d hi' (omega arith))
      ∙ regroup
      ∙ sym (ap₂ (λ (x y : List E). x ++ (new ++ y)) (below_put lo' hi' new' es c e lo (omega arith)) (from-before lo' hi' new' es c e hi b))

-- ---- a row put among others, in another order
module _ {A : Type 0} (key : A → ℕ) (x : A) (xs : List A) where
  pub put-parts : (lo hi : ℕ) (ok : A → Bool) → ((y : A) → ok y ≡ true → leb hi (key y) ≡ not (ltb (key y) lo)) → all ok xs ≡ true
      → Reordered (put_rows key lo hi (x ∷ []) xs) (x ∷ xs)
  unfolding put_rows
  put-parts lo hi ok h a =
      order_trans (Permᴰ.middle x (keep (λ e. ltb (key e) lo) xs) (keep (λ e. leb hi (key e)) xs))
      (order-cons refl (two-parts (λ e. ltb (key e) lo) (λ e. leb hi (key e)) ok h xs a))

  pub put-between : (i : ℕ) → Reordered (put_rows key i i (x ∷ []) xs) (x ∷ xs)
  put-between i = put-parts i i (λ y. true) (λ y t. other (key y)) (every xs)
    where
      other : (k : ℕ) → leb i k ≡ not (ltb k i)
      other k = elim (dec_le i k) [ yes h ↦ rw (le-leb i k h, le-ltb k i h) | no h ↦ rw (lt-leb i k (omega arith), lt-ltb k i (omega arith)) ]

  -- in the place of none
  pub put-absent : (i : ℕ) → elem i (map key xs) ≡ false → Reordered (put_rows key i (suc i) (x ∷ []) xs) (x ∷ xs)
  unfolding all any
  put-absent i a = put-parts i (suc i) (λ y. not (eqb (key y) i)) (λ y t. other (key y) (eqb-false (key y) i (not-true (eqb (key y) i) t))) (absent xs a)
    where
      other : (k : ℕ) → (k ≡ i → ⊥) → leb (suc i) k ≡ not (ltb k i)
      other k ne =
          elim (dec_le i k) [
            | yes h ↦ rw (le-leb (suc i) k (omega (arith, ne)), le-ltb k i h)
            | no h ↦ rw (lt-leb (suc i) k (omega arith), lt-ltb k i (omega arith))
          ]

      absent : (ys : List A) → elem i (map key ys) ≡ false → all (λ e. not (eqb (key e) i)) ys ≡ true
      absent [] e = refl
      absent (y ∷ ys) e =
          let f = or-false (eqb i (key y)) (elem i (map key ys)) e in
          and_both _ _ (ap not (eqb-sym (key y) i ∙ f.0)) (absent ys f.1)
