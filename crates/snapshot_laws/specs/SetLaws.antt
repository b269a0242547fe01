-- Counts set one after the other, for rows by ascending index: the count stored at each index after it.
-- Assumes nothing.
use Rattle.std.proofs.Math.Path.{◌≡◌, refl, sym}
use Rattle.std.proofs.Common.{◌∙◌, arith, le-leb, lt-ltb, leb-true, ltb-true, ltb-false, eqb-true, ne_eqb}
use Rattle.std.specs.Prelude.{Bool, ℕ, suc, ◌≤◌, ◌<◌, leb, ltb, eqb}
use Rattle.std.proofs.Math.Bool.{true, false}
use mathlib.Core.List.{List, [], ◌∷◌, map}
use Rattle.std.proofs.lemmas.Bool.{eqb-false}
use Rattle.base.specs.Logic.{pick, all, any, keep, fold, elem, ascending_from}
use Rattle.base.specs.Laws.{and_left, and_right, and_both, ascending-head, ascending-tail}
use Rattle.base.specs.ListLaws.{all_weaker, all_keep, ascending-keep, eqb-sym}
use Rattle.counters.specs.Counts.{Entry, stored_at, set_count}
use Rattle.counters.specs.Layout.{sound, ordered}
use Rattle.counters.proofs.CountLaws.{stored_here, stored_other, ordered-set_count, same-stored}

-- a row's index; and its count set at its index
abbrev pub index : Entry → ℕ
index e = e.idx

abbrev pub set_row : Entry → List Entry → List Entry
set_row e = set_count e.idx e.count

-- ---- what rows in order are
module _ (next : ℕ) (es : List Entry) (o : ordered next es ≡ true) where
  pub ascends : ascending_from 0 (map index es) ≡ true
  unfolding ordered
  ascends = and_left (ascending_from 0 (map index es)) (all (sound next) es) o

  pub sounds : all (sound next) es ≡ true
  unfolding ordered
  sounds = and_right (ascending_from 0 (map index es)) (all (sound next) es) o

  -- every index is below the next one, every count at least 2
  pub all-below : all (λ e. ltb e.idx next) es ≡ true
  all-below = all_weaker (λ e. ltb e.idx next) (sound next) (λ e s. and_left (ltb e.idx next) (leb 2 e.count) s) es sounds

  pub all_two : all (λ e. leb 2 e.count) es ≡ true
  all_two = all_weaker (λ e. leb 2 e.count) (sound next) (λ e s. and_right (ltb e.idx next) (leb 2 e.count) s) es sounds

  -- rows that are kept of them are in order
  pub ordered-keep : (p : Entry → Bool) → ordered next (keep p es) ≡ true
  unfolding ordered
  ordered-keep p =
      and_both (ascending_from 0 (map index (keep p es))) (all (sound next) (keep p es)) (ascending-keep index p 0 es ascends) (all_keep (sound next) p es sounds)

-- ---- looking an index up among ascending rows
-- nothing is stored below the bound that they start from
pub stored-before : (lo : ℕ) (es : List Entry) (j : ℕ) → ascending_from lo (map index es) ≡ true → j < lo → stored_at j es ≡ 0
unfolding stored_at
stored-before lo [] j a h = refl
stored-before lo (e ∷ es) j a h =
    let l = ascending-head lo e.idx (map index es) a in
    rw (ne_eqb e.idx j (omega arith)) (stored-before (suc e.idx) es j (ascending-tail lo e.idx (map index es) a) (omega arith))

module _ (p : ℕ → Bool) (j : ℕ) where
  -- among the rows whose count passes a test
  pub stored-keep : (lo : ℕ) (es : List Entry) → ascending_from lo (map index es) ≡ true
      → stored_at j (keep (λ e. p e.count) es) ≡ pick (p (stored_at j es)) (stored_at j es) 0
  unfolding stored_at keep
  stored-keep lo [] a = none (p 0)
    where
      none : (b : Bool) → ◌≡◌ {A = ℕ} 0 (pick b 0 0)
      none true = refl
      none false = refl
  stored-keep lo (e ∷ es) a = go (eqb e.idx j) (p e.count) refl refl (stored-keep (suc e.idx) es tail)
    where
      tail : ascending_from (suc e.idx) (map index es) ≡ true
      tail = ascending-tail lo e.idx (map index es) a

      rest : List Entry
      rest = keep (λ x. p x.count) es

      gone : eqb e.idx j ≡ true → stored_at j rest ≡ 0
      gone q = stored-before (suc e.idx) rest j (ascending-keep index (λ x. p x.count) (suc e.idx) es tail) (omega (arith, eqb-true e.idx j q))

      go : (c b : Bool) → eqb e.idx j ≡ c → p e.count ≡ b → stored_at j rest ≡ pick (p (stored_at j es)) (stored_at j es) 0
          → stored_at j (pick b (e ∷ rest) rest) ≡ pick (p (pick c e.count (stored_at j es))) (pick c e.count (stored_at j es)) 0
      go true true q t r = rw (q, t)
      go true false q t r = rw t (gone q)
      go false true q t r = rw q r
      go false false q t r = r

  -- an index is among those whose count passes a test exactly where its own count does
  pub elem-keep : p 0 ≡ false → (lo : ℕ) (es : List Entry) → ascending_from lo (map index es) ≡ true
      → elem j (map index (keep (λ e. p e.count) es)) ≡ p (stored_at j es)
  unfolding stored_at keep any
  elem-keep z lo [] a = sym z
  elem-keep z lo (e ∷ es) a = go (eqb e.idx j) (p e.count) refl refl (elem-keep z (suc e.idx) es tail)
    where
      tail : ascending_from (suc e.idx) (map index es) ≡ true
      tail = ascending-tail lo e.idx (map index es) a

      rest : List Entry
      rest = keep (λ x. p x.count) es

      none : eqb e.idx j ≡ true → stored_at j es ≡ 0
      none q = stored-before (suc e.idx) es j tail (omega (arith, eqb-true e.idx j q))

      go : (c b : Bool) → eqb e.idx j ≡ c → p e.count ≡ b → elem j (map index rest) ≡ p (stored_at j es)
          → elem j (map index (pick b (e ∷ rest) rest)) ≡ p (pick c e.count (stored_at j es))
      go true true q t r = rw (eqb-sym j e.idx, q, t)
      go true false q t r = rw t (r ∙ rw (none q) z)
      go false true q t r = rw (eqb-sym j e.idx, q) r
      go false false q t r = r

-- ---- rows set one after the other
-- each row's count stands at its index, elsewhere is what was there
pub stored-rows : (lo j : ℕ) (xs es : List Entry) → ascending_from lo (map index xs) ≡ true → all (λ e. leb 2 e.count) xs ≡ true
    → stored_at j (fold set_row xs es) ≡ pick (ltb 0 (stored_at j xs)) (stored_at j xs) (stored_at j es)
unfolding fold stored_at all
stored-rows lo j [] es a s = refl
stored-rows lo j (x ∷ xs) es a s =
    go (eqb x.idx j) refl (stored-rows (suc x.idx) j xs (set_row x es) tail (and_right (leb 2 x.count) (all (λ e. leb 2 e.count) xs) s))
  where
    tail : ascending_from (suc x.idx) (map index xs) ≡ true
    tail = ascending-tail lo x.idx (map index xs) a

    two : 2 ≤ x.count
    two = leb-true 2 x.count (and_left (leb 2 x.count) (all (λ e. leb 2 e.count) xs) s)

    after : ℕ
    after = stored_at j (fold set_row xs (set_row x es))

    go : (c : Bool) → eqb x.idx j ≡ c → after ≡ pick (ltb 0 (stored_at j xs)) (stored_at j xs) (stored_at j (set_row x es))
        → after ≡ pick (ltb 0 (pick c x.count (stored_at j xs))) (pick c x.count (stored_at j xs)) (stored_at j es)
    go true q r =
        let i = eqb-true x.idx j q in
        let none : stored_at j xs ≡ 0 = stored-before (suc x.idx) xs j tail (omega arith) in
        let here : stored_at j (set_row x es) ≡ x.count = rw (← i, stored_here x.idx x.count es, le-leb 2 x.count two) in
        rw (lt-ltb 0 x.count (omega (arith, two))) (r ∙ rw none here)
    go false q r =
        let other = stored_other x.idx x.count es j (λ e. eqb-false x.idx j q (sym e)) in
        r ∙ rw other

-- they stay in order
pub ordered-rows : (next : ℕ) (xs es : List Entry) → all (λ e. ltb e.idx next) xs ≡ true → ordered next es ≡ true → ordered next (fold set_row xs es) ≡ true
unfolding fold all
ordered-rows next [] es b o = o
ordered-rows next (x ∷ xs) es b o =
    let rest : List Entry → Bool = all (λ e. ltb e.idx next) in
    ordered-rows next xs (set_row x es) (and_right (ltb x.idx next) (rest xs) b)
    (ordered-set_count next es o x.idx x.count (ltb-true x.idx next (and_left (ltb x.idx next) (rest xs) b)))

pub ordered-none : (next : ℕ) → ordered next [] ≡ true
unfolding ordered ascending_from all
ordered-none next = refl

-- rows in order that are set one after the other, with none there before, are those rows
pub rows-again : (next : ℕ) (xs : List Entry) → ordered next xs ≡ true → fold set_row xs [] ≡ xs
unfolding stored_at
rows-again next xs o =
    same-stored next (fold set_row xs []) xs (ordered-rows next xs [] (all-below next xs o) (ordered-none next)) o
    (λ j. stored-rows 0 j xs [] (ascends next xs o) (all_two next xs o) ∙ go j (ltb 0 (stored_at j xs)) refl)
  where
    go : (j : ℕ) (b : Bool) → ltb 0 (stored_at j xs) ≡ b → pick b (stored_at j xs) 0 ≡ stored_at j xs
    go j true q = refl
    go j false q = omega (arith, ltb-false 0 (stored_at j xs) q)
