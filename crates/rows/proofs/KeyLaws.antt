-- Laws of the place of a key among keys in order, and of rows put there.
-- Assumes nothing.
use Rattle.std.specs.Prelude.{◌≡◌, true, false, leb, ltb, length, take, drop, get_or}
use Rattle.std.proofs.Math.Path.{refl, ap}
use Rattle.std.proofs.Common.{◌∙◌, zero-mul, arith, drop-drop, get_or-drop}
use mathlib.Core.List.{List, [], ◌∷◌, ◌++◌, map}
use Prim.Native.Nat.{ℕ, zero, suc, ◌+◌, ◌*◌, ◌≤◌, ◌<◌, zero-le, suc-le-suc}
use Rattle.std.proofs.Math.Nat.{suc-mul}
use Rattle.std.proofs.Math.Decide.{dec_le}
use borrow.Author.Tests.{le-ltb, lt-ltb, le-leb, lt-leb}
use Rattle.base.specs.Logic.{keep, ascending_from, sorted_from}
use Rattle.base.specs.Laws.{sorted_head, sorted_tail, ascending-head, ascending-tail}
use Rattle.rows.specs.Table.{Coding, rows_of}
use Rattle.rows.specs.Keys.{keys, first_word, place}

-- ---- the place
pub place-lt : (i k : ℕ) (ks : List ℕ) → k < i → place i (k ∷ ks) ≡ suc (place i ks)
unfolding place
place-lt i k ks h = rw (lt-ltb k i h)

pub place-ge : (i k : ℕ) (ks : List ℕ) → i ≤ k → place i (k ∷ ks) ≡ 0
unfolding place
place-ge i k ks h = rw (le-ltb k i h)

pub place-le : (i : ℕ) (ks : List ℕ) → place i ks ≤ length ks
unfolding place
place-le i [] = zero-le
place-le i (k ∷ ks) =
    elim (dec_le i k) [
      | yes h ↦ rw (le-ltb k i h) zero-le
      | no h ↦ rw (lt-ltb k i (omega arith)) (suc-le-suc (place-le i ks))
    ]

pub place_mono : (i j : ℕ) (ks : List ℕ) → i ≤ j → place i ks ≤ place j ks
unfolding place
place_mono i j [] h = zero-le
place_mono i j (k ∷ ks) h =
    elim (dec_le i k) [
      | yes g ↦ rw (le-ltb k i g) zero-le
      | no g ↦ rw (lt-ltb k i (omega arith), lt-ltb k j (omega arith)) (suc-le-suc (place_mono i j ks h))
    ]

-- a key that is not below i stands at the place or past it
pub place_down : (i : ℕ) (ks : List ℕ) (j : ℕ) → j < length ks → i ≤ get_or ks j 0 → place i ks ≤ j
unfolding place
place_down i [] j l h = absurd (omega arith)
place_down i (k ∷ ks) zero l h = rw (le-ltb k i h) zero-le
place_down i (k ∷ ks) (suc j) l h =
    elim (dec_le i k) [
      | yes g ↦ rw (le-ltb k i g) zero-le
      | no g ↦ rw (lt-ltb k i (omega arith)) (suc-le-suc (place_down i ks j (omega arith) h))
    ]

-- every key in order is at least the bound
pub sorted-over : (lo : ℕ) (ks : List ℕ) (j : ℕ) → sorted_from lo ks ≡ true → j < length ks → lo ≤ get_or ks j 0
sorted-over lo [] j o l = absurd (omega arith)
sorted-over lo (k ∷ ks) zero o l = sorted_head lo k ks o
sorted-over lo (k ∷ ks) (suc j) o l =
    omega (arith, sorted_head lo k ks o, sorted-over k ks j (sorted_tail lo k ks o) (omega arith))

-- in keys in order, a key that is below i stands before the place
pub place_up : (i lo : ℕ) (ks : List ℕ) (j : ℕ) → sorted_from lo ks ≡ true → j < length ks → get_or ks j 0 < i → j < place i ks
place_up i lo [] j o l h = absurd (omega arith)
place_up i lo (k ∷ ks) zero o l h = rw (place-lt i k ks h) (suc-le-suc zero-le)
place_up i lo (k ∷ ks) (suc j) o l h =
    let r = sorted_tail lo k ks o in
    let g : k < i = omega (arith, sorted-over k ks j r (omega arith)) in
    rw (place-lt i k ks g) (suc-le-suc (place_up i k ks j r (omega arith) h))

-- the place is where the keys stop being below i
pub place_at : (i : ℕ) (ks : List ℕ) → place i ks < length ks → i ≤ get_or ks (place i ks) 0
unfolding place
place_at i [] l = absurd (omega arith)
place_at i (k ∷ ks) l =
    elim (dec_le i k) [
      | yes h ↦ rw (le-ltb k i h) h
      | no h ↦ let g : k < i = omega arith in rw (lt-ltb k i g) (place_at i ks (omega (arith, place-lt i k ks g)))
    ]

-- a later key of ascending keys is greater
ascending-later : (lo : ℕ) (ks : List ℕ) (j : ℕ) → ascending_from lo ks ≡ true → suc j < length ks → get_or ks j 0 < get_or ks (suc j) 0
ascending-later lo [] j o l = absurd (omega arith)
ascending-later lo (k ∷ []) zero o l = absurd (omega arith)
ascending-later lo (k ∷ x ∷ ks) zero o l = ascending-head (suc k) x ks (ascending-tail lo k (x ∷ ks) o)
ascending-later lo (k ∷ ks) (suc j) o l = ascending-later (suc k) ks j (ascending-tail lo k ks o) (omega arith)

-- the place behind i: one further where i is a key, and the same where it is none
module _ (i : ℕ) (ks : List ℕ) (k : ℕ) (here : k ≡ place i ks) where
  pub behind-hit : ascending_from 0 ks ≡ true → sorted_from 0 ks ≡ true → k < length ks → get_or ks k 0 ≡ i → place (suc i) ks ≡ suc k
  behind-hit a o l e =
      let up : k < place (suc i) ks = place_up (suc i) 0 ks k o l (omega arith) in
      let down : place (suc i) ks ≤ suc k =
      elim (dec_le (length ks) (suc k)) [
        | yes g ↦ omega (arith, place-le (suc i) ks)
        | no g ↦ place_down (suc i) ks (suc k) (omega arith) (omega (arith, ascending-later 0 ks k a (omega arith)))
      ] in
      omega arith

  pub behind-end : length ks ≤ k → place (suc i) ks ≡ k
  behind-end l = omega (arith, place-le (suc i) ks, place_mono i (suc i) ks (omega arith))

  pub behind-miss : k < length ks → (get_or ks k 0 ≡ i → ⊥) → place (suc i) ks ≡ k
  behind-miss l e =
      let g : i ≤ get_or ks k 0 = rw here (place_at i ks (omega arith)) in
      omega (arith, place_down (suc i) ks k l (omega (arith, e)), place_mono i (suc i) ks (omega arith))

-- ---- a test of neighbour after neighbour: the keys ascend exactly where those from key i on do
pub ascend-start : (ks : List ℕ) → ascending_from 0 ks ≡ ascending_from (get_or ks 0 0) (drop 0 ks)
unfolding ascending_from
ascend-start [] = refl
ascend-start (k ∷ ks) = rw (le-leb 0 k (omega arith), le-leb k k (omega arith))

pub ascend-next : (ks : List ℕ) (i : ℕ) → suc i < length ks → get_or ks i 0 < get_or ks (suc i) 0
    → ascending_from (get_or ks i 0) (drop i ks) ≡ ascending_from (get_or ks (suc i) 0) (drop (suc i) ks)
unfolding ascending_from
ascend-next [] i l h = absurd (omega arith)
ascend-next (k ∷ []) zero l h = absurd (omega arith)
ascend-next (k ∷ x ∷ ks) zero l h = rw (le-leb k k (omega arith), le-leb (suc k) x h, le-leb x x (omega arith))
ascend-next (k ∷ ks) (suc i) l h = ascend-next ks i (omega arith) h

pub ascend-not : (ks : List ℕ) (i : ℕ) → suc i < length ks → get_or ks (suc i) 0 ≤ get_or ks i 0
    → ascending_from (get_or ks i 0) (drop i ks) ≡ false
unfolding ascending_from
ascend-not [] i l h = absurd (omega arith)
ascend-not (k ∷ []) zero l h = absurd (omega arith)
ascend-not (k ∷ x ∷ ks) zero l h = rw (le-leb k k (omega arith), lt-leb (suc k) x (omega arith))
ascend-not (k ∷ ks) (suc i) l h = ascend-not ks i (omega arith) h

pub ascend-end : (ks : List ℕ) (i : ℕ) → length ks ≤ suc i → ascending_from (get_or ks i 0) (drop i ks) ≡ true
unfolding ascending_from
ascend-end [] zero h = refl
ascend-end [] (suc i) h = refl
ascend-end (k ∷ []) zero h = rw (le-leb k k (omega arith))
ascend-end (k ∷ x ∷ ks) zero h = absurd (omega arith)
ascend-end (k ∷ ks) (suc i) h = ascend-end ks i (omega arith)

-- ---- the keys of a table
module _ (key : List ℕ → ℕ) (w : ℕ) where
  pub length-keys : (n : ℕ) (t : List ℕ) → length (keys key w n t) ≡ n
  unfolding keys
  length-keys zero t = refl
  length-keys (suc n) t = ap suc (length-keys n (drop w t))

  pub key-at : (n : ℕ) (t : List ℕ) (k : ℕ) → k < n → get_or (keys key w n t) k 0 ≡ key (drop (k * w) t)
  unfolding keys
  key-at zero t k h = absurd (omega arith)
  key-at (suc n) t zero h = rw (zero-mul w)
  key-at (suc n) t (suc k) h =
      let q : w + k * w ≡ suc k * w = omega (arith, suc-mul k w) in
      key-at n (drop w t) k (omega arith) ∙ rw (drop-drop (k * w) w t, q)

-- the first word of row k
pub word_at : (w n : ℕ) (t : List ℕ) (k : ℕ) → k < n → get_or (keys first_word w n t) k 0 ≡ get_or t (k * w) 0
word_at w n t k h = key-at first_word w n t k h ∙ get_or-drop (k * w) t 0 0 ∙ ap (λ (i : ℕ). get_or t i 0) (omega arith)

-- they are the keys of its rows
pub keys-rows_of : {E : Type 0} (c : Coding E) (key : E → ℕ) (word : List ℕ → ℕ) → ((t : List ℕ) → key (c.dec t) ≡ word t)
    → (n : ℕ) (t : List ℕ) → map key (rows_of c n t) ≡ keys word c.width n t
unfolding rows_of keys
keys-rows_of c key word same zero t = refl
keys-rows_of c key word same (suc n) t = rw (same t, keys-rows_of c key word same n (drop c.width t))

-- ---- rows put in their place
-- other rows between those with keys below lo and those with keys from hi on: what the laws speak of, for any key
unfoldable pub put_rows : {E : Type 0} → (E → ℕ) → ℕ → ℕ → List E → List E → List E
put_rows key lo hi new es = keep (λ e. ltb (key e) lo) es ++ (new ++ keep (λ e. leb hi (key e)) es)

module _ {E : Type 0} (key : E → ℕ) where
  keep-none-below : (i lo : ℕ) (es : List E) → sorted_from lo (map key es) ≡ true → i ≤ lo → keep (λ e. ltb (key e) i) es ≡ []
  unfolding keep
  keep-none-below i lo [] o h = refl
  keep-none-below i lo (e ∷ es) o h =
      let l = sorted_head lo (key e) (map key es) o in
      rw (le-ltb (key e) i (omega arith)) (keep-none-below i (key e) es (sorted_tail lo (key e) (map key es) o) (omega arith))

  keep-all-from : (i lo : ℕ) (es : List E) → sorted_from lo (map key es) ≡ true → i ≤ lo → keep (λ e. leb i (key e)) es ≡ es
  unfolding keep
  keep-all-from i lo [] o h = refl
  keep-all-from i lo (e ∷ es) o h =
      let l = sorted_head lo (key e) (map key es) o in
      rw (le-leb i (key e) (omega arith)) (ap (λ (x : List E). e ∷ x) (keep-all-from i (key e) es (sorted_tail lo (key e) (map key es) o) (omega arith)))

  -- of rows in order, those below a key are the ones before its place, and the others those from it on
  pub keep-below : (i lo : ℕ) (es : List E) → sorted_from lo (map key es) ≡ true → keep (λ e. ltb (key e) i) es ≡ take (place i (map key es)) es
  unfolding keep place
  keep-below i lo [] o = refl
  keep-below i lo (e ∷ es) o =
      let r = sorted_tail lo (key e) (map key es) o in
      elim (dec_le i (key e)) [
        | yes h ↦ rw (le-ltb (key e) i h) (keep-none-below i (key e) es r h)
        | no h ↦ rw (lt-ltb (key e) i (omega arith)) (ap (λ (x : List E). e ∷ x) (keep-below i (key e) es r))
      ]

  pub keep-from : (i lo : ℕ) (es : List E) → sorted_from lo (map key es) ≡ true → keep (λ e. leb i (key e)) es ≡ drop (place i (map key es)) es
  unfolding keep place
  keep-from i lo [] o = refl
  keep-from i lo (e ∷ es) o =
      let r = sorted_tail lo (key e) (map key es) o in
      elim (dec_le i (key e)) [
        | yes h ↦ rw (le-leb i (key e) h, le-ltb (key e) i h) (ap (λ (x : List E). e ∷ x) (keep-all-from i (key e) es r h))
        | no h ↦ rw (lt-leb i (key e) (omega arith), lt-ltb (key e) i (omega arith)) (keep-from i (key e) es r)
      ]

  -- rows put into rows in order stand between two places
  pub put_rows-places : (lo hi : ℕ) (new es : List E) → sorted_from 0 (map key es) ≡ true
      → put_rows key lo hi new es ≡ take (place lo (map key es)) es ++ (new ++ drop (place hi (map key es)) es)
  unfolding put_rows
  put_rows-places lo hi new es o = rw (keep-below lo 0 es o, keep-from hi 0 es o)
