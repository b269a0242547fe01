-- Laws of pastes, by which every function of this crate that writes says what it leaves: `lib.Seq.paste t at s n` is t with its n
-- items from index `at` replaced by the first n of s. `lib.Seq` has more of them: `length-paste`, `take-paste`, `drop-paste`,
-- `paste-zero`, `paste-suc`. Laws of parts come first, and laws of the test whether two lists are the same last.
-- Assumes nothing.
use Rattle.std.specs.Prelude.{◌≡◌, refl, Bool, true, false, List, [], ◌∷◌, ◌++◌, ℕ, zero, suc, ◌+◌, ◌-◌, ◌≤◌, ◌<◌, eqb, length, get_or, set, take, drop}
use Rattle.std.proofs.Common.{sym, ap, ap₂, ◌∙◌, append_assoc, zero-add, suc-add, add_assoc, add-one, arith, eqb-true, eq-eqb, length-set, length-append, length-drop, take-append-drop}
use lib.Seq.{paste, take-paste, drop-paste, take-nil, take-take, take_all, drop-append-le, drop-drop, get_or-take, get_or-drop, take-add, take_at, drop_at, length-take-le, append_snoc, set_split}
use Rattle.base.specs.Logic.{overlay, eqb_list}
use Rattle.base.specs.Laws.{and_left, and_right}

module _ {A : Type 0} where
  -- ---- parts

  -- a part lies in any front that reaches its end
  pub part-front : (k i m : ℕ) (l : List A) → i + k ≤ m → take k (drop i (take m l)) ≡ take k (drop i l)
  part-front k zero m l h = take-take k m l (omega arith)
  part-front k (suc i) zero l h = absurd (omega arith)
  part-front k (suc i) (suc m) [] h = refl
  part-front k (suc i) (suc m) (x ∷ xs) h = part-front k i m xs (omega arith)

  -- a part in two
  pub part-split : (s : List A) (at j k : ℕ) → take (j + k) (drop at s) ≡ take j (drop at s) ++ take k (drop (at + j) s)
  part-split s at j k = rw (take-add j k (drop at s), drop-drop j at s)

  pub length_part : (s : List A) (at k : ℕ) → at + k ≤ length s → length (take k (drop at s)) ≡ k
  length_part s at k h = length-take-le k (drop at s) (simp length-drop (omega arith))

  -- the rest of a front is the front of the rest
  pub drop-take : (i k : ℕ) (l : List A) → drop i (take (i + k) l) ≡ take k (drop i l)
  drop-take zero k l = rw (zero-add k)
  drop-take (suc i) k [] = rw (suc-add i k) (sym (take-nil k))
  drop-take (suc i) k (x ∷ xs) = rw (suc-add i k) (drop-take i k xs)

  -- lists with the same first m have the same first k, for any k that is no more
  pub take_same : (a b : List A) (m k : ℕ) → take m a ≡ take m b → k ≤ m → take k a ≡ take k b
  take_same a b m k e h = sym (take-take k m a h) ∙ ap (λ (l : List A). take k l) e ∙ take-take k m b h

  -- lists that are the same from m on are the same from any later index on
  pub drop-same : (a b : List A) (m i : ℕ) → drop m a ≡ drop m b → m ≤ i → drop i a ≡ drop i b
  drop-same a b m i e h =
      let q : m + (i - m) ≡ i = omega arith in
      rw (← q, ← drop-drop (i - m) m a, ← drop-drop (i - m) m b, e)

  -- lists that are the same from i on have the same item at i
  pub get_or-same : (a b : List A) (i : ℕ) (d : A) → drop i a ≡ drop i b → get_or a i d ≡ get_or b i d
  get_or-same a b i d e =
      let q : i + 0 ≡ i = omega arith in
      rw (q) at (sym (get_or-drop i a 0 d) ∙ ap (λ (l : List A). get_or l 0 d) e ∙ get_or-drop i b 0 d)

  -- ---- what stands where after a paste

  -- what is before the place, what was pasted, what is after
  pub paste-right : (t : List A) (at : ℕ) (s : List A) (n : ℕ) → paste t at s n ≡ take at t ++ (take n s ++ drop (at + n) t)
  paste-right t at s n = append_assoc (take at t) (take n s) (drop (at + n) t)

  module _ (t : List A) (at : ℕ) (s : List A) (n : ℕ) (fits : at ≤ length t) (enough : n ≤ length s) where
    pub take-paste-before : (k : ℕ) → k ≤ at → take k (paste t at s n) ≡ take k t
    take-paste-before k h =
        take_same (paste t at s n) t at k (rw (paste-right t at s n) (take_at (take at t) (take n s ++ drop (at + n) t) at (length-take-le at t fits))) h

    pub drop-paste-at : drop at (paste t at s n) ≡ take n s ++ drop (at + n) t
    drop-paste-at = rw (paste-right t at s n) (drop_at (take at t) (take n s ++ drop (at + n) t) at (length-take-le at t fits))

    pub drop-paste-after : (i : ℕ) → at + n ≤ i → drop i (paste t at s n) ≡ drop i t
    drop-paste-after i h = drop-same (paste t at s n) t (at + n) i (drop-paste t at s n fits enough) h

    -- the part at the place, one before it and one after it
    pub part-paste : take n (drop at (paste t at s n)) ≡ take n s
    part-paste = ap (λ (l : List A). take n l) drop-paste-at ∙ take_at (take n s) (drop (at + n) t) n (length-take-le n s enough)

    pub part-paste-before : (k i : ℕ) → i + k ≤ at → take k (drop i (paste t at s n)) ≡ take k (drop i t)
    part-paste-before k i h =
        sym (part-front k i at (paste t at s n) h)
        ∙ ap (λ (l : List A). take k (drop i l)) (take-paste-before at (omega arith))
        ∙ part-front k i at t h

    pub part-paste-after : (k i : ℕ) → at + n ≤ i → take k (drop i (paste t at s n)) ≡ take k (drop i t)
    part-paste-after k i h = ap (λ (l : List A). take k l) (drop-paste-after i h)

    -- the item at an index before the place, in it and after it
    pub get_or-paste-before : (i : ℕ) (d : A) → i < at → get_or (paste t at s n) i d ≡ get_or t i d
    get_or-paste-before i d h =
        sym (get_or-take at (paste t at s n) i d h) ∙ ap (λ (l : List A). get_or l i d) (take-paste-before at (omega arith)) ∙ get_or-take at t i d h

    pub get_or-paste-inside : (i : ℕ) (d : A) → i < n → get_or (paste t at s n) (at + i) d ≡ get_or s i d
    get_or-paste-inside i d h =
        sym (get_or-drop at (paste t at s n) i d)
        ∙ sym (get_or-take n (drop at (paste t at s n)) i d h)
        ∙ ap (λ (l : List A). get_or l i d) part-paste
        ∙ get_or-take n s i d h

    pub get_or-paste-after : (i : ℕ) (d : A) → at + n ≤ i → get_or (paste t at s n) i d ≡ get_or t i d
    get_or-paste-after i d h = get_or-same (paste t at s n) t i d (drop-paste-after i h)

  -- ---- several pastes, and what else is a paste

  -- only the first n count
  pub paste-take : (t : List A) (at : ℕ) (s : List A) (n : ℕ) → paste t at (take n s) n ≡ paste t at s n
  paste-take t at s n = rw (take-take n n s (omega arith))

  -- two pastes side by side are one, whichever comes first
  module _ (t : List A) (at : ℕ) (x y : List A) (m n : ℕ) (p : length x ≡ m) (q : length y ≡ n) where
    whole : take m x ++ take n y ≡ take (m + n) (x ++ y)
    whole = rw (take_all m x (omega arith), take_all n y (omega arith), take_all (m + n) (x ++ y) (simp length-append (omega arith)))

    pub paste-append : at ≤ length t → paste (paste t at x m) (at + m) y n ≡ paste t at (x ++ y) (m + n)
    paste-append h =
        let k : m ≤ length x = omega arith in
        rw (
          take-paste t at x m h k,
          drop-paste-after t at x m h k (at + m + n) (omega arith),
          append_assoc (take at t) (take m x) (take n y),
          whole,
          add_assoc at m n,
        )

    pub paste-prepend : at + m ≤ length t → paste (paste t (at + m) y n) at x m ≡ paste t at (x ++ y) (m + n)
    paste-prepend h =
        let k : n ≤ length y = omega arith in
        rw (
          take-paste-before t (at + m) y n h k at (omega arith),
          drop-paste-at t (at + m) y n h k,
          ← append_assoc (take at t ++ take m x) (take n y) (drop (at + m + n) t),
          append_assoc (take at t) (take m x) (take n y),
          whole,
          add_assoc at m n,
        )

  -- pastes to places apart, in either order
  pub paste-comm : (t : List A) (at : ℕ) (x : List A) (m to : ℕ) (y : List A) (n : ℕ) → at + m ≤ to → to ≤ length t → m ≤ length x → n ≤ length y
      → paste (paste t at x m) to y n ≡ paste (paste t to y n) at x m
  paste-comm t at x m to y n h k p q =
      let g : ℕ = to - (at + m) in
      let e : to ≡ at + m + g = omega arith in
      let f : at ≤ length t = omega arith in
      let gap : List A = take g (drop (at + m) t) in
      let first : take to (paste t at x m) ≡ take at t ++ take m x ++ gap =
      ap (λ (i : ℕ). take i (paste t at x m)) e
      ∙ take-add (at + m) g (paste t at x m)
      ∙ ap₂ (λ (u v : List A). u ++ take g v) (take-paste t at x m f p) (drop-paste t at x m f p) in
      let last : drop (at + m) (paste t to y n) ≡ gap ++ (take n y ++ drop (to + n) t) =
      ap (λ (l : List A). drop (at + m) l) (paste-right t to y n)
      ∙ drop-append-le (at + m) (take to t) (take n y ++ drop (to + n) t) (rw (length-take-le to t k) h)
      ∙ ap (λ (l : List A). l ++ (take n y ++ drop (to + n) t)) (ap (λ (i : ℕ). drop (at + m) (take i t)) e ∙ drop-take (at + m) g t) in
      rw (first, drop-paste-after t at x m f p (to + n) (omega arith), take-paste-before t to y n k q at (omega arith), last) (simp append_assoc)

  -- a second paste to the same place leaves nothing of the first
  pub paste-over : (t : List A) (at : ℕ) (x y : List A) (n : ℕ) → at ≤ length t → n ≤ length x
      → paste (paste t at x n) at y n ≡ paste t at y n
  paste-over t at x y n h k = rw (take-paste-before t at x n h k at (omega arith), drop-paste t at x n h k)

  -- a paste at the start is an overlay
  pub paste-start : (t s : List A) (n : ℕ) → length s ≡ n → paste t 0 s n ≡ overlay s t
  unfolding overlay
  paste-start t s n e = rw (zero-add n, take_all n s (omega arith), e)

  -- what stands at a place, pasted there, changes nothing
  pub paste-same : (t : List A) (at n : ℕ) → paste t at (drop at t) n ≡ t
  paste-same t at n = rw (← take-add at n t) (take-append-drop (at + n) t)

  -- a store is a paste of one
  pub paste-one : (t : List A) (at : ℕ) (x : A) → at < length t → paste t at (x ∷ []) 1 ≡ set t at x
  paste-one t at x h = rw (add-one at, append_snoc (take at t) x (drop (suc at) t)) (sym (set_split t at x h))

  -- two stores side by side are a paste of two
  pub paste-two : (t : List A) (at : ℕ) (x y : A) → at + 2 ≤ length t → set (set t at x) (at + 1) y ≡ paste t at (x ∷ y ∷ []) 2
  paste-two t at x y h =
      let p : at < length t = omega arith in
      let q : at + 1 < length (set t at x) = rw (length-set t at x) (omega arith) in
      sym (paste-one (set t at x) (at + 1) y q)
      ∙ ap (λ (l : List A). paste l (at + 1) (y ∷ []) 1) (sym (paste-one t at x p))
      ∙ paste-append t at (x ∷ []) (y ∷ []) 1 1 refl refl (omega arith)

  -- a part that is lent from a to e, and a copy of it
  pub part-lent : (s : List A) (a e n : ℕ) → e ≡ a + n → take (e - a) (drop a s) ≡ take n (drop a s)
  part-lent s a e n h =
      let q : e - a ≡ n = omega arith in
      rw q

  pub paste-part : (t : List A) (at : ℕ) (s : List A) (a e n : ℕ) → e ≡ a + n → e ≤ length s
      → paste t at (take (e - a) (drop a s)) (length (take (e - a) (drop a s))) ≡ paste t at (drop a s) n
  paste-part t at s a e n h k =
      rw (part-lent s a e n h, length_part s a n (omega arith)) (paste-take t at (drop a s) n)

  -- a part that was lent, and came back as s
  pub paste-lent : (t : List A) (at : ℕ) (s : List A) (n : ℕ) → length s ≡ n → take at t ++ (s ++ drop n (drop at t)) ≡ paste t at s n
  paste-lent t at s n e = rw (drop-drop n at t, take_all n s (omega arith)) (sym (append_assoc (take at t) s (drop (at + n) t)))

-- ---- the test whether two lists are the same

pub eqb_list-true : (xs ys : List ℕ) → eqb_list xs ys ≡ true → xs ≡ ys
unfolding eqb_list
eqb_list-true [] [] e = refl
eqb_list-true [] (y ∷ ys) e = let z : ◌≡◌ {A = ℕ} 0 1 = cc in absurd (omega arith)
eqb_list-true (x ∷ xs) [] e = let z : ◌≡◌ {A = ℕ} 0 1 = cc in absurd (omega arith)
eqb_list-true (x ∷ xs) (y ∷ ys) e =
    ap₂ (λ (z : ℕ) (zs : List ℕ). z ∷ zs) (eqb-true x y (and_left (eqb x y) (eqb_list xs ys) e)) (eqb_list-true xs ys (and_right (eqb x y) (eqb_list xs ys) e))

pub eqb_list-refl : (xs : List ℕ) → eqb_list xs xs ≡ true
unfolding eqb_list
eqb_list-refl [] = refl
eqb_list-refl (x ∷ xs) = rw (eq-eqb x x refl) (eqb_list-refl xs)

pub eqb_list-false : (xs ys : List ℕ) → eqb_list xs ys ≡ false → xs ≡ ys → ⊥
eqb_list-false xs ys e p =
    let z : ◌≡◌ {A = ℕ} 0 1 = cc (eqb_list-refl xs) in
    omega arith

pub eqb_list-other : (xs ys : List ℕ) → (xs ≡ ys → ⊥) → eqb_list xs ys ≡ false
eqb_list-other xs ys h = differs (eqb_list xs ys) (λ e. h (eqb_list-true xs ys e))
  where
    differs : (b : Bool) → (b ≡ true → ⊥) → b ≡ false
    differs true f = absurd (f refl)
    differs false f = refl

pub eqb_list-lengths : (xs ys : List ℕ) → (length xs ≡ length ys → ⊥) → eqb_list xs ys ≡ false
eqb_list-lengths xs ys h = eqb_list-other xs ys (λ e. h (ap length e))
