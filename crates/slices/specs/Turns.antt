-- A turn of a loop over a slice and its end, over lists of any items.
-- Assumes nothing.
use Rattle.std.specs.Prelude.{◌≡◌, refl, Bool, ◌&&◌, List, [], ◌∷◌, ◌++◌, ℕ, zero, suc, ◌+◌, ◌-◌, ◌≤◌, ◌<◌, eqb, length, get_or, set, take, drop, replicate}
use Rattle.std.proofs.Common.{sym, ap, ◌∙◌, append_assoc, add-suc, add-one, arith, length-drop, drop_of_length-le, take-suc, drop-cons, get_or-drop}
use Rattle.std.proofs.Math.Bool.{and_assoc, and-true}
use Rattle.std.proofs.Math.Dec.{eqb-zero-suc, eqb-suc-zero, eqb-suc-suc}
use Rattle.std.proofs.lemmas.List.{length-replicate, get_or-replicate}
use Rattle.std.proofs.Math.Seq.{paste, paste-suc, append_snoc}
use Rattle.base.specs.Logic.{all, all_zero, eqb_list}
use Rattle.slices.specs.Laws.{take-paste-before, drop-paste-at, part-paste-before, get_or-paste-after, paste-one}

-- equality of numbers, as the code tests it and as `all_zero` does
eqb_comm : (a b : ℕ) → eqb a b ≡ eqb b a
eqb_comm zero zero = refl
eqb_comm zero (suc b) = eqb-zero-suc b ∙ sym (eqb-suc-zero b)
eqb_comm (suc a) zero = eqb-suc-zero a ∙ sym (eqb-zero-suc a)
eqb_comm (suc a) (suc b) = eqb-suc-suc a b ∙ eqb_comm a b ∙ sym (eqb-suc-suc b a)

module _ {A : Type 0} where
  -- ---- from the first item to the last: so far j items of s are pasted

  pub copy-turn : (t₀ t : List A) (at : ℕ) (s : List A) (j : ℕ) (v d : A) → t ≡ paste t₀ at s j → v ≡ get_or s j d → at + j < length t₀ → j < length s
      → set t (at + j) v ≡ paste t₀ at s (j + 1)
  copy-turn t₀ t at s j v d e f h k = rw (e, f, paste-suc t₀ at s j d h k, add-one j)

  -- a fill pastes one item again and again
  pub fill-turn : (t₀ t : List A) (at n : ℕ) (v : A) (j : ℕ) → t ≡ paste t₀ at (replicate n v) j → at + n ≤ length t₀ → j < n
      → set t (at + j) v ≡ paste t₀ at (replicate n v) (j + 1)
  fill-turn t₀ t at n v j e h k =
      copy-turn t₀ t at (replicate n v) j v v e (sym (get_or-replicate n j v v k)) (omega arith) (rw (length-replicate n v) k)

  -- a move down pastes items of the list itself, which it has not yet written over
  pub down_turn : (t₀ t : List A) (from to j : ℕ) (d : A) → t ≡ paste t₀ to (drop from t₀) j → to ≤ from → from + j < length t₀
      → set t (to + j) (get_or t (from + j) d) ≡ paste t₀ to (drop from t₀) (j + 1)
  down_turn t₀ t from to j d e h k =
      let m : j < length (drop from t₀) = simp length-drop (omega arith) in
      let v : get_or t (from + j) d ≡ get_or (drop from t₀) j d =
      ap (λ (l : List A). get_or l (from + j) d) e
      ∙ get_or-paste-after t₀ to (drop from t₀) j (omega arith) (omega arith) (from + j) d (omega arith)
      ∙ sym (get_or-drop from t₀ j d) in
      copy-turn t₀ t to (drop from t₀) j (get_or t (from + j) d) d e v (omega arith) m

  -- ---- from the last item to the first: what is left to move, moved, gives what is wanted

  -- the last of suc i items goes first
  up-last : (t : List A) (from to i : ℕ) (d : A) → from ≤ to → to + i < length t
      → paste (set t (to + i) (get_or t (from + i) d)) to (drop from (set t (to + i) (get_or t (from + i) d))) i ≡ paste t to (drop from t) (suc i)
  up-last t from to i d h k =
      let x : A = get_or t (from + i) d in
      let b : to + i ≤ length t = omega arith in
      let o : 1 ≤ length (x ∷ []) = omega arith in
      let m : i < length (drop from t) = simp length-drop (omega arith) in
      rw (
        ← paste-one t (to + i) x k,
        take-paste-before t (to + i) (x ∷ []) 1 b o to (omega arith),
        part-paste-before t (to + i) (x ∷ []) 1 b o i from (omega arith),
        drop-paste-at t (to + i) (x ∷ []) 1 b o,
        take-suc (drop from t) i d m,
        get_or-drop from t i d,
        add-one (to + i),
        add-suc to i,
        ← append_assoc (take to t) (take i (drop from t)) (x ∷ []),
        append_snoc (take to t ++ take i (drop from t)) x (drop (suc (to + i)) t),
      )

  pub up_turn : (t w : List A) (from to j : ℕ) (d : A) → paste t to (drop from t) j ≡ w → from ≤ to → 0 < j → to + j ≤ length t
      → paste (set t (to + (j - 1)) (get_or t (from + (j - 1)) d)) to (drop from (set t (to + (j - 1)) (get_or t (from + (j - 1)) d))) (j - 1) ≡ w
  up_turn t w from to j d e h p k =
      let q : suc (j - 1) ≡ j = omega arith in
      up-last t from to (j - 1) d h (omega arith) ∙ ap (λ (n : ℕ). paste t to (drop from t) n) q ∙ e

  -- ---- a test of every item: the answer so far and the test of what is left give the answer

  module _ (p : A → Bool) (b : Bool) (t : List A) (i : ℕ) {r : Bool} (e : (b && all p (drop i t)) ≡ r) where
    pub all-turn : (x : A) → x ≡ get_or t i x → i < length t → ((b && p x) && all p (drop (i + 1) t)) ≡ r
    unfolding all
    all-turn x f h = rw (add-one i, and_assoc b (p x) (all p (drop (suc i) t))) (rw (drop-cons t i x h, ← f) at e)

    pub all-end : length t ≤ i → b ≡ r
    unfolding all
    all-end h = sym (and-true b) ∙ (rw (drop_of_length-le t h) at e)

-- ---- the same of numbers

pub equal-turn : (s : Bool) (a b : List ℕ) (i : ℕ) {r : Bool} → (s && eqb_list (drop i a) (drop i b)) ≡ r → i < length a → i < length b
    → ((s && eqb (get_or a i 0) (get_or b i 0)) && eqb_list (drop (i + 1) a) (drop (i + 1) b)) ≡ r
unfolding eqb_list
equal-turn s a b i e h k =
    rw (add-one i, and_assoc s (eqb (get_or a i 0) (get_or b i 0)) (eqb_list (drop (suc i) a) (drop (suc i) b))) (rw (drop-cons a i 0 h, drop-cons b i 0 k) at e)

pub equal-end : (s : Bool) (a b : List ℕ) (i : ℕ) {r : Bool} → (s && eqb_list (drop i a) (drop i b)) ≡ r → length a ≤ i → length b ≤ i → s ≡ r
unfolding eqb_list
equal-end s a b i e h k = sym (and-true s) ∙ (rw (drop_of_length-le a h, drop_of_length-le b k) at e)

pub zero_turn : (z : Bool) (t : List ℕ) (i : ℕ) {r : Bool} → (z && all_zero (drop i t)) ≡ r → i < length t
    → ((z && eqb (get_or t i 0) 0) && all_zero (drop (i + 1) t)) ≡ r
unfolding all
zero_turn z t i e h =
    rw (add-one i, and_assoc z (eqb (get_or t i 0) 0) (all_zero (drop (suc i) t)), eqb_comm (get_or t i 0) 0) (rw (drop-cons t i 0 h) at e)

pub zero-end : (z : Bool) (t : List ℕ) (i : ℕ) {r : Bool} → (z && all_zero (drop i t)) ≡ r → length t ≤ i → z ≡ r
unfolding all
zero-end z t i e h = sym (and-true z) ∙ (rw (drop_of_length-le t h) at e)
