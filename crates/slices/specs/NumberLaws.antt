-- Laws of numbers in bytes: of digits to any base end to end, and of the parts of a list that are read and written as numbers.
-- Assumes nothing.
use Rattle.std.specs.Prelude.{◌≡◌, refl, true, List, [], ◌∷◌, ◌++◌, reverse, ℕ, zero, suc, ◌+◌, ◌*◌, ◌/◌, ◌%◌, ◌^◌, ◌≤◌, ◌<◌, ltb, length, get_or, set, take, drop}
use Rattle.std.proofs.Common.{sym, ap, ap₂, ◌∙◌, zero-add, suc-add, pow-suc, div-one, mod-lt, add-one, arith, lt-ltb, le-leb, length-drop, take_all, get_or-take, get_or-drop, drop-drop, drop-cons}
use Rattle.std.proofs.Math.Option.{none, some}
use Rattle.std.proofs.lemmas.List.{reverse-append, reverse-reverse, length-reverse}
use Rattle.std.proofs.Math.Nat.{pow-zero, pow-succ', div-div-eq-div-mul, one-le-pow}
use Rattle.std.proofs.lemmas.Bool.{lt-leb}
use Rattle.std.proofs.Math.Arith.{mod-mul, digits_div, digits_mod}
use Rattle.std.proofs.Math.Seq.{paste}
use Rattle.base.specs.Logic.{all}
use Rattle.base.specs.Bytes.{digits, number, unle, unbe, be, cut, read_le}
use Rattle.base.specs.Laws.{and_both, length_digits, number_digits, digits_number}
use Rattle.base.specs.NumberLaws.{number_append}
use Rattle.slices.specs.Laws.{part-split, length_part, part-paste, paste-append, paste-two}

-- ---- digits end to end

pub digits_append : (b j k n : ℕ) → digits b (j + k) n ≡ digits b j n ++ digits b k (n / b ^ j)
unfolding digits
digits_append b zero k n = rw (zero-add k, pow-zero b, div-one n)
digits_append b (suc j) k n = rw (suc-add j k, digits_append b j k (n / b), div-div-eq-div-mul n b (b ^ j), pow-succ' b j)

-- the lowest j digits, of the number and of what is left of it
pub digits_low : (b j n : ℕ) → 0 < b → digits b j (n % b ^ j) ≡ digits b j n
unfolding digits
digits_low b zero n p = refl
digits_low b (suc j) n p =
    let e : n % b ^ suc j ≡ (n / b % b ^ j) * b + n % b = rw (pow-suc b j) (mod-mul n (one-le-pow j b p) p) in
    let h : n % b < b = mod-lt n p in
    rw (e, digits_mod (n / b % b ^ j) h, digits_div (n / b % b ^ j) h, digits_low b j (n / b) p)

-- the same of bytes with the highest first
pub length-be : (k n : ℕ) → length (be k n) ≡ k
length-be k n = length-reverse (digits 256 k n) ∙ length_digits 256 k n

pub be-append : (j k n : ℕ) → be (j + k) n ≡ be k (n / 256 ^ j) ++ be j n
be-append j k n = rw (digits_append 256 j k n) (reverse-append (digits 256 j n) (digits 256 k (n / 256 ^ j)))

-- as many digits that spell the same number are the same
pub number_same : (b : ℕ) (xs ys : List ℕ) → all (λ x. ltb x b) xs ≡ true → all (λ x. ltb x b) ys ≡ true → length xs ≡ length ys → number b xs ≡ number b ys
    → xs ≡ ys
number_same b xs ys p q l e = sym (digits_number b xs p) ∙ ap₂ (λ (k n : ℕ). digits b k n) l e ∙ digits_number b ys q

-- items that are each below a bound pass the test for it
pub all-below : (b : ℕ) (xs : List ℕ) → ((i : ℕ) → i < length xs → get_or xs i 0 < b) → all (λ x. ltb x b) xs ≡ true
unfolding all
all-below b [] h = refl
all-below b (x ∷ xs) h =
    and_both (ltb x b) (all (λ y. ltb y b) xs) (lt-ltb x b (h 0 (omega arith))) (all-below b xs (λ i k. h (suc i) (omega arith)))

-- ---- a part of a list as a number: the number of a part in two

module _ (s : List ℕ) (at j k : ℕ) (fits : at + (j + k) ≤ length s) where
  -- the lowest first
  pub unle-split : unle (take (j + k) (drop at s)) ≡ unle (take j (drop at s)) + 256 ^ j * unle (take k (drop (at + j) s))
  unle-split =
      rw (part-split s at j k, number_append 256 (take j (drop at s)) (take k (drop (at + j) s)), length_part s at j (omega arith))

  -- the highest first
  pub unbe-split : unbe (take (j + k) (drop at s)) ≡ unbe (take k (drop (at + j) s)) + 256 ^ k * unbe (take j (drop at s))
  unbe-split =
      let x : List ℕ = take j (drop at s) in
      let y : List ℕ = take k (drop (at + j) s) in
      rw (
        part-split s at j k,
        reverse-append x y,
        number_append 256 (reverse y) (reverse x),
        length-reverse y,
        length_part s (at + j) k (omega arith),
      )

-- two bytes
pub part-two : (s : List ℕ) (at : ℕ) → at + 2 ≤ length s → take 2 (drop at s) ≡ get_or s at 0 ∷ get_or s (at + 1) 0 ∷ []
part-two s at h = rw (add-one at, drop-cons s at 0 (omega arith), drop-cons s (suc at) 0 (omega arith))

pub unle-two : (s : List ℕ) (at : ℕ) → at + 2 ≤ length s → get_or s at 0 + 256 * get_or s (at + 1) 0 ≡ unle (take 2 (drop at s))
unfolding number
unle-two s at h = rw (part-two s at h) (omega arith)

pub unbe-two : (s : List ℕ) (at : ℕ) → at + 2 ≤ length s → get_or s (at + 1) 0 + 256 * get_or s at 0 ≡ unbe (take 2 (drop at s))
unfolding number
unbe-two s at h = rw (part-two s at h) (omega arith)

-- ---- a number written in two bytes

module _ (t : List ℕ) (at x : ℕ) (small : x < 65536) (fits : at + 2 ≤ length t) where
  upper : x / 256 % 256 ≡ x / 256
  upper = omega arith

  -- the lowest first
  pub paste-le-two : set (set t at (x % 256)) (at + 1) (x / 256) ≡ paste t at (digits 256 2 x) 2
  unfolding digits
  paste-le-two = rw (upper) (paste-two t at (x % 256) (x / 256) fits)

  -- the highest first
  pub paste-be-two : set (set t at (x / 256)) (at + 1) (x % 256) ≡ paste t at (be 2 x) 2
  unfolding digits
  paste-be-two = rw (upper) (paste-two t at (x / 256) (x % 256) fits)

-- ---- a number written in two halves: o is the list after the first

module _ (t o : List ℕ) (at j k x : ℕ) (fits : at ≤ length t) where
  -- the lowest first
  pub paste-le : o ≡ paste t at (digits 256 j (x % 256 ^ j)) j → paste o (at + j) (digits 256 k (x / 256 ^ j)) k ≡ paste t at (digits 256 (j + k) x) (j + k)
  paste-le e =
      rw (e, digits_low 256 j x (omega arith), digits_append 256 j k x)
      (paste-append t at (digits 256 j x) (digits 256 k (x / 256 ^ j)) j k (length_digits 256 j x) (length_digits 256 k (x / 256 ^ j)) fits)

  -- the highest first
  pub paste-be : o ≡ paste t at (be k (x / 256 ^ j)) k → paste o (at + k) (be j (x % 256 ^ j)) j ≡ paste t at (be (j + k) x) (k + j)
  paste-be e =
      rw (e, digits_low 256 j x (omega arith), be-append j k x)
      (paste-append t at (be k (x / 256 ^ j)) (be j x) k j (length-be k (x / 256 ^ j)) (length-be j x) fits)

-- ---- what is written is read back, and what is read is written as it was

module _ (t : List ℕ) (at k x : ℕ) (fits : at ≤ length t) (small : x < 256 ^ k) where
  pub unle-paste : unle (take k (drop at (paste t at (digits 256 k x) k))) ≡ x
  unle-paste =
      let l : length (digits 256 k x) ≡ k = length_digits 256 k x in
      rw (part-paste t at (digits 256 k x) k fits (omega arith), take_all k (digits 256 k x) (omega arith)) (number_digits 256 k x (omega arith) small)

  pub unbe-paste : unbe (take k (drop at (paste t at (be k x) k))) ≡ x
  unbe-paste =
      let l : length (be k x) ≡ k = length-be k x in
      ap unbe (part-paste t at (be k x) k fits (omega arith) ∙ take_all k (be k x) (omega arith))
      ∙ ap (λ (l : List ℕ). number 256 l) (reverse-reverse (digits 256 k x))
      ∙ number_digits 256 k x (omega arith) small

module _ (s : List ℕ) (at k : ℕ) (fits : at + k ≤ length s) (bytes : (i : ℕ) → get_or s i 0 < 256) where
  part-below : (i : ℕ) → i < length (take k (drop at s)) → get_or (take k (drop at s)) i 0 < 256
  part-below i h =
      let l : length (take k (drop at s)) ≡ k = length_part s at k fits in
      rw (get_or-take k (drop at s) i 0 (omega arith), get_or-drop at s i 0) (bytes (at + i))

  pub digits-unle : digits 256 k (unle (take k (drop at s))) ≡ take k (drop at s)
  digits-unle =
      ap (λ (m : ℕ). digits 256 m (unle (take k (drop at s)))) (sym (length_part s at k fits))
      ∙ digits_number 256 (take k (drop at s)) (all-below 256 (take k (drop at s)) part-below)

-- ---- a part and the rest, and a number and the rest, read from a list that goes on

pub cut_at : {A : Type 0} (k at : ℕ) (l : List A) → at + k ≤ length l → cut k (drop at l) ≡ some (take k (drop at l), drop (at + k) l)
unfolding cut
cut_at k at l h = rw (le-leb k (length (drop at l)) (simp length-drop (omega arith)), drop-drop k at l)

pub cut_short : {A : Type 0} (k at : ℕ) (l : List A) → 0 < k → length l < at + k → cut k (drop at l) ≡ none
unfolding cut
cut_short k at l p h = rw (lt-leb k (length (drop at l)) (simp length-drop (omega arith)))

pub read_le-at : (k at : ℕ) (bs : List ℕ) → at + k ≤ length bs → read_le k (drop at bs) ≡ some (unle (take k (drop at bs)), drop (at + k) bs)
unfolding read_le
read_le-at k at bs h = rw (cut_at k at bs h)

pub read_le-short : (k at : ℕ) (bs : List ℕ) → 0 < k → length bs < at + k → read_le k (drop at bs) ≡ none
unfolding read_le
read_le-short k at bs p h = rw (cut_short k at bs p h)
