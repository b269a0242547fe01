-- A hash, its four words and its 32 bytes: each gives the others back.
-- Assumes nothing.
use Rattle.std.specs.Prelude.{◌≡◌, refl, true, List, [], ◌∷◌, ◌++◌, reverse, ℕ, ◌+◌, ◌/◌, ◌%◌, ◌^◌, ◌<◌, length, drop, get_or, ltb}
use Rattle.std.proofs.Common.{ap, ◌∙◌, append_assoc, arith, length-append, get_or-drop}
use Rattle.std.proofs.lemmas.List.{reverse-append, length-reverse}
use Rattle.std.proofs.Math.Nat.{div-one, div-div-eq-div-mul}
use borrow.Author.Tests.{lt-ltb}
use Rattle.base.specs.Logic.{all}
use Rattle.base.specs.Bytes.{digits, number, unbe, be64}
use Rattle.base.specs.Laws.{length_digits, number_digits, digits_number, digit-number}
use Rattle.rows.specs.Keys.{first_four}
use Rattle.cell_nursery.specs.Entries.{hash_bytes}
use Rattle.cell_nursery.specs.Layout.{HashWords, hash_words, hash_of, hash_at}
use Rattle.base.specs.ListLaws.{all_append}
use Rattle.base.specs.NumberLaws.{number-below, number_append, digits-below}
use Rattle.cell_nursery.specs.Held.{U64}

pub hash-words : (h : ℕ) → h < 2 ^ 256 → hash_of (hash_words h) ≡ h
unfolding hash_of hash_words digits
hash-words h k =
    let b : ℕ = 2 ^ 64 in
    let e : h / b / b ≡ h / 2 ^ 128 = div-div-eq-div-mul h b b in
    let f : h / 2 ^ 128 / b ≡ h / 2 ^ 192 = div-div-eq-div-mul h (2 ^ 128) b in
    let d : number b (digits b 4 h) ≡ h = number_digits b 4 h (omega arith) k in
    rw (e, f) at d

-- words of 64 bits
pub record Words64 (w : HashWords) : Type 0 where
  pub first : w.first < 2 ^ 64
  pub second : w.second < 2 ^ 64
  pub third : w.third < 2 ^ 64
  pub fourth : w.fourth < 2 ^ 64

module _ (w : HashWords) (u : Words64 w) where
  small : all (λ x. ltb x (2 ^ 64)) (w.fourth ∷ w.third ∷ w.second ∷ w.first ∷ []) ≡ true
  unfolding all
  small =
      rw (
        lt-ltb w.fourth (2 ^ 64) u.fourth,
        lt-ltb w.third (2 ^ 64) u.third,
        lt-ltb w.second (2 ^ 64) u.second,
        lt-ltb w.first (2 ^ 64) u.first,
      )

  word : (j : ℕ) → hash_of w / (2 ^ 64) ^ j % 2 ^ 64 ≡ get_or (w.fourth ∷ w.third ∷ w.second ∷ w.first ∷ []) j 0
  unfolding hash_of
  word j = digit-number (2 ^ 64) (w.fourth ∷ w.third ∷ w.second ∷ w.first ∷ []) j small

  pub words-hash : hash_words (hash_of w) ≡ w
  unfolding hash_words
  words-hash = rw (word 3, word 2, word 1, ← div-one (hash_of w), word 0)

  pub hash-small : hash_of w < 2 ^ 256
  unfolding hash_of
  hash-small = number-below (2 ^ 64) (w.fourth ∷ w.third ∷ w.second ∷ w.first ∷ []) small

pub u64-drop : (n : ℕ) (t : List ℕ) → U64 t → U64 (drop n t)
u64-drop n t u i = rw (get_or-drop n t i 0) (u (n + i))

pub words-at : (i : ℕ) (t : List ℕ) → U64 t → Words64 (hash_at i t)
words-at i t u = record { first = u i; second = u (i + 1); third = u (i + 2); fourth = u (i + 3) }

-- the hash at the start of a row is the number that its first four words spell
pub hash-first : (t : List ℕ) → hash_of (hash_at 0 t) ≡ first_four t
unfolding hash_of first_four
hash-first t = refl

-- ---- a hash's 32 bytes are its words' bytes

-- four times eight bytes
in_words : (a b c d : List ℕ) → length a ≡ 8 → length b ≡ 8 → length c ≡ 8
    → number 256 (a ++ (b ++ (c ++ d))) ≡ number (2 ^ 64) (number 256 a ∷ number 256 b ∷ number 256 c ∷ number 256 d ∷ [])
unfolding number
in_words a b c d la lb lc =
    let z : number 256 d + 0 ≡ number 256 d = omega arith in
    rw (number_append 256 a (b ++ (c ++ d)), number_append 256 b (c ++ d), number_append 256 c d, la, lb, lc, z)

reverse-four : (a b c d : List ℕ) → reverse (a ++ (b ++ (c ++ d))) ≡ reverse d ++ (reverse c ++ (reverse b ++ reverse a))
reverse-four a b c d = simp (reverse-append, append_assoc)

pub hash-read : (a b c d : List ℕ) → length b ≡ 8 → length c ≡ 8 → length d ≡ 8
    → unbe (a ++ (b ++ (c ++ d))) ≡ hash_of (record { first = unbe a; second = unbe b; third = unbe c; fourth = unbe d })
unfolding hash_of
hash-read a b c d lb lc ld =
    ap (number 256) (reverse-four a b c d)
    ∙ in_words (reverse d) (reverse c) (reverse b) (reverse a) (length-reverse d ∙ ld) (length-reverse c ∙ lc) (length-reverse b ∙ lb)

pub hash-written : (w : HashWords) → Words64 w → hash_bytes (hash_of w) ≡ be64 w.first ++ (be64 w.second ++ (be64 w.third ++ be64 w.fourth))
unfolding hash_of
hash-written w u =
    let a = digits 256 8 w.fourth in
    let b = digits 256 8 w.third in
    let c = digits 256 8 w.second in
    let d = digits 256 8 w.first in
    let byte : (n : ℕ) → all (λ x. ltb x 256) (digits 256 8 n) ≡ true = λ n. digits-below 256 8 n (omega arith) in
    let back : (n : ℕ) → n < 2 ^ 64 → number 256 (digits 256 8 n) ≡ n = λ n l. number_digits 256 8 n (omega arith) l in
    let bytes : all (λ x. ltb x 256) (a ++ (b ++ (c ++ d))) ≡ true =
    all_append _ a _ (byte w.fourth) (all_append _ b _ (byte w.third) (all_append _ c d (byte w.second) (byte w.first))) in
    let spelled : number 256 (a ++ (b ++ (c ++ d))) ≡ hash_of w =
    in_words a b c d (length_digits 256 8 w.fourth) (length_digits 256 8 w.third) (length_digits 256 8 w.second)
    ∙ rw (back w.fourth u.fourth, back w.third u.third, back w.second u.second, back w.first u.first) in
    let long : length (a ++ (b ++ (c ++ d))) ≡ 32 = simp (length-append, length_digits) in
    let same : digits 256 32 (hash_of w) ≡ a ++ (b ++ (c ++ d)) = rw (long, spelled) at (digits_number 256 (a ++ (b ++ (c ++ d))) bytes) in
    ap reverse same ∙ reverse-four a b c d
