-- Laws of answers and lines, over lists: what a step of the code does.
-- Assumes nothing.
use Rattle.std.specs.Prelude.{◌≡◌, ℕ, zero, suc, ◌+◌, ◌-◌, ◌*◌, ◌/◌, ◌%◌, ◌<◌, ◌≤◌, Bool, true, false, List, [], ◌∷◌, length, take, drop, set, ◌==◌, ◌≢◌, nat_le, slice_index, slice_set, Option, Some, None, is_some, IsSome, IfSome, unwrap_or, not, eqb, refl}
use Rattle.std.proofs.Common.{sym, ap, ◌∙◌, add-zero, zero-add, add-one, eqb-true, arith}
use borrow.Author.Tests.{le-leb, lt-leb, leb-true, eq-eqb, ne_eqb}
use Rattle.std.specs.Option.{option_eq}
use Rattle.std.proofs.Math.ListN.{drop_of_length-le}
use Rattle.std.proofs.Math.Seq.{paste, drop-cons}
use Rattle.base.specs.Logic.{fold, all, eqb_list, overlay}
use Rattle.base.specs.Bytes.{le64, unle}
use Rattle.base.specs.Laws.{length_digits, and_left, and_right}
use Rattle.slices.specs.Laws.{paste-start, eqb_list-lengths}
use Rattle.slices.specs.Turns.{copy-turn}
use Rattle.call_lists.specs.Answers.{word_at, Answer, up_to, with_bytes, with_word, with_words}
use Rattle.call_lists.specs.Lines.{line_length, line_end, digit_of, pair_of, pairs_of, is_byte, is_hex, decoded, spells_bytes}

-- ---- words of a call

pub word-there : (call : List ℕ) (at : ℕ) → nat_le (at + 8) (length call) ≡ true → unle (take 8 (drop at call)) ≡ word_at call at
unfolding word_at
word-there call at h = rw h

pub word-missing : (call : List ℕ) (at : ℕ) → nat_le (at + 8) (length call) ≡ false → 0 ≡ word_at call at
unfolding word_at
word-missing call at h = rw h

-- ---- answers

pub bytes-put : (bs : List ℕ) (at n : ℕ) (out : List ℕ) → length bs ≡ n → nat_le (at + n) (length out) ≡ true
    → up_to (Some (at + n)) (paste out at bs n) ≡ with_bytes bs (up_to (Some at) out)
unfolding with_bytes
bytes-put bs at n out e h = rw (e, h)

pub bytes-none : (bs : List ℕ) (at n : ℕ) (out : List ℕ) → length bs ≡ n → nat_le (at + n) (length out) ≡ false → up_to None out ≡ with_bytes bs (up_to (Some at) out)
unfolding with_bytes
bytes-none bs at n out e h = rw (e, h)

pub word-put : (w at : ℕ) (out : List ℕ) → nat_le (at + 8) (length out) ≡ true → up_to (Some (at + 8)) (paste out at (le64 w) 8) ≡ with_word w (up_to (Some at) out)
unfolding with_word
word-put w at out h = bytes-put (le64 w) at 8 out (length_digits 256 8 w) h

pub word_none : (w at : ℕ) (out : List ℕ) → nat_le (at + 8) (length out) ≡ false → up_to None out ≡ with_word w (up_to (Some at) out)
unfolding with_word
word_none w at out h = bytes-none (le64 w) at 8 out (length_digits 256 8 w) h

-- an answer that has found no room stays as it is

pub words-none : (ws : List ℕ) (out : List ℕ) → up_to None out ≡ with_words ws (up_to None out)
unfolding with_words fold with_word with_bytes
words-none [] out = refl
words-none (w ∷ ws) out = words-none ws out

-- the words that are left, put behind those so far, give the answer

pub words-turn : (ws : List ℕ) (i : ℕ) (a b r : Answer) → with_words (drop i ws) a ≡ r → b ≡ with_word (slice_index ws i) a → i < length ws → with_words (drop (i + 1) ws) b ≡ r
unfolding with_words fold
words-turn ws i a b r e f h =
    rw (f, add-one i) (ap (λ (l : List ℕ). with_words l a) (sym (drop-cons ws i 0 h)) ∙ e)

-- a word that finds no room ends the answer

pub words-cut : (ws : List ℕ) (i : ℕ) (a r : Answer) (out : List ℕ) → with_words (drop i ws) a ≡ r → up_to None out ≡ with_word (slice_index ws i) a → i < length ws → up_to None out ≡ r
words-cut ws i a r out e f h = words-none (drop (i + 1) ws) out ∙ words-turn ws i a (up_to None out) r e f h

pub words-end : (ws : List ℕ) (i : ℕ) (a r : Answer) → with_words (drop i ws) a ≡ r → length ws ≤ i → a ≡ r
unfolding with_words fold
words-end ws i a r e h = ap (λ (l : List ℕ). with_words l a) (sym (drop_of_length-le ws h)) ∙ e

-- ---- lines

pub line-here : (s : List ℕ) (i : ℕ) → i < length s → slice_index s i ≡ 10 → i ≡ line_end s i
unfolding line_end line_length
line-here s i h e = rw (drop-cons s i 0 h, eq-eqb (slice_index s i) 10 e, add-zero i)

pub line_on : (s : List ℕ) (i : ℕ) → i < length s → (slice_index s i ≢ 10) → line_end s (i + 1) ≡ line_end s i
unfolding line_end line_length
line_on s i h e = rw (drop-cons s i 0 h, ne_eqb (slice_index s i) 10 e, add-one i) (omega arith)

pub line-last : (s : List ℕ) (i : ℕ) → length s ≤ i → i ≡ line_end s i
unfolding line_end line_length
line-last s i h = rw (drop_of_length-le s h, add-zero i)

-- ---- digits and pairs of them

pub digit-number : (c : ℕ) → 48 ≤ c → c ≤ 57 → c - 48 ≡ digit_of c
unfolding digit_of
digit-number c h k = rw (le-leb 48 c h, le-leb c 57 k)

pub digit-letter : (c : ℕ) → 97 ≤ c → c ≤ 102 → c - 97 + 10 ≡ digit_of c
unfolding digit_of
digit-letter c h k = rw (le-leb 48 c (omega arith), lt-leb c 57 (omega arith), le-leb 97 c h, le-leb c 102 k)

pub digit-below : (c : ℕ) → c < 48 → 16 ≡ digit_of c
unfolding digit_of
digit-below c h = rw (lt-leb 48 c h, lt-leb 97 c (omega arith))

pub digit-between : (c : ℕ) → 57 < c → c < 97 → 16 ≡ digit_of c
unfolding digit_of
digit-between c h k = rw (le-leb 48 c (omega arith), lt-leb c 57 h, lt-leb 97 c k)

pub digit-above : (c : ℕ) → 102 < c → 16 ≡ digit_of c
unfolding digit_of
digit-above c h = rw (le-leb 48 c (omega arith), lt-leb c 57 (omega arith), le-leb 97 c (omega arith), lt-leb c 102 h)

module _ (x y h l : ℕ) (e : h ≡ digit_of x) (f : l ≡ digit_of y) where
  pub pair-there : h ≤ 15 → l ≤ 15 → 16 * h + l ≡ pair_of x y
  unfolding pair_of
  pair-there p q = rw (← e, ← f, le-leb h 15 p, le-leb l 15 q)

  pub pair-high : 15 < h → 256 ≡ pair_of x y
  unfolding pair_of
  pair-high p = rw (← e, lt-leb h 15 p)

  pub pair-low : h ≤ 15 → 15 < l → 256 ≡ pair_of x y
  unfolding pair_of
  pair-low p q = rw (← e, ← f, le-leb h 15 p, lt-leb l 15 q)

pub length_pairs : (t : List ℕ) → length (pairs_of t) ≡ length t / 2
unfolding pairs_of
length_pairs [] = refl
length_pairs (x ∷ []) = refl
length_pairs (x ∷ (y ∷ t)) = rw (length_pairs t) (omega arith)

pub pair-here : (t : List ℕ) (n : ℕ) → n < length t / 2 → pair_of (slice_index t (2 * n)) (slice_index t (2 * n + 1)) ≡ slice_index (pairs_of t) n
unfolding pairs_of
pair-here [] n h = absurd (omega arith)
pair-here (x ∷ []) n h = absurd (omega arith)
pair-here (x ∷ (y ∷ t)) zero h = refl
pair-here (x ∷ (y ∷ t)) (suc n) h =
    let e : 2 * suc n ≡ suc (suc (2 * n)) = omega arith in
    let f : 2 * suc n + 1 ≡ suc (suc (2 * n + 1)) = omega arith in
    rw (f, e) (pair-here t n (omega arith))

-- ---- a text that is pairs of digits: the test of the pairs that are left gives the answer

pub hex-turn : (p : List ℕ) (n : ℕ) {r : Bool} → all is_byte (drop n p) ≡ r → n < length p → slice_index p n ≤ 255 → all is_byte (drop (n + 1) p) ≡ r
unfolding all
hex-turn p n e h k = rw (add-one n) (rw (drop-cons p n 0 h, le-leb (slice_index p n) 255 k) at e)

pub not-a-byte : (o : Option ℕ) (v : ℕ) → unwrap_or o 256 ≡ v → is_some o ≡ false → 255 < v
not-a-byte None v e f = omega (arith, e)
not-a-byte (Some b) v e f = cc

pub a-byte : (o : Option ℕ) (v : ℕ) → unwrap_or o 256 ≡ v → IfSome o (λ b. b ≤ 255) → is_some o ≡ true → v ≤ 255
a-byte None v e h f = cc
a-byte (Some b) v e h f = omega (arith, e, h)

pub has-byte : (o : Option ℕ) (v : ℕ) → unwrap_or o 256 ≡ v → v ≤ 255 → IsSome o
has-byte None v e h = absurd (omega (arith, e))
has-byte (Some b) v e h = refl

pub hex-none : (t : List ℕ) (n : ℕ) → all is_byte (drop n (pairs_of t)) ≡ all is_byte (pairs_of t) → n < length t / 2 → 255 < slice_index (pairs_of t) n → false ≡ is_hex t
unfolding is_hex all
hex-none t n e h k = rw (← e, drop-cons (pairs_of t) n 0 (rw (length_pairs t) h), lt-leb (slice_index (pairs_of t) n) 255 k)

pub hex-end : (t : List ℕ) (n : ℕ) → all is_byte (drop n (pairs_of t)) ≡ all is_byte (pairs_of t) → length t / 2 ≤ n → (length t % 2 == 0) ≡ is_hex t
unfolding is_hex all
hex-end t n e h = rw (← e, drop_of_length-le (pairs_of t) {i = n} (rw (length_pairs t) h))

all-byte : (p : List ℕ) (n : ℕ) → all is_byte p ≡ true → n < length p → slice_index p n ≤ 255
unfolding all
all-byte [] n e h = absurd (omega arith)
all-byte (x ∷ p) zero e h = leb-true x 255 (and_left (is_byte x) (all is_byte p) e)
all-byte (x ∷ p) (suc n) e h = all-byte p n (and_right (is_byte x) (all is_byte p) e) (omega arith)

pub hex-byte : (t : List ℕ) (n : ℕ) → is_hex t ≡ true → n < length t / 2 → slice_index (pairs_of t) n ≤ 255
unfolding is_hex
hex-byte t n e h = all-byte (pairs_of t) n (and_left (all is_byte (pairs_of t)) (length t % 2 == 0) e) (rw (length_pairs t) h)

-- ---- the bytes that a text spells

pub decoded-whole : (t : List ℕ) (room : ℕ) → length t / 2 ≤ room → is_hex t ≡ true → pairs_of t ≡ decoded t room
unfolding decoded
decoded-whole t room h e = rw (length_pairs t, le-leb (length t / 2) room h, e)

pub decoded-no-room : (t : List ℕ) (room : ℕ) → room < length t / 2 → [] ≡ decoded t room
unfolding decoded
decoded-no-room t room h = rw (length_pairs t, lt-leb (length t / 2) room h)

pub decoded-none : (t : List ℕ) (room : ℕ) → length t / 2 ≤ room → is_hex t ≡ false → [] ≡ decoded t room
unfolding decoded
decoded-none t room h e = rw (length_pairs t, le-leb (length t / 2) room h, e)

pub none_over : (out d : List ℕ) → [] ≡ d → out ≡ overlay d out
unfolding overlay
none_over out d e = rw (← e)

pub decode-turn : (t out₀ out : List ℕ) (n v : ℕ) → out ≡ paste out₀ 0 (pairs_of t) n → v ≡ slice_index (pairs_of t) n → n < length t / 2 → length t / 2 ≤ length out₀
    → slice_set out n v ≡ paste out₀ 0 (pairs_of t) (n + 1)
decode-turn t out₀ out n v e f h k = ap (λ (i : ℕ). set out i v) (sym (zero-add n)) ∙ copy-turn out₀ out 0 (pairs_of t) n v 0 e f (omega arith) (rw (length_pairs t) h)

pub decode-end : (t out₀ out d : List ℕ) (n : ℕ) → out ≡ paste out₀ 0 (pairs_of t) n → n ≡ length t / 2 → pairs_of t ≡ d → out ≡ overlay d out₀
decode-end t out₀ out d n e f g = e ∙ paste-start out₀ (pairs_of t) n (length_pairs t ∙ sym f) ∙ ap (λ (l : List ℕ). overlay l out₀) g

-- ---- the comparison

pub pair-differs : (o : Option ℕ) (b v : ℕ) → unwrap_or o 256 ≡ v → b ≤ 255 → true ≡ not (option_eq eqb o (Some b)) → v ≢ b
pair-differs None b v e h f = λ k. omega (arith, e, k, h)
pair-differs (Some x) b v e h f = λ k. let g = rw (eq-eqb x b (e ∙ k)) at f in cc

pub pair-same : (o : Option ℕ) (b v : ℕ) → unwrap_or o 256 ≡ v → false ≡ not (option_eq eqb o (Some b)) → v ≡ b
pair-same None b v e f = cc
pair-same (Some x) b v e f = sym e ∙ go (x == b) refl
  where
    go : (c : Bool) → (x == b) ≡ c → x ≡ b
    go true g = eqb-true x b g
    go false g = let k = rw g at f in cc

module _ (t bs : List ℕ) where
  pub spells-not-hex : is_hex t ≡ false → false ≡ spells_bytes t bs
  unfolding spells_bytes
  spells-not-hex e = rw e

  pub spells-other-length : is_hex t ≡ true → (length t / 2 ≢ length bs) → false ≡ spells_bytes t bs
  unfolding spells_bytes
  spells-other-length e h = rw (e, eqb_list-lengths (pairs_of t) bs (rw (length_pairs t) h))

  pub spells-differs : (n : ℕ) → is_hex t ≡ true → eqb_list (drop n (pairs_of t)) (drop n bs) ≡ eqb_list (pairs_of t) bs → n < length t / 2 → n < length bs
      → (slice_index (pairs_of t) n ≢ slice_index bs n) → false ≡ spells_bytes t bs
  unfolding spells_bytes eqb_list
  spells-differs n e f h k d =
      rw (e, ← f, drop-cons (pairs_of t) n 0 (rw (length_pairs t) h), drop-cons bs n 0 k, ne_eqb (slice_index (pairs_of t) n) (slice_index bs n) d)

  pub spells-turn : (n : ℕ) {r : Bool} → eqb_list (drop n (pairs_of t)) (drop n bs) ≡ r → n < length t / 2 → n < length bs
      → slice_index (pairs_of t) n ≡ slice_index bs n → eqb_list (drop (n + 1) (pairs_of t)) (drop (n + 1) bs) ≡ r
  unfolding eqb_list
  spells-turn n f h k d =
      rw (add-one n) (rw (drop-cons (pairs_of t) n 0 (rw (length_pairs t) h), drop-cons bs n 0 k, eq-eqb (slice_index (pairs_of t) n) (slice_index bs n) d) at f)

  pub spells-end : (n : ℕ) → is_hex t ≡ true → eqb_list (drop n (pairs_of t)) (drop n bs) ≡ eqb_list (pairs_of t) bs → length t / 2 ≤ n → length bs ≤ n
      → true ≡ spells_bytes t bs
  unfolding spells_bytes eqb_list
  spells-end n e f h k = rw (e, ← f, drop_of_length-le (pairs_of t) {i = n} (rw (length_pairs t) h), drop_of_length-le bs k)
