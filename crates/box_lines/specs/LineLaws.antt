-- Laws of text: what the code writes is a number in decimal, text goes into an output piece by piece, and a line has a bound.
-- Assumes nothing.
use Rattle.std.specs.Prelude.{◌≡◌, refl, Bool, true, false, ◌&&◌, List, [], ◌∷◌, ◌++◌, ℕ, zero, suc, ◌+◌, ◌-◌, ◌/◌, ◌%◌, ◌^◌, min, ◌≤◌, ◌<◌, leb, ltb, eqb, length, take, drop}
use Rattle.std.proofs.Common.{sym, ap, ◌∙◌, pow-suc, arith, lt-ltb, le-ltb, le-leb, eq-eqb, eqb-true, leb-true, leb-false, length-append, length-take-le, take-take}
use Rattle.std.proofs.Math.Bool.{and_assoc}
use Rattle.std.proofs.Math.Nat.{one-le-pow, pow-le-pow_right}
use Rattle.std.proofs.lemmas.Bool.{lt-leb}
use Rattle.std.proofs.Math.Seq.{paste, paste-zero, take-append-add}
use Rattle.std.proofs.lemmas.List.Edits.{length-paste}
use Rattle.std.proofs.lemmas.List.{take-append-le}
use Rattle.io.specs.Digits.{last_digits, IsDigitCount}
use Rattle.base.specs.Logic.{pick, overlay}
use Rattle.base.specs.Bytes.{unle}
use Rattle.base.specs.Laws.{and_left, and_right, and_both}
use Rattle.slices.specs.Laws.{paste-append, paste-start, paste-take}
use Rattle.box_lines.specs.declared.Line.{Line}
use Rattle.box_lines.specs.declared.Printed.{Printed}
use Rattle.box_lines.specs.Lines.{kind_of, body_len, digits_of, decimal, field, line_text, Output, output, nothing, append}

-- ---- an item's first six bytes

module _ (bs : List ℕ) where
  pub kind-short : length bs < 6 → kind_of bs ≡ 0
  unfolding kind_of
  kind-short h = rw (lt-leb 6 (length bs) h)

  pub kind-there : 6 ≤ length bs → kind_of bs ≡ unle (take 2 (drop 4 bs))
  unfolding kind_of
  kind-there h = rw (le-leb 6 (length bs) h)

  pub len_short : length bs < 6 → body_len bs ≡ 0
  unfolding body_len
  len_short h = rw (lt-leb 6 (length bs) h)

  pub len-there : 6 ≤ length bs → body_len bs ≡ unle (take 4 bs)
  unfolding body_len
  len-there h = rw (le-leb 6 (length bs) h)

-- ---- decimal numbers

-- the fewest digits that hold a number are its decimal ones
fewest-digits : (k most n : ℕ) → suc k ≤ most → n < 10 ^ suc k → (0 < k → 10 ^ k ≤ n) → last_digits 10 (suc k) n ≡ digits_of most n
unfolding digits_of
fewest-digits k zero n h f g = absurd (omega arith)
fewest-digits zero (suc most) n h f g =
    let m : n % 10 ≡ n = omega arith in
    rw (lt-ltb n 10 (omega arith), m, lt-ltb n 10 (omega arith))
fewest-digits (suc k) (suc most) n h f g =
    let p = pow-suc 10 k in
    let q = pow-suc 10 (suc k) in
    let one : 1 ≤ 10 ^ k = one-le-pow k 10 (omega arith) in
    let low : 10 ^ suc k ≤ n = g (omega arith) in
    rw (le-ltb n 10 (omega arith), lt-ltb (n % 10) 10 (omega arith))
    (ap (λ (l : List ℕ). l ++ (48 + n % 10) ∷ []) (fewest-digits k most (n / 10) (omega arith) (omega arith) (λ z. omega arith)))

-- 64 bits have 20 digits at most
few : (r n : ℕ) → n < 2 ^ 64 → IsDigitCount 10 1 n r → r ≤ 20
few r n h f = go (leb r 20) refl
  where
    go : (b : Bool) → leb r 20 ≡ b → r ≤ 20
    go true e = leb-true r 20 e
    go false e =
        let more = leb-false r 20 e in
        let ten : 0 < 10 = omega arith in
        let far : 20 ≤ r - 1 = omega arith in
        let high : 10 ^ 20 ≤ 10 ^ (r - 1) = pow-le-pow_right ten far in
        absurd (omega (arith, f.2 (omega arith)))

fewest-decimal : (r n : ℕ) → n < 2 ^ 64 → IsDigitCount 10 1 n r → last_digits 10 r n ≡ decimal n
unfolding decimal
fewest-decimal zero n h f = absurd (omega (arith, f.0))
fewest-decimal (suc k) n h f =
    let e : suc k - 1 ≡ k = omega arith in
    fewest-digits k 20 n (few (suc k) n h f) f.1 (λ p. rw e at (f.2 (omega arith)))

length-digits-of : (most n : ℕ) → length (digits_of most n) ≤ most
unfolding digits_of
length-digits-of zero n = omega arith
length-digits-of (suc most) n = go (ltb n 10) (digits_of most (n / 10)) (length-digits-of most (n / 10))
  where
    go : (b : Bool) (ds : List ℕ) → length ds ≤ most → length (pick b ((48 + n) ∷ []) (ds ++ (48 + n % 10) ∷ [])) ≤ suc most
    go true ds l = omega arith
    go false ds l = rw (length-append ds ((48 + n % 10) ∷ [])) (omega arith)

length-field : (n end : ℕ) → length (field n end) ≤ 21
unfolding field decimal
length-field n end = rw (length-append (digits_of 20 n) (end ∷ [])) (omega (arith, length-digits-of 20 n))

-- every line finds room in 105 bytes
pub line-length : (l : Line) → length (line_text l) ≤ 105
unfolding line_text
line-length l =
    simp length-append
    (omega (arith, length-field l.place 32, length-field l.kind 32, length-field l.answer 32, length-field l.next 32, length-field l.live 10))

-- ---- an output, piece by piece

same-output : (l m : ℕ) (v w : Bool) (s t : List ℕ) → l ≡ m → v ≡ w → s ≡ t
    → output (record { len = l; whole = v }) s ≡ output (record { len = m; whole = w }) t
same-output l m v w s t e f g = cc

and_yes : (b c : Bool) → c ≡ true → (b && c) ≡ b
and_yes true c e = e
and_yes false c e = refl

pub append-none : (o : Output) → append [] o ≡ o
unfolding append
append-none o =
    let at = o.printed.len in
    let n = min 0 (length o.out - at) in
    let z : n ≡ 0 = omega arith in
    same-output (at + n) at (o.printed.whole && eqb n 0) o.printed.whole (paste o.out at [] n) o.out
    (omega arith) (and_yes _ _ (eq-eqb n 0 z)) (ap (λ (k : ℕ). paste o.out at [] k) z ∙ sym (paste-zero o.out at []))

-- all of a, and a part of b behind it
join-whole : (out a b : List ℕ) (at n : ℕ) → at ≤ length out → n ≤ length b → paste (paste out at a (length a)) (at + length a) b n ≡ paste out at (a ++ b) (length a + n)
join-whole out a b at n h k =
    sym (paste-take (paste out at a (length a)) (at + length a) b n)
    ∙ paste-append out at a (take n b) (length a) n refl (length-take-le n b k) h
    ∙ ap (λ (l : List ℕ). take at out ++ l ++ drop (at + (length a + n)) out) same
  where
    same : take (length a + n) (a ++ take n b) ≡ take (length a + n) (a ++ b)
    same = rw (take-append-add a (take n b) n, take-append-add a b n, take-take n n b (omega arith))

-- a part of a
join-part : (out a b : List ℕ) (at n : ℕ) → n ≤ length a → paste (paste out at a n) (at + n) b 0 ≡ paste out at (a ++ b) n
join-part out a b at n h =
    sym (paste-zero (paste out at a n) (at + n) b) ∙ ap (λ (l : List ℕ). take at out ++ l ++ drop (at + n) out) (sym (take-append-le n a b h))

-- a paste as far as there is room keeps the length
length-kept : (out a : List ℕ) (at n : ℕ) → n ≤ length a → n ≤ length out - at → length (paste out at a n) ≡ length out
length-kept out a at zero h k = ap length (sym (paste-zero out at a))
length-kept out a at (suc n) h k = length-paste out at a (suc n) (omega arith) h

same_test : (x y : Bool) → (x ≡ true → y ≡ true) → (y ≡ true → x ≡ true) → x ≡ y
same_test true y f g = sym (f refl)
same_test false true f g = g refl
same_test false false f g = refl

-- of a's bytes n find room, of b's m, and of both k
module _ (out a b : List ℕ) (at n m k : ℕ) (w : Bool) (some : 0 < length a) (of-a : n ≡ min (length a) (length out - at))
    (of-b : m ≡ min (length b) (length (paste out at a n) - (at + n))) (of-both : k ≡ min (length a + length b) (length out - at)) where
  kept : length (paste out at a n) ≡ length out
  kept = length-kept out a at n (omega arith) (omega arith)

  sum : n + m ≡ k
  sum = omega (arith, kept)

  both-whole : ((w && eqb n (length a)) && eqb m (length b)) ≡ (w && eqb k (length a + length b))
  both-whole = and_assoc w (eqb n (length a)) (eqb m (length b)) ∙ ap (λ (x : Bool). w && x) (same_test (eqb n (length a) && eqb m (length b)) (eqb k (length a + length b)) forth back)
    where
      forth : (eqb n (length a) && eqb m (length b)) ≡ true → eqb k (length a + length b) ≡ true
      forth e =
          let f = eqb-true n (length a) (and_left (eqb n (length a)) (eqb m (length b)) e) in
          let g = eqb-true m (length b) (and_right (eqb n (length a)) (eqb m (length b)) e) in
          eq-eqb k (length a + length b) (omega (arith, sum))

      back : eqb k (length a + length b) ≡ true → (eqb n (length a) && eqb m (length b)) ≡ true
      back e =
          let f = eqb-true k (length a + length b) e in
          and_both (eqb n (length a)) (eqb m (length b)) (eq-eqb n (length a) (omega (arith, sum))) (eq-eqb m (length b) (omega (arith, sum)))

  joined : paste (paste out at a n) (at + n) b m ≡ paste out at (a ++ b) k
  joined = go (leb (length a) (length out - at)) refl
    where
      go : (c : Bool) → leb (length a) (length out - at) ≡ c → paste (paste out at a n) (at + n) b m ≡ paste out at (a ++ b) k
      go true e =
          let h = leb-true (length a) (length out - at) e in
          let f : n ≡ length a = omega arith in
          let g : k ≡ length a + m = omega (arith, sum) in
          rw (f, g) (join-whole out a b at m (omega arith) (omega arith))
      go false e =
          let h = leb-false (length a) (length out - at) e in
          let f : m ≡ 0 = omega (arith, kept) in
          let g : k ≡ n = omega (arith, sum) in
          rw (f, g) (join-part out a b at n (omega arith))

pub append-join : (a b : List ℕ) (o : Output) → append b (append a o) ≡ append (a ++ b) o
unfolding append
append-join [] b o = ap (λ (p : Output). append b p) (append-none o)
append-join (x ∷ xs) b o =
    let a : List ℕ = x ∷ xs in
    let at = o.printed.len in
    let w = o.printed.whole in
    let n = min (length a) (length o.out - at) in
    let m = min (length b) (length (paste o.out at a n) - (at + n)) in
    let k = min (length (a ++ b)) (length o.out - at) in
    let e = length-append a b in
    let of-both : k ≡ min (length a + length b) (length o.out - at) = omega arith in
    same-output (at + n + m) (at + k) ((w && eqb n (length a)) && eqb m (length b)) (w && eqb k (length (a ++ b))) (paste (paste o.out at a n) (at + n) b m) (paste o.out at (a ++ b) k)
    (omega (arith, sum o.out a b at n m k w (omega arith) refl refl of-both))
    (both-whole o.out a b at n m k w (omega arith) refl refl of-both ∙ ap (λ (l : ℕ). w && eqb k l) (sym e))
    (joined o.out a b at n m k w (omega arith) refl refl of-both)

-- as many bytes as find room were put
pub append-put : (p : Printed) (bytes out t : List ℕ) (n : ℕ) → n ≡ min (length bytes) (length out - p.len) → t ≡ paste out p.len bytes n
    → output (record { len = p.len + n; whole = p.whole && eqb n (length bytes) }) t ≡ append bytes (output p out)
unfolding append
append-put p bytes out t n e f =
    ap (λ (l : List ℕ). output (record { len = p.len + n; whole = p.whole && eqb n (length bytes) }) l) f
    ∙ ap (λ (k : ℕ). output (record { len = p.len + k; whole = p.whole && eqb k (length bytes) }) (paste out p.len bytes k)) e

-- text that finds room
pub append-whole : (text out : List ℕ) → length text ≤ length out → append text (nothing out) ≡ output (record { len = length text; whole = true }) (overlay text out)
unfolding append
append-whole text out h =
    let n = min (length text) (length out - 0) in
    let z : n ≡ length text = omega arith in
    same-output (0 + n) (length text) (true && eqb n (length text)) true (paste out 0 text n) (overlay text out)
    (omega arith) (eq-eqb n (length text) z) (ap (λ (k : ℕ). paste out 0 text k) z ∙ paste-start out text (length text) refl)

-- one text, then another
pub append-then : (s t : List ℕ) (o p q : Output) → p ≡ append s o → q ≡ append t p → q ≡ append (s ++ t) o
append-then s t o p q e f = f ∙ ap (λ (x : Output). append t x) e ∙ append-join s t o

-- the fewest digits of a number, and the character behind them
pub field_put : (number end r : ℕ) (ds : List ℕ) (o p q : Output) → number < 2 ^ 64 → IsDigitCount 10 1 number r → ds ≡ last_digits 10 r number → p ≡ append ds o → q ≡ append (end ∷ []) p
    → q ≡ append (field number end) o
unfolding field
field_put number end r ds o p q h f e g k =
    append-then (decimal number) (end ∷ []) o p q (g ∙ ap (λ (l : List ℕ). append l o) (e ∙ fewest-decimal r number h f)) k

pub line-put : (l : Line) (o p q r s t : Output) → p ≡ append (field l.place 32) o → q ≡ append (field l.kind 32) p → r ≡ append (field l.answer 32) q
    → s ≡ append (field l.next 32) r → t ≡ append (field l.live 10) s → t ≡ append (line_text l) o
unfolding line_text
line-put l o p q r s t a b c d e =
    append-then _ (field l.live 10) o s t (append-then _ (field l.next 32) o r s (append-then _ (field l.answer 32) o q r (append-then _ (field l.kind 32) o p q a b) c) d) e
