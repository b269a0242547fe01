-- Laws of a table of rows of any width: its rows, cut at a place, are parts of its words.
-- Assumes nothing.
use Rattle.std.specs.Prelude.{◌≡◌, true, false, get_or, leb}
use Rattle.std.proofs.Math.Path.{refl, sym, ap}
use Rattle.std.proofs.Common.{◌∙◌, div-lt_iff_lt-mul, add-mul, length-append, take-append-drop, drop-cons, drop-drop, le-leb, leb-true}
use mathlib.Core.List.{List, [], ◌∷◌, ◌++◌, map, append_assoc, append-nil}
use Prim.Native.Nat.{ℕ, zero, suc, ◌+◌, ◌*◌, ◌-◌, ◌/◌, ◌≤◌, ◌<◌}
use Rattle.std.proofs.Math.Nat.{suc-mul, zero-mul, mul-le-mul_right, sub-zero}
use native.Mathlib.Omega.{arith}
use Rattle.std.proofs.Math.ListN.{length, take, drop, length-drop, replicate-append-replicate}
use Rattle.std.proofs.lemmas.List.{length-replicate}
use Rattle.std.proofs.Math.Seq.{drop_at, take-add, length-take-le}
use Rattle.std.proofs.Math.Decide.{dec_le}
use Rattle.std.proofs.lemmas.Bool.{lt-leb}
use Rattle.base.specs.Logic.{flat, from, zeros, all_zero}
use Rattle.base.specs.Laws.{and_left, and_right, and_both, flat_append, drop-zeros, zeros-all_zero, all_zero-zeros}
use Rattle.rows.specs.Table.{Coding, rows_of, table_of, holds_rows, Laid}

-- ---- the first w words of a list, one by one: what a coding of width w reads and writes
words-from : (w p : ℕ) (t : List ℕ) → p + w ≤ length t → map (λ i. get_or t i 0) (from p w) ≡ take w (drop p t)
unfolding from
words-from zero p t h = refl
words-from (suc w) p t h = rw (drop-cons t p 0 (omega arith)) (ap (λ (l : List ℕ). get_or t p 0 ∷ l) (words-from w (suc p) t (omega arith)))

pub first-words : (w : ℕ) (t : List ℕ) → w ≤ length t → map (λ i. get_or t i 0) (from 0 w) ≡ take w t
first-words w t h = words-from w 0 t (omega arith)

-- ---- row k of n lies within their words
pub row_fits : (w n k : ℕ) → k < n → k * w + w ≤ n * w
row_fits w n k h = rw (← suc-mul k w) (mul-le-mul_right w h)

-- ---- the test and the facts
pub holds-laid : (w n : ℕ) (t : List ℕ) → holds_rows w n t ≡ true → Laid w n t
unfolding holds_rows
holds-laid w n t e =
    record {
      fits = leb-true (n * w) (length t) (and_left (leb (n * w) (length t)) (all_zero (drop (n * w) t)) e);
      rest = all_zero-zeros (drop (n * w) t) (and_right (leb (n * w) (length t)) (all_zero (drop (n * w) t)) e) ∙ ap (λ (k : ℕ). zeros k) (length-drop (n * w) t);
    }

pub laid-holds : (w n : ℕ) (t : List ℕ) → Laid w n t → holds_rows w n t ≡ true
unfolding holds_rows
laid-holds w n t l =
    and_both (leb (n * w) (length t)) (all_zero (drop (n * w) t)) (le-leb (n * w) (length t) l.fits)
    (ap all_zero l.rest ∙ zeros-all_zero (length t - n * w))

-- ---- room for n rows, by a quotient: n may be any number
pub rows-over : (w n : ℕ) (t : List ℕ) → 0 < w → length t / w < n → holds_rows w n t ≡ false
unfolding holds_rows
rows-over w n t p h = rw (lt-leb (n * w) (length t) ((div-lt_iff_lt-mul p).0 h))

pub rows_fit : (w n : ℕ) (t : List ℕ) → 0 < w → n ≤ length t / w → n * w ≤ length t
rows_fit w n t p h =
    elim (dec_le (n * w) (length t)) [
      | yes k ↦ k
      | no k ↦ absurd (omega (arith, (div-lt_iff_lt-mul {k = w} {x = length t} {y = n} p).1 (omega arith)))
    ]

pub rows-test : (w n : ℕ) (t : List ℕ) → n * w ≤ length t → all_zero (drop (n * w) t) ≡ holds_rows w n t
unfolding holds_rows
rows-test w n t h = rw (le-leb (n * w) (length t) h)

-- behind the rows there are zeros from any place on
pub zeros-from : (w n : ℕ) (t : List ℕ) → Laid w n t → (m : ℕ) → n * w ≤ m → drop m t ≡ zeros (length t - m)
zeros-from w n t l m h =
    let e : ℕ = n * w in
    let q₁ : e + (m - e) ≡ m = omega arith in
    let q₂ : length t - e - (m - e) ≡ length t - m = omega arith in
    ap (λ (k : ℕ). drop k t) (sym q₁) ∙ sym (drop-drop (m - e) e t) ∙ ap (λ (x : List ℕ). drop (m - e) x) l.rest
    ∙ drop-zeros (m - e) (length t - e) ∙ ap (λ (k : ℕ). zeros k) q₂

-- a coding is lawful: a row has as many words as it says, and a row and its words give each other back
pub record Lawful {E : Type 0} (c : Coding E) : Type 0 where
  pub wide : (e : E) → length (c.enc e) ≡ c.width
  pub back : (e : E) (z : List ℕ) → c.dec (c.enc e ++ z) ≡ e
  pub forth : (t : List ℕ) → c.width ≤ length t → c.enc (c.dec t) ≡ take c.width t

-- ---- the rows of a table
module _ {E : Type 0} (c : Coding E) where
  pub length-rows_of : (n : ℕ) (t : List ℕ) → length (rows_of c n t) ≡ n
  unfolding rows_of
  length-rows_of zero t = refl
  length-rows_of (suc n) t = ap suc (length-rows_of n (drop c.width t))

  pub take-rows_of : (k n : ℕ) (t : List ℕ) → k ≤ n → take k (rows_of c n t) ≡ rows_of c k t
  unfolding rows_of
  take-rows_of zero n t h = refl
  take-rows_of (suc k) zero t h = absurd (omega arith)
  take-rows_of (suc k) (suc n) t h = ap (λ (l : List E). c.dec t ∷ l) (take-rows_of k n (drop c.width t) (omega arith))

  pub drop-rows_of : (k n : ℕ) (t : List ℕ) → k ≤ n → drop k (rows_of c n t) ≡ rows_of c (n - k) (drop (k * c.width) t)
  unfolding rows_of
  drop-rows_of zero n t h = rw (sub-zero n, zero-mul c.width)
  drop-rows_of (suc k) zero t h = absurd (omega arith)
  drop-rows_of (suc k) (suc n) t h =
      let q : c.width + k * c.width ≡ suc k * c.width = omega (arith, suc-mul k c.width) in
      let m : suc n - suc k ≡ n - k = omega arith in
      drop-rows_of k n (drop c.width t) (omega arith) ∙ rw (drop-drop (k * c.width) c.width t, q, m)

  -- row k is spelled where its words begin
  pub row_at : (n : ℕ) (t : List ℕ) (k : ℕ) (d : E) → k < n → get_or (rows_of c n t) k d ≡ c.dec (drop (k * c.width) t)
  unfolding rows_of
  row_at zero t k d h = absurd (omega arith)
  row_at (suc n) t zero d h = rw (zero-mul c.width)
  row_at (suc n) t (suc k) d h =
      let q : c.width + k * c.width ≡ suc k * c.width = omega (arith, suc-mul k c.width) in
      row_at n (drop c.width t) k d (omega arith) ∙ rw (drop-drop (k * c.width) c.width t, q)

  -- the rows from row k on
  pub drop-row : (n : ℕ) (t : List ℕ) (k : ℕ) → k < n → drop k (rows_of c n t) ≡ c.dec (drop (k * c.width) t) ∷ drop (suc k) (rows_of c n t)
  drop-row n t k h =
      drop-cons (rows_of c n t) k (c.dec t) (rw (length-rows_of n t) h) ∙ ap (λ (e : E). e ∷ drop (suc k) (rows_of c n t)) (row_at n t k (c.dec t) h)

-- ---- the rows of a table and the words of rows
module _ {E : Type 0} {c : Coding E} (law : Lawful c) where
  pub length-words : (es : List E) → length (flat c.enc es) ≡ length es * c.width
  unfolding flat
  length-words [] = sym (zero-mul c.width)
  length-words (e ∷ es) = simp (length-append, suc-mul) (omega (arith, law.wide e, length-words es))

  pub words-rows_of : (n : ℕ) (t : List ℕ) → n * c.width ≤ length t → flat c.enc (rows_of c n t) ≡ take (n * c.width) t
  unfolding flat rows_of
  words-rows_of zero t h = rw (zero-mul c.width)
  words-rows_of (suc n) t h =
      let m = suc-mul n c.width in
      let q : suc n * c.width ≡ c.width + n * c.width = omega arith in
      let r : n * c.width ≤ length (drop c.width t) = simp length-drop (omega arith) in
      rw (law.forth t (omega arith), words-rows_of n (drop c.width t) r, q, take-add c.width (n * c.width) t)

  pub rows_of-words : (es : List E) (z : List ℕ) → rows_of c (length es) (flat c.enc es ++ z) ≡ es
  unfolding flat rows_of
  rows_of-words [] z = refl
  rows_of-words (e ∷ es) z =
      rw (
        append_assoc (c.enc e) (flat c.enc es) z,
        law.back e (flat c.enc es ++ z),
        drop_at (c.enc e) (flat c.enc es ++ z) c.width (law.wide e),
        rows_of-words es z,
      )

  -- ---- a canonical table spells its rows back, and a table that is laid out is that of its rows
  module _ (len : ℕ) (es : List E) where
    pub rows_of-table : rows_of c (length es) (table_of c len es) ≡ es
    unfolding table_of
    rows_of-table = rows_of-words es (zeros (len - length es * c.width))

    pub length-table : length es * c.width ≤ len → length (table_of c len es) ≡ len
    unfolding table_of
    length-table h = simp (length-append, length-words, length-replicate) (omega arith)

    pub laid_table : length es * c.width ≤ len → Laid c.width (length es) (table_of c len es)
    unfolding table_of
    laid_table h =
        record {
          fits = rw (length-table h) h;
          rest = rw (length-table h) (drop_at (flat c.enc es) (zeros (len - length es * c.width)) (length es * c.width) (length-words es));
        }

  module _ (n : ℕ) (t : List ℕ) (laid : Laid c.width n t) where
    pub table-rows_of : table_of c (length t) (rows_of c n t) ≡ t
    unfolding table_of
    table-rows_of =
        rw (length-rows_of c n t, words-rows_of n t laid.fits, ← laid.rest) (take-append-drop (n * c.width) t)

    -- the table of the first k rows, other rows, and the rows from j on
    pub table-parts : (k j m r : ℕ) (new : List E) → k ≤ n → j ≤ n → j * c.width + m ≡ n * c.width → k * c.width + (length new * c.width + m) + r ≡ length t
        → table_of c (length t) (take k (rows_of c n t) ++ (new ++ drop j (rows_of c n t)))
        ≡ take (k * c.width) t ++ (flat c.enc new ++ (take m (drop (j * c.width) t) ++ zeros r))
    unfolding table_of
    table-parts k j m r new hk hj e g =
        let w : ℕ = c.width in
        let f = laid.fits in
        let p : ℕ = n - j in
        let s : j * w + p * w ≡ n * w = sym (add-mul j p w) ∙ ap (λ (x : ℕ). x * w) (omega arith) in
        let q : p * w ≡ m = omega arith in
        let h₀ : k * w ≤ n * w = mul-le-mul_right w hk in
        let h₁ : k * w ≤ length t = omega arith in
        let h₃ : p * w ≤ length (drop (j * w) t) = simp length-drop (omega arith) in
        let words : flat c.enc (take k (rows_of c n t) ++ (new ++ drop j (rows_of c n t))) ≡ take (k * w) t ++ (flat c.enc new ++ take m (drop (j * w) t)) =
        rw (
          flat_append c.enc (take k (rows_of c n t)) (new ++ drop j (rows_of c n t)),
          flat_append c.enc new (drop j (rows_of c n t)),
          take-rows_of c k n t hk,
          drop-rows_of c j n t hj,
          words-rows_of k t h₁,
          words-rows_of p (drop (j * w) t) h₃,
          q,
        ) in
        let l : length (take k (rows_of c n t) ++ (new ++ drop j (rows_of c n t))) * w ≡ k * w + (length new * w + m) =
        simp (length-append, length-take-le k (rows_of c n t) (rw (length-rows_of c n t) hk), length-drop, length-rows_of, add-mul) (omega arith) in
        let z : length t - (k * w + (length new * w + m)) ≡ r = omega arith in
        rw (words, l, z)
        (append_assoc (take (k * w) t) (flat c.enc new ++ take m (drop (j * w) t)) (zeros r)
        ∙ ap (λ (x : List ℕ). take (k * w) t ++ x) (append_assoc (flat c.enc new) (take m (drop (j * w) t)) (zeros r)))

    words-one : (e : E) → flat c.enc (e ∷ []) ≡ c.enc e
    unfolding flat
    words-one e = append-nil (c.enc e)

    -- a row goes in before row k
    pub inserted : (k : ℕ) (e : E) → k ≤ n → n * c.width + c.width ≤ length t
        → take (k * c.width) t ++ (c.enc e ++ (take (n * c.width - k * c.width) (drop (k * c.width) t) ++ drop (n * c.width + c.width) t))
        ≡ table_of c (length t) (take k (rows_of c n t) ++ ((e ∷ []) ++ drop k (rows_of c n t)))
    inserted k e h room =
        let w : ℕ = c.width in
        let b : k * w ≤ n * w = mul-le-mul_right w h in
        let o = suc-mul 0 w in
        let y = zero-mul w in
        rw (table-parts k k (n * w - k * w) (length t - (n * w + w)) (e ∷ []) h h (omega arith) (omega arith), words-one e, zeros-from w n t laid (n * w + w) (omega arith))

    -- row k goes
    pub removed : (k : ℕ) → k < n
        → take (k * c.width) t ++ (take (n * c.width - (k * c.width + c.width)) (drop (k * c.width + c.width) t) ++ (zeros c.width ++ drop (n * c.width) t))
        ≡ table_of c (length t) (take k (rows_of c n t) ++ ([] ++ drop (suc k) (rows_of c n t)))
    unfolding flat
    removed k h =
        let w : ℕ = c.width in
        let f = laid.fits in
        let b : suc k * w ≤ n * w = mul-le-mul_right w h in
        let q : suc k * w ≡ k * w + w = suc-mul k w in
        let y = zero-mul w in
        let z : zeros w ++ zeros (length t - n * w) ≡ zeros (w + (length t - n * w)) = replicate-append-replicate w (length t - n * w) 0 in
        rw (table-parts k (suc k) (n * w - (k * w + w)) (w + (length t - n * w)) [] (omega arith) h (omega arith) (omega arith), q, laid.rest, z)

    -- row k is another
    pub replaced : (k : ℕ) (e : E) → k < n
        → take (k * c.width) t ++ (c.enc e ++ drop (k * c.width + c.width) t)
        ≡ table_of c (length t) (take k (rows_of c n t) ++ ((e ∷ []) ++ drop (suc k) (rows_of c n t)))
    replaced k e h =
        let w : ℕ = c.width in
        let f = laid.fits in
        let b : suc k * w ≤ n * w = mul-le-mul_right w h in
        let q : suc k * w ≡ k * w + w = suc-mul k w in
        let o = suc-mul 0 w in
        let y = zero-mul w in
        let m : ℕ = n * w - (k * w + w) in
        let q₂ : k * w + w + m ≡ n * w = omega arith in
        let rest : take m (drop (k * w + w) t) ++ zeros (length t - n * w) ≡ drop (k * w + w) t =
        ap (λ (x : List ℕ). take m (drop (k * w + w) t) ++ x) (sym (drop-drop m (k * w + w) t ∙ ap (λ (x : ℕ). drop x t) q₂ ∙ laid.rest)) ∙ take-append-drop m (drop (k * w + w) t) in
        sym (rw (table-parts k (suc k) m (length t - n * w) (e ∷ []) (omega arith) h (omega arith) (omega arith), words-one e, q, rest))
