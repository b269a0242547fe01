-- The rows of lent words, taken as many words at a time as a row has.
-- Assumes nothing.
use Rattle.std.specs.Prelude.{◌≡◌, refl, Bool, ◌&&◌, List, [], ◌∷◌, ◌++◌, ℕ, suc, ◌+◌, ◌*◌, ◌/◌, ◌≤◌, ◌<◌, length, take}
use Rattle.std.specs.List.{list_all}
use Rattle.std.specs.Slice.Iter.{chunks_exact_steps, chunks_exact_rest, chunks_exact_size}
use Rattle.std.proofs.Common.{ap, sym, ◌∙◌, arith, add-one, append-nil, length-append, take_all, drop_at}
use Rattle.std.proofs.Math.Nat.{add-div_left, div-eq_of_lt}
use Rattle.std.proofs.lemmas.Iterator.{YieldsList}
use Rattle.std.proofs.lemmas.Iterator.Splits.{YieldsList-from_shown_while}
use Rattle.base.specs.Logic.{all, flat}
use Rattle.rows.specs.Table.{Coding, rows_of}
use Rattle.rows.proofs.TableLaws.{Lawful, length-rows_of, words-rows_of, rows_of-words}

module _ {E : Type 0} {c : Coding E} (law : Lawful c) (wide : 0 < c.width) where
  -- a row is that of its own words
  own-words : (x t : List ℕ) → length x ≡ c.width → c.dec (x ++ t) ≡ c.dec x
  own-words x t e =
      let f : c.enc (c.dec x) ≡ x = law.forth x (omega (arith, e)) ∙ take_all c.width x (omega (arith, e)) in
      ap (λ (y : List ℕ). c.dec (y ++ t)) (sym f) ∙ law.back (c.dec x) t

  -- the words of a row, and those of the others
  next-row : (x t : List ℕ) → length x ≡ c.width → rows_of c (length (x ++ t) / c.width) (x ++ t) ≡ c.dec x ∷ rows_of c (length t / c.width) t
  unfolding rows_of
  next-row x t e =
      let n : length (x ++ t) / c.width ≡ suc (length t / c.width) =
      ap (λ (k : ℕ). k / c.width) (length-append x t ∙ ap (λ (k : ℕ). k + length t) e) ∙ add-div_left (length t) wide ∙ add-one (length t / c.width) in
      rw (n, own-words x t e, drop_at x t c.width e)

  -- fewer words are none
  no-row : (t : List ℕ) → length t < c.width → length (rows_of c (length t / c.width) t) ≡ 0
  no-row t h = length-rows_of c (length t / c.width) t ∙ div-eq_of_lt {n = length t} h

  -- the parts of as many words are the rows
  pub chunks-rows : {s : _} → chunks_exact_size s ≡ c.width
      → YieldsList (chunks_exact_steps {A = ℕ}) (λ x. c.dec x.now) s (rows_of c (length (chunks_exact_rest s) / c.width) (chunks_exact_rest s))
  chunks-rows {s} e =
      YieldsList-from_shown_while (chunks_exact_steps {A = ℕ}) (λ x. c.dec x.now) (λ r. rows_of c (length (chunks_exact_rest r) / c.width) (chunks_exact_rest r)) (λ r. chunks_exact_size r ≡ c.width)
      (λ r u p q. no-row (chunks_exact_rest r) (omega (arith, q.1.0, p)))
      (λ r x u p q. (q.0 ∙ p, ap (λ (t : List ℕ). rows_of c (length t / c.width) t) q.1.0 ∙ next-row x.now (chunks_exact_rest u) (q.1.1 ∙ p)))
      s e

  -- the rows of the words at the front of a table
  pub front-rows : (n : ℕ) (t : List ℕ) → n * c.width ≤ length t → (m : ℕ) → m ≡ n → rows_of c m (take (n * c.width) t) ≡ rows_of c n t
  front-rows n t h m e =
      let es = rows_of c n t in
      let w : flat c.enc es ++ [] ≡ take (n * c.width) t = append-nil (flat c.enc es) ∙ words-rows_of law n t h in
      rw e (rw (w, length-rows_of c n t) at (rows_of-words law es []))

-- a test of all
pub all-same : {A : Type 0} (p : A → Bool) (xs : List A) → list_all p xs ≡ all p xs
unfolding all
all-same p [] = refl
all-same p (x ∷ xs) = ap (λ (b : Bool). p x && b) (all-same p xs)
