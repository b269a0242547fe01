-- What is read of bytes is spelled by them: a number, and a list of items where each is.
-- Assumes nothing.
use Rattle.std.specs.Prelude.{◌≡◌, refl, Bool, true, List, ◌++◌, ℕ, zero, suc, ◌^◌, length, leb, ltb}
use Rattle.std.proofs.Common.{sym, ap, ◌∙◌, append_assoc, take-append-drop, length-take-le, leb-true, lt-ltb}
use Rattle.std.proofs.Math.Option.{Option}
use Rattle.base.specs.Logic.{all, flat}
use Rattle.base.specs.Bytes.{digits, number, cut, read_le, read_list}
use Rattle.base.specs.MaybeLaws.{Gives, gives, gives-bind, gives-ensure}
use Rattle.base.specs.Laws.{and_both, digits_number}
use Rattle.base.specs.ListLaws.{all_take, all_drop}
use Rattle.base.specs.NumberLaws.{number-below}

-- each is a byte
abbrev pub Bytes : List ℕ → Type 0
Bytes bs = all (λ b. ltb b 256) bs ≡ true

-- an item that bytes start with, as it is written, and which passes a test; and the rest, which are bytes too
pub record Spells {A : Type 0} (g : A → List ℕ) (ok : A → Bool) (bs : List ℕ) (y : A × List ℕ) : Type 0 where
  pub same : bs ≡ g y.0 ++ y.1
  pub fits : ok y.0 ≡ true
  pub rest : Bytes y.1

-- n bytes and the rest
pub cut-spells : (n : ℕ) (bs : List ℕ) → Bytes bs → Gives (λ y. (length y.0 ≡ n) × (bs ≡ y.0 ++ y.1) × Bytes y.0 × Bytes y.1) (cut n bs)
unfolding cut
cut-spells n bs b =
    gives-ensure (leb n (length bs)) (λ e.
    gives (length-take-le n bs (leb-true n (length bs) e), sym (take-append-drop n bs), all_take (λ x. ltb x 256) n bs b, all_drop (λ x. ltb x 256) n bs b))

-- as many bytes are the digits of the number that they spell
pub digits-spelled : (k : ℕ) (xs : List ℕ) → length xs ≡ k → Bytes xs → digits 256 k (number 256 xs) ≡ xs
digits-spelled k xs l b = rw (← l) (digits_number 256 xs b)

pub read_le-spells : (k : ℕ) (bs : List ℕ) → Bytes bs → Gives (Spells (digits 256 k) (λ n. ltb n (256 ^ k)) bs) (read_le k bs)
unfolding read_le
read_le-spells k bs b =
    gives-bind (cut-spells k bs b) (λ y p.
    gives (record {
      same = p.1 ∙ ap (λ (l : List ℕ). l ++ y.1) (sym (digits-spelled k y.0 p.0 p.2));
      fits = lt-ltb (number 256 y.0) (256 ^ k) (rw p.0 at (number-below 256 y.0 p.2));
      rest = p.3;
    }))

-- where bytes spell each item that is read of them, they spell a list of them
pub read_list-spells : {A : Type 0} (f : List ℕ → Option (A × List ℕ)) (g : A → List ℕ) (ok : A → Bool)
    → ((bs : List ℕ) → Bytes bs → Gives (Spells g ok bs) (f bs))
    → (n : ℕ) (bs : List ℕ) → Bytes bs → Gives (Spells (flat g) (all ok) bs) (read_list f n bs)
unfolding read_list flat all
read_list-spells f g ok h zero bs b = gives (record { same = refl; fits = refl; rest = b })
read_list-spells f g ok h (suc n) bs b =
    gives-bind (h bs b) (λ y p.
    gives-bind (read_list-spells f g ok h n y.1 p.rest) (λ z q.
    gives (record {
      same = p.same ∙ ap (λ (l : List ℕ). g y.0 ++ l) q.same ∙ sym (append_assoc (g y.0) (flat g z.0) z.1);
      fits = and_both (ok y.0) (all ok z.0) p.fits q.fits;
      rest = q.rest;
    })))
