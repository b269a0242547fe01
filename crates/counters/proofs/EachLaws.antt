-- A figure for each of the sets, bit by bit.
-- Assumes nothing.
use Rattle.std.specs.Prelude.{◌≡◌, List, ◌∷◌, map, length, get_or}
use Rattle.std.proofs.Math.Path.{refl, ap}
use Rattle.std.proofs.Common.{ap₂, ◌∙◌, zero-add, add-zero, suc-add, arith, take_all}
use Prim.Native.Nat.{ℕ, zero, suc, ◌+◌, ◌≤◌, ◌<◌}
use Rattle.std.proofs.Math.Nat.{add-suc}
use Rattle.base.specs.Logic.{from}
use Rattle.rows.proofs.TableLaws.{first-words}

module _ {A : Type 0} (f : ℕ → A) where
  pub length-each : (k n : ℕ) → length (map f (from k n)) ≡ n
  unfolding from
  length-each k zero = refl
  length-each k (suc n) = ap suc (length-each (suc k) n)

  each_from : (k n i : ℕ) (d : A) → i < n → get_or (map f (from k n)) i d ≡ f (k + i)
  unfolding from
  each_from k zero i d h = absurd (omega arith)
  each_from k (suc n) zero d h = rw (add-zero k)
  each_from k (suc n) (suc i) d h = each_from (suc k) n i d (omega arith) ∙ rw (suc-add k i, add-suc k i)

  pub each_at : (n i : ℕ) (d : A) → i < n → get_or (map f (from 0 n)) i d ≡ f i
  each_at n i d h = each_from 0 n i d h ∙ rw (zero-add i)

-- two that agree at each bit are the same
pub each_same : {A : Type 0} (f g : ℕ → A) (k n : ℕ) → ((i : ℕ) → k ≤ i → i < k + n → f i ≡ g i) → map f (from k n) ≡ map g (from k n)
unfolding from
each_same f g k zero h = refl
each_same {A} f g k (suc n) h = ap₂ (λ (x : A) (xs : List A). x ∷ xs) (h k (omega arith) (omega arith)) (each_same f g (suc k) n (λ i a b. h i (omega arith) (omega arith)))

-- the figures themselves are the list
pub each_all : (n : ℕ) (rs : List ℕ) → length rs ≡ n → map (λ k. get_or rs k 0) (from 0 n) ≡ rs
each_all n rs e = first-words n rs (omega arith) ∙ take_all n rs (omega arith)
