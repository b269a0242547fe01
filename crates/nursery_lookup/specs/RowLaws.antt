-- What a row, and what none, says of the place that was searched for.
-- Assumes nothing.
use Rattle.std.specs.Prelude.{◌≡◌, ℕ, ◌≤◌, ◌<◌, List, true, false, cond, ltb, is_some, Some, None}
use Rattle.std.proofs.Common.{refl, arith, lt-ltb, le-ltb}
use Rattle.std.proofs.Math.Decide.{dec_lt}
use Rattle.cell_nursery.specs.Rows.{index_of}
use Rattle.nursery_lookup.specs.Rows.{row_in}

pub row-here : (n i k : ℕ) → k ≡ i → k < n → Some k ≡ row_in n i
row-here n i k e h = rw (← e, lt-ltb k n h) refl

pub row-past : (n i : ℕ) → n ≤ i → None ≡ row_in n i
row-past n i h = rw (le-ltb i n h) refl

-- a row that is found is the one searched for
pub row-found : (n i k : ℕ) → Some k ≡ row_in n i → (k < n) × (k ≡ i)
row-found n i k e =
    elim (dec_lt i n) [
      | yes h ↦ let q : k ≡ i = cc (rw (lt-ltb i n h) at e) in (omega arith, q)
      | no h ↦ absurd (cc (rw (le-ltb i n (omega arith)) at e))
    ]

pub none-found : (n i : ℕ) → None ≡ row_in n i → n ≤ i
none-found n i e =
    elim (dec_lt i n) [
      | yes h ↦ absurd (cc (rw (lt-ltb i n h) at e))
      | no h ↦ omega arith
    ]

-- the row of a hash, where the key that is searched for is that hash
pub hash-found : (n x h k : ℕ) (ks : List ℕ) → x ≡ h → Some k ≡ row_in n (index_of x ks) → (k < n) × (k ≡ index_of h ks)
hash-found n x h k ks e f = rw (← e) (row-found n (index_of x ks) k f)

pub hash-absent : (n x h : ℕ) (ks : List ℕ) → x ≡ h → None ≡ row_in n (index_of x ks) → n ≤ index_of h ks
hash-absent n x h ks e f = rw (← e) (none-found n (index_of x ks) f)

pub is_some-row : (n i : ℕ) → is_some (row_in n i) ≡ ltb i n
is_some-row n i = elim (ltb i n) as (λ b. is_some (cond b (Some i) None) ≡ b) [ true ↦ refl | false ↦ refl ]
