-- The eight sets laid over one another give the small tier: bit k of an index's code says whether set k has it.
-- Assumes nothing.
use Rattle.std.specs.Prelude.{◌≡◌, refl, Bool, true, false, ◌&&◌, ◌||◌, leb, eqb}
use Rattle.std.proofs.Math.Path.{ap}
use Rattle.std.proofs.Common.{◌∙◌, mod-eq_of_lt, mod-lt, add-zero, le-leb, leb-true, ltb-true, eqb-true, ne_eqb}
use mathlib.Core.List.{List, [], ◌∷◌}
use Prim.Native.Nat.{ℕ, zero, suc, ◌+◌, ◌-◌, ◌*◌, ◌/◌, ◌%◌, ◌^◌, ◌≤◌, ◌<◌, max}
use Rattle.std.proofs.Math.Nat.{pow-succ', one-le-pow, mod-one, zero-div}
use native.Mathlib.Omega.{arith}
use Rattle.std.proofs.Math.Arith.{mod-mul}
use Rattle.std.proofs.Math.Dec.{ltb}
use Rattle.std.proofs.lemmas.Bool.{lt-leb, eqb-false}
use Rattle.base.specs.Logic.{pick, all, any, keep, fold, elem, ascending_from}
use Rattle.base.specs.Laws.{and_left, and_right, ascending-head, ascending-tail}
use Rattle.base.specs.ListLaws.{all_keep, ascending-keep}
use Rattle.base.specs.SumLaws.{all_map}
use Rattle.counters.specs.Counts.{Entry, stored_at, count_at, set_count, small_code, in_set, members}
use Rattle.counters.specs.Layout.{ordered}
use Rattle.counters.proofs.CountLaws.{count_at-set_count, ordered-set_count}
use Rattle.snapshot.specs.Read.{lay_bit}
use Rattle.snapshot_laws.specs.SetLaws.{index, ascends, all-below, elem-keep, ordered-none}

-- ---- a set's members laid on
elem-before : (lo j : ℕ) (ms : List ℕ) → ascending_from lo ms ≡ true → j < lo → elem j ms ≡ false
unfolding any
elem-before lo j [] a h = refl
elem-before lo j (m ∷ ms) a h =
    let l = ascending-head lo m ms a in
    rw (ne_eqb j m (omega arith)) (elem-before (suc m) j ms (ascending-tail lo m ms a) (omega arith))

-- each member's count grows by 2 ^ k
pub count-lay_bit : (k lo j : ℕ) (ms : List ℕ) (es : List Entry) → ascending_from lo ms ≡ true
    → count_at j (lay_bit k ms es) ≡ count_at j es + pick (elem j ms) (2 ^ k) 0
unfolding lay_bit fold any
count-lay_bit k lo j [] es a = omega arith
count-lay_bit k lo j (m ∷ ms) es a =
    count-lay_bit k (suc m) j ms (set_count m (count_at m es + 2 ^ k) es) tail ∙ rw (count_at-set_count m (count_at m es + 2 ^ k) es j) (go (eqb j m) refl)
  where
    tail : ascending_from (suc m) ms ≡ true
    tail = ascending-tail lo m ms a

    go : (b : Bool) → eqb j m ≡ b
        → pick b (max (count_at m es + 2 ^ k) 1) (count_at j es) + pick (elem j ms) (2 ^ k) 0 ≡ count_at j es + pick (b || elem j ms) (2 ^ k) 0
    go true q =
        let i = eqb-true j m q in
        rw (elem-before (suc m) j ms tail (omega arith), i) (omega (arith, one-le-pow k 2 (omega arith)))
    go false q = refl

pub ordered-lay_bit : (k next : ℕ) (ms : List ℕ) (es : List Entry) → all (λ m. ltb m next) ms ≡ true → ordered next es ≡ true → ordered next (lay_bit k ms es) ≡ true
unfolding lay_bit fold all
ordered-lay_bit k next [] es b o = o
ordered-lay_bit k next (m ∷ ms) es b o =
    let rest : Bool = all (λ x. ltb x next) ms in
    ordered-lay_bit k next ms (set_count m (count_at m es + 2 ^ k) es) (and_right (ltb m next) rest b)
    (ordered-set_count next es o m (count_at m es + 2 ^ k) (ltb-true m next (and_left (ltb m next) rest b)))

-- ---- the members of a set
none_in : (k : ℕ) → in_set k 0 ≡ false
unfolding in_set small_code
none_in k = rw (zero-div (2 ^ k))

module _ (k next : ℕ) (es : List Entry) (o : ordered next es ≡ true) where
  pub members-ascend : ascending_from 0 (members k es) ≡ true
  unfolding members
  members-ascend = ascending-keep index (λ e. in_set k e.count) 0 es (ascends next es o)

  pub members-below : all (λ m. ltb m next) (members k es) ≡ true
  unfolding members
  members-below =
      all_map (λ m. ltb m next) index (keep (λ e. in_set k e.count) es)
      ∙ all_keep (λ e. ltb e.idx next) (λ e. in_set k e.count) es (all-below next es o)

  pub elem-members : (j : ℕ) → elem j (members k es) ≡ in_set k (stored_at j es)
  unfolding members
  elem-members j = elem-keep (in_set k) j (none_in k) 0 es (ascends next es o)

-- ---- the code, bit by bit
pub mod-bit : (k c : ℕ) → c % 2 ^ suc k ≡ c % 2 ^ k + pick (eqb (c / 2 ^ k % 2) 1) (2 ^ k) 0
mod-bit k c =
    let b : ℕ = c / 2 ^ k % 2 in
    let h : b < 2 = mod-lt (c / 2 ^ k) (omega arith) in
    let p = one-le-pow k 2 (omega arith) in
    rw (pow-succ' 2 k, mod-mul c {m = 2} {c = 2 ^ k} (omega arith) p) (go b h (eqb b 1) refl)
  where
    go : (b : ℕ) → b < 2 → (t : Bool) → eqb b 1 ≡ t → b * 2 ^ k + c % 2 ^ k ≡ c % 2 ^ k + pick t (2 ^ k) 0
    go b h true q = rw (eqb-true b 1 q) (omega arith)
    go b h false q =
        let z : b ≡ 0 = omega (arith, eqb-false b 1 q) in
        rw z (omega arith)

-- a count from 2 to 256 is its code and 1, any other has the code 0
pub code-small : (n : ℕ) → 2 ≤ n → n ≤ 256 → small_code n ≡ n - 1
unfolding small_code
code-small n h k = rw (le-leb 2 n h, le-leb n 256 k)

pub code-low : (n : ℕ) → n < 2 → small_code n ≡ 0
unfolding small_code
code-low n h = rw (lt-leb 2 n h)

pub code-large : (n : ℕ) → 257 ≤ n → small_code n ≡ 0
unfolding small_code
code-large n h = rw (le-leb 2 n (omega arith), lt-leb n 256 h)

code-byte : (n : ℕ) → small_code n < 256
unfolding small_code
code-byte n = go (leb 2 n) (leb n 256) refl
  where
    go : (a b : Bool) → leb n 256 ≡ b → pick (a && b) (n - 1) 0 < 256
    go true true q = omega (arith, leb-true n 256 q)
    go true false q = omega arith
    go false b q = omega arith

-- n sets from set k on, laid over rows
unfoldable pub lay_sets : List Entry → ℕ → ℕ → List Entry → List Entry
lay_sets es zero k rows = rows
lay_sets es (suc n) k rows = lay_sets es n (suc k) (lay_bit k (members k es) rows)

module _ (next : ℕ) (es : List Entry) (o : ordered next es ≡ true) where
  pub ordered-lay_sets : (n k : ℕ) (rows : List Entry) → ordered next rows ≡ true → ordered next (lay_sets es n k rows) ≡ true
  unfolding lay_sets
  ordered-lay_sets zero k rows r = r
  ordered-lay_sets (suc n) k rows r = ordered-lay_sets n (suc k) (lay_bit k (members k es) rows) (ordered-lay_bit k next (members k es) rows (members-below k next es o) r)

  module _ (j : ℕ) where
    -- one more set brings one more bit
    count-bit : (k : ℕ) (rows : List Entry) → count_at j rows ≡ 1 + small_code (stored_at j es) % 2 ^ k
        → count_at j (lay_bit k (members k es) rows) ≡ 1 + small_code (stored_at j es) % 2 ^ suc k
    unfolding in_set
    count-bit k rows h =
        count-lay_bit k 0 j (members k es) rows (members-ascend k next es o)
        ∙ rw (elem-members k next es o j) (omega (arith, mod-bit k (small_code (stored_at j es))))

    pub count-lay_sets : (n k : ℕ) (rows : List Entry) → count_at j rows ≡ 1 + small_code (stored_at j es) % 2 ^ k
        → count_at j (lay_sets es n k rows) ≡ 1 + small_code (stored_at j es) % 2 ^ (k + n)
    unfolding lay_sets
    count-lay_sets zero k rows h = rw (add-zero k) h
    count-lay_sets (suc n) k rows h =
        let e : k + suc n ≡ suc k + n = omega arith in
        rw e (count-lay_sets n (suc k) (lay_bit k (members k es) rows) (count-bit k rows h))

-- ---- the small tier
unfoldable pub small : List Entry → List Entry
small es = lay_sets es 8 0 []

module _ (next : ℕ) (es : List Entry) (o : ordered next es ≡ true) where
  pub ordered-small : ordered next (small es) ≡ true
  unfolding small
  ordered-small = ordered-lay_sets next es o 8 0 [] (ordered-none next)

  pub count_small : (j : ℕ) → count_at j (small es) ≡ 1 + small_code (stored_at j es)
  unfolding small count_at stored_at
  count_small j =
      let c : ℕ = small_code (stored_at j es) in
      let start : 1 ≡ 1 + c % 2 ^ 0 = omega (arith, mod-one c) in
      count-lay_sets next es o j 8 0 [] start ∙ ap (λ (x : ℕ). 1 + x) (mod-eq_of_lt (code-byte (stored_at j es)))
