-- The bytes of an input one by one, how many of them suffice, and how long an answer can get.
-- Assumes nothing.
use Rattle.std.proofs.Math.Path.{◌≡◌}
use Rattle.std.specs.Prelude.{refl, Bool, ◌&&◌, List, [], ◌∷◌, ℕ, zero, suc, ◌+◌, ◌-◌, ◌*◌, ◌^◌, ◌≤◌, ◌<◌, length, take, drop, get_or, eqb}
use Rattle.std.proofs.Common.{sym, ap, ◌∙◌, arith, length-take, take_all}
use Rattle.std.proofs.Math.Bool.{true, false, and-false}
use Rattle.std.proofs.Math.Option.{Option, none, some}
use Rattle.std.proofs.Math.Decide.{dec_le}
use Rattle.std.proofs.Math.Dec.{leb}
use borrow.Author.Tests.{le-leb, lt-leb, leb-true}
use Rattle.base.specs.Logic.{pick, all}
use Rattle.base.specs.Laws.{and_left, and_right}
use Rattle.base.specs.Maybe.{◌>>◌, ensure, maybe}
use Rattle.snapshot.specs.Write.{snapshot_bytes}
use Rattle.snapshot_bound.specs.Bound.{longest, worst, SnapshotBound}
use Rattle.snapshot_bound.specs.BoundLaws.{snapshot-bounded}
use Rattle.snapshot_bound.specs.Asked.{digit, unended, decimal, most, spelled, asked, answered}

-- ---- a line feed at the end
pub unended-prefix : (bs : List ℕ) → take (length (unended bs)) bs ≡ unended bs
unfolding unended
unended-prefix [] = refl
unended-prefix (b ∷ []) = go (eqb b 10)
  where
    go : (p : Bool) → take (length (pick p [] (b ∷ []))) (b ∷ []) ≡ pick p [] (b ∷ [])
    go true = refl
    go false = refl
unended-prefix (b ∷ c ∷ bs) = ap (λ (l : List ℕ). b ∷ l) (unended-prefix (c ∷ bs))

-- all bytes are before it but the last, byte k, where that is one
pub unended-length : (bs : List ℕ) (k : ℕ) → length bs ≡ suc k → length (unended bs) + pick {A = ℕ} (eqb (get_or bs k 0) 10) 1 0 ≡ suc k
unfolding unended
unended-length [] k e = absurd (omega arith)
unended-length (b ∷ []) zero e = go (eqb b 10)
  where
    go : (p : Bool) → length (pick p [] (b ∷ [])) + pick {A = ℕ} p 1 0 ≡ 1
    go true = refl
    go false = refl
unended-length (b ∷ []) (suc k) e = absurd (omega arith)
unended-length (b ∷ c ∷ bs) zero e = absurd (omega arith)
unended-length (b ∷ c ∷ bs) (suc k) e = let r = unended-length (c ∷ bs) k (omega arith) in omega arith

-- ---- digits, one after the other
decimal-grows : (n : ℕ) (bs : List ℕ) → n ≤ decimal n bs
unfolding decimal
decimal-grows n [] = omega arith
decimal-grows n (b ∷ bs) = omega (arith, decimal-grows (10 * n + (b - 48)) bs)

module _ (n : ℕ) (b : ℕ) (bs : List ℕ) where
  pub spelled-digit : 48 ≤ b → b ≤ 57 → spelled n (b ∷ bs) ≡ spelled (10 * n + (b - 48)) bs
  unfolding spelled decimal all
  spelled-digit h g = rw (le-leb 48 b h, le-leb b 57 g)

  pub spelled-below : b < 48 → spelled n (b ∷ bs) ≡ none
  unfolding spelled all
  spelled-below h = rw (lt-leb 48 b h)

  pub spelled-above : 57 < b → spelled n (b ∷ bs) ≡ none
  unfolding spelled all
  spelled-above h = rw (le-leb 48 b (omega arith), lt-leb b 57 h)

-- a number that is too large stays so
pub spelled-large : (n : ℕ) (bs : List ℕ) → most < n → spelled n bs ≡ none
unfolding spelled
spelled-large n bs h = rw (lt-leb (decimal n bs) most (omega (arith, decimal-grows n bs)), and-false (all digit bs))

pub spelled-end : (n : ℕ) → n ≤ most → spelled n [] ≡ some n
unfolding spelled decimal all
spelled-end n h = rw (le-leb n most h)

spelled-most : (m : ℕ) (bs : List ℕ) (n : ℕ) → spelled m bs ≡ some n → n ≤ most
unfolding spelled
spelled-most m bs n e = go (all digit bs) (leb (decimal m bs) most) refl e
  where
    go : (p q : Bool) → leb (decimal m bs) most ≡ q → ensure (p && q) >> some (decimal m bs) ≡ some n → n ≤ most
    go true true r f = let same : decimal m bs ≡ n = cc in omega (arith, leb-true (decimal m bs) most r)
    go true false r f = let z : ◌≡◌ {A = ℕ} 0 1 = cc in absurd (omega arith)
    go false q r f = let z : ◌≡◌ {A = ℕ} 0 1 = cc in absurd (omega arith)

-- ---- the whole input
module _ (bs : List ℕ) where
  pub asked-spelled : 0 < length (unended bs) → length (unended bs) ≤ 3 → asked bs ≡ spelled 0 (unended bs)
  unfolding asked
  asked-spelled h g = rw (le-leb 1 (length (unended bs)) h, le-leb (length (unended bs)) 3 g)

  pub asked-none : length (unended bs) ≡ 0 → asked bs ≡ none
  unfolding asked
  asked-none h = rw h

  pub asked-long : 3 < length (unended bs) → asked bs ≡ none
  unfolding asked
  asked-long h = rw (le-leb 1 (length (unended bs)) (omega arith), lt-leb (length (unended bs)) 3 h)

  asked-most : (n : ℕ) → asked bs ≡ some n → n ≤ most
  unfolding asked
  asked-most n e = go (leb 1 (length (unended bs)) && leb (length (unended bs)) 3) e
    where
      go : (p : Bool) → ensure p >> spelled 0 (unended bs) ≡ some n → n ≤ most
      go true f = spelled-most 0 (unended bs) n f
      go false f = let z : ◌≡◌ {A = ℕ} 0 1 = cc in absurd (omega arith)

-- five bytes and more ask for nothing
asked-five : (bs : List ℕ) → 5 ≤ length bs → asked bs ≡ none
asked-five bs h = asked-long bs (go (eqb (get_or bs (length bs - 1) 0) 10) (unended-length bs (length bs - 1) (omega arith)))
  where
    go : (p : Bool) → length (unended bs) + pick {A = ℕ} p 1 0 ≡ suc (length bs - 1) → 3 < length (unended bs)
    go true e = omega arith
    go false e = omega arith

-- so the first five say what the whole input asks for
pub first-five : (bs : List ℕ) → answered (take 5 bs) ≡ answered bs
unfolding answered
first-five bs =
    elim (dec_le 5 (length bs)) [
      | yes h ↦ rw (asked-five bs h, asked-five (take 5 bs) (rw (length-take 5 bs) (omega arith)))
      | no h ↦ rw (take_all 5 bs (omega arith))
    ]

-- no answer is longer than the longest snapshot of 200 stored counts
pub answered-short : (bs : List ℕ) → length (answered bs) ≤ longest most
unfolding answered
answered-short bs = go (asked bs) refl
  where
    go : (o : Option ℕ) → asked bs ≡ o → length (maybe [] (λ n. snapshot_bytes (worst n)) o) ≤ longest most
    go none e = omega arith
    go (some n) e = let h = asked-most bs n e in omega (arith, (snapshot-bounded.reached n (omega arith)).long)
