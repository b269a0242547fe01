-- The steps of reading a number: the ways out, and a digit more.
-- Assumes nothing.
use Rattle.std.specs.Prelude.{◌≡◌, ℕ, suc, ◌+◌, ◌-◌, ◌*◌, ◌≤◌, ◌<◌, take, drop, get_or, Option, Some, None}
use Rattle.std.proofs.Math.Path.{refl}
use Rattle.std.proofs.Common.{sym, ◌∙◌, arith, add-one, drop-cons, eq-eqb, ne_eqb}
use mathlib.Core.List.{List, [], ◌∷◌}
use Rattle.std.proofs.Math.ListN.{length}
use Rattle.std.proofs.Math.Seq.{drop-length}
use Rattle.snapshot_bound.specs.Asked.{unended, most, spelled, asked}
use Rattle.snapshot_bound.specs.AskedLaws.{unended-prefix, unended-length, spelled-digit, spelled-below, spelled-above, spelled-large, spelled-end, asked-spelled, asked-none, asked-long}
use Rattle.snapshot_worst.specs.Number.{number_of}

-- ---- a line feed at the end
module _ (s : List ℕ) where
  pub no_bytes : length s ≡ 0 → 0 ≡ length (unended s)
  unfolding unended
  no_bytes e = go s e
    where
      go : (xs : List ℕ) → length xs ≡ 0 → 0 ≡ length (unended xs)
      go [] f = refl
      go (x ∷ xs) f = absurd (omega arith)

  module _ (some : 0 < length s) where
    pub last-feed : get_or s (length s - 1) 0 ≡ 10 → length s - 1 ≡ length (unended s)
    last-feed e = omega (arith, rw (eq-eqb (get_or s (length s - 1) 0) 10 e) at (unended-length s (length s - 1) (omega arith)))

    pub last-other : (get_or s (length s - 1) 0 ≡ 10 → ⊥) → length s ≡ length (unended s)
    last-other e = omega (arith, rw (ne_eqb (get_or s (length s - 1) 0) 10 e) at (unended-length s (length s - 1) (omega arith)))

-- ---- a byte more, where the first i have spelled n
module _ (s : List ℕ) (n i b : ℕ) (more : i < length s) (here : b ≡ get_or s i 0) (so_far : spelled 0 s ≡ spelled n (drop i s)) where
  byte : spelled 0 s ≡ spelled n (b ∷ drop (suc i) s)
  byte = so_far ∙ rw (drop-cons s i 0 more, here)

  pub byte-below : b < 48 → None ≡ number_of (spelled 0 s)
  unfolding number_of
  byte-below h = rw (byte, spelled-below n b (drop (suc i) s) h)

  pub byte_above : 57 < b → None ≡ number_of (spelled 0 s)
  unfolding number_of
  byte_above h = rw (byte, spelled-above n b (drop (suc i) s) h)

  pub digit-next : 48 ≤ b → b ≤ 57 → spelled 0 s ≡ spelled (10 * n + (b - 48)) (drop (i + 1) s)
  digit-next h g = rw (add-one i) (byte ∙ spelled-digit n b (drop (suc i) s) h g)

  pub digit-large : 48 ≤ b → b ≤ 57 → most < 10 * n + (b - 48) → None ≡ number_of (spelled 0 s)
  unfolding number_of
  digit-large h g l = rw (digit-next h g, spelled-large (10 * n + (b - 48)) (drop (i + 1) s) l)

pub number-end : (s : List ℕ) (n i : ℕ) → i ≡ length s → n ≤ most → spelled 0 s ≡ spelled n (drop i s) → Some n ≡ number_of (spelled 0 s)
unfolding number_of
number-end s n i h l e = rw (e, h, drop-length s, spelled-end n l)

-- ---- the whole input, whose digits end at len
module _ (s : List ℕ) (len : ℕ) (ended : len ≡ length (unended s)) where
  pub no_digit : len ≡ 0 → None ≡ number_of (asked s)
  unfolding number_of
  no_digit h = rw (asked-none s (sym ended ∙ h))

  pub four-digits : 3 < len → None ≡ number_of (asked s)
  unfolding number_of
  four-digits h = rw (asked-long s (omega arith))

  pub digits-read : (r : Option ℕ) → 0 < len → len ≤ 3 → r ≡ number_of (spelled 0 (take len s)) → r ≡ number_of (asked s)
  digits-read r h g e =
      let p : take len s ≡ unended s = rw ended (unended-prefix s) in
      e ∙ rw (p, asked-spelled s (omega arith) (omega arith))
