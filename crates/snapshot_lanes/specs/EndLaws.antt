-- Where the payloads end: one payload after the other, and what reading the sets makes of it.
-- Assumes nothing.
use Rattle.std.specs.Prelude.{◌≡◌, refl, Bool, true, false, length, take, drop, Result, Ok, Err}
use Rattle.std.proofs.Common.{sym, ◌∙◌, true≢false}
use Rattle.std.proofs.Math.Path.{ap}
use Rattle.std.proofs.Math.Option.{Option, none, some}
use mathlib.Core.List.{List, ◌∷◌}
use Prim.Native.Nat.{ℕ, zero, suc, ◌+◌, ◌-◌, ◌≤◌, ◌<◌}
use native.Mathlib.Omega.{arith}
use Rattle.std.proofs.Math.Decide.{dec_le, dec_lt}
use borrow.Author.Tests.{le-ltb, lt-ltb}
use Rattle.std.proofs.Math.Seq.{drop-drop}
use Rattle.base.specs.Answers.{Outcome, refused, taken, ◌>>=◌, or_refuse}
use Rattle.base.specs.declared.Refusal.{Refusal}
use Rattle.base.specs.declared.Refusal.TheVariants.{TornSnapshot, BadBitmap}
use Rattle.slices.specs.NumberLaws.{cut_at, cut_short, read_le-at, read_le-short}
use Rattle.roaring.specs.Read.{is_some, parse64}
use Rattle.roaring_cursor.specs.Cursor.{members_of}
use Rattle.snapshot_tiers.specs.Payloads.{size_of, payload_of, sets_of, rest_after, is_taken}
use Rattle.snapshot_lanes.specs.Lanes.{AtFirst}
use Rattle.snapshot_lanes.specs.Ends.{sets_end, place_or}

-- what is left at an end
abbrev pub rest_at : List ℕ → Result ℕ Refusal → Outcome (List ℕ)
rest_at s (Ok e) = taken (drop e s)
rest_at s (Err q) = refused q

-- where they end is where reading them does
pub record Ended (s : List ℕ) (at : ℕ) (r : Result ℕ Refusal) : Type 0 where
  pub rest : rest_at s r ≡ rest_after 8 (drop at s)
  pub inside : place_or 0 r ≤ length s

-- ---- a payload at p, of n that are left
module _ (s : List ℕ) (p n : ℕ) where
  pub rest-short : 0 < n → length s < p + 8 → refused TornSnapshot ≡ rest_after n (drop p s)
  unfolding rest_after
  rest-short h q = go n h
    where
      go : (m : ℕ) → 0 < m → refused TornSnapshot ≡ rest_after m (drop p s)
      go zero g = absurd (omega arith)
      go (suc m) g = rw (read_le-short 8 p s (omega arith) (omega arith))

  module _ (led : p + 8 ≤ length s) (size : ℕ) (e : size ≡ size_of (drop p s)) where
    pub rest-torn : 0 < n → length s < p + 8 + size → refused TornSnapshot ≡ rest_after n (drop p s)
    unfolding rest_after
    rest-torn h q = go n h
      where
        go : (m : ℕ) → 0 < m → refused TornSnapshot ≡ rest_after m (drop p s)
        go zero g = absurd (omega arith)
        go (suc m) g = rw (read_le-at 8 p s led, ← e, cut_short size (p + 8) s (omega arith) (omega arith))

    module _ (fits : p + 8 + size ≤ length s) where
      whole : (m : ℕ) → rest_after (suc m) (drop p s) ≡ (or_refuse BadBitmap (parse64 (take size (drop (p + 8) s))) >>= (λ xs. rest_after m (drop (p + 8 + size) s)))
      unfolding rest_after
      whole m = rw (read_le-at 8 p s led, ← e, cut_at size (p + 8) s fits)

      pub rest-bad : 0 < n → is_some (parse64 (take size (drop (p + 8) s))) ≡ false → refused BadBitmap ≡ rest_after n (drop p s)
      rest-bad h q = go n h
        where
          none_of : (o : Option (List ℕ)) (f : List ℕ → Outcome (List ℕ)) → is_some o ≡ false → refused BadBitmap ≡ (or_refuse BadBitmap o >>= f)
          none_of none f r = refl
          none_of (some xs) f r = absurd (true≢false r)

          go : (m : ℕ) → 0 < m → refused BadBitmap ≡ rest_after m (drop p s)
          go zero g = absurd (omega arith)
          go (suc m) g = none_of (parse64 (take size (drop (p + 8) s))) _ q ∙ sym (whole m)

      pub rest-next : 0 < n → is_some (parse64 (take size (drop (p + 8) s))) ≡ true → rest_after n (drop p s) ≡ rest_after (n - 1) (drop (p + 8 + size) s)
      rest-next h q = go n h
        where
          some_of : (o : Option (List ℕ)) (r : Outcome (List ℕ)) → is_some o ≡ true → (or_refuse BadBitmap o >>= (λ xs. r)) ≡ r
          some_of none r t = absurd (true≢false (sym t))
          some_of (some xs) r t = refl

          go : (m : ℕ) → 0 < m → rest_after m (drop p s) ≡ rest_after (m - 1) (drop (p + 8 + size) s)
          go zero g = absurd (omega arith)
          go (suc m) g =
              let z : suc m - 1 ≡ m = omega arith in
              whole m ∙ some_of (parse64 (take size (drop (p + 8) s))) (rest_after m (drop (p + 8 + size) s)) q ∙ rw z

pub rest_end : (s : List ℕ) (p n : ℕ) → n ≡ 0 → taken (drop p s) ≡ rest_after n (drop p s)
unfolding rest_after
rest_end s p n e = rw e

-- ---- the same of where they end
module _ (s : List ℕ) (p n : ℕ) where
  pub end_short : 0 < n → length s < p + 8 → Err TornSnapshot ≡ sets_end n p s
  unfolding sets_end
  end_short h q = go n h
    where
      go : (m : ℕ) → 0 < m → Err TornSnapshot ≡ sets_end m p s
      go zero g = absurd (omega arith)
      go (suc m) g = rw (lt-ltb (length s) (p + 8) q)

  module _ (led : p + 8 ≤ length s) (size : ℕ) (e : size ≡ size_of (drop p s)) where
    pub end-torn : 0 < n → length s < p + 8 + size → Err TornSnapshot ≡ sets_end n p s
    unfolding sets_end
    end-torn h q = go n h
      where
        go : (m : ℕ) → 0 < m → Err TornSnapshot ≡ sets_end m p s
        go zero g = absurd (omega arith)
        go (suc m) g = rw (le-ltb (length s) (p + 8) led, ← e, lt-ltb (length s) (p + 8 + size) q)

    module _ (fits : p + 8 + size ≤ length s) where
      pub end-bad : 0 < n → is_some (parse64 (take size (drop (p + 8) s))) ≡ false → Err BadBitmap ≡ sets_end n p s
      unfolding sets_end
      end-bad h q = go n h
        where
          go : (m : ℕ) → 0 < m → Err BadBitmap ≡ sets_end m p s
          go zero g = absurd (omega arith)
          go (suc m) g = rw (le-ltb (length s) (p + 8) led, ← e, le-ltb (length s) (p + 8 + size) fits, drop-drop 8 p s, q)

      pub end-next : 0 < n → is_some (parse64 (take size (drop (p + 8) s))) ≡ true → sets_end n p s ≡ sets_end (n - 1) (p + 8 + size) s
      unfolding sets_end
      end-next h q = go n h
        where
          go : (m : ℕ) → 0 < m → sets_end m p s ≡ sets_end (m - 1) (p + 8 + size) s
          go zero g = absurd (omega arith)
          go (suc m) g =
              let z : suc m - 1 ≡ m = omega arith in
              rw (le-ltb (length s) (p + 8) led, ← e, le-ltb (length s) (p + 8 + size) fits, drop-drop 8 p s, q, z)

pub end-done : (s : List ℕ) (p n : ℕ) → n ≡ 0 → Ok p ≡ sets_end n p s
unfolding sets_end
end-done s p n e = rw e

module _ (s : List ℕ) where
  ends : (n p : ℕ) → p ≤ length s → (rest_at s (sets_end n p s) ≡ rest_after n (drop p s)) × (place_or 0 (sets_end n p s) ≤ length s)
  ends zero p h = rw (← end-done s p 0 refl) (rest_end s p 0 refl, h)
  ends (suc n) p h =
      elim (dec_lt (length s) (p + 8)) [
        | yes g ↦ rw (← end_short s p (suc n) (omega arith) g) (rest-short s p (suc n) (omega arith) g, omega arith)
        | no g ↦ elim (dec_lt (length s) (p + 8 + size_of (drop p s))) [
          | yes t ↦
              rw (← end-torn s p (suc n) (omega arith) (size_of (drop p s)) refl (omega arith) t)
              (rest-torn s p (suc n) (omega arith) (size_of (drop p s)) refl (omega arith) t, omega arith)
          | no t ↦ go (omega arith) (omega arith) (ends n (p + 8 + size_of (drop p s)) (omega arith)) (is_some (parse64 (take (size_of (drop p s)) (drop (p + 8) s)))) refl
        ]
      ]
    where
      go : p + 8 ≤ length s → p + 8 + size_of (drop p s) ≤ length s
          → (rest_at s (sets_end n (p + 8 + size_of (drop p s)) s) ≡ rest_after n (drop (p + 8 + size_of (drop p s)) s)) × (place_or 0 (sets_end n (p + 8 + size_of (drop p s)) s) ≤ length s)
          → (b : Bool) → is_some (parse64 (take (size_of (drop p s)) (drop (p + 8) s))) ≡ b
          → (rest_at s (sets_end (suc n) p s) ≡ rest_after (suc n) (drop p s)) × (place_or 0 (sets_end (suc n) p s) ≤ length s)
      go led fits rest true e =
          let z : suc n - 1 ≡ n = omega arith in
          rw (
            end-next s p (suc n) led (size_of (drop p s)) refl fits (omega arith) e,
            rest-next s p (suc n) led (size_of (drop p s)) refl fits (omega arith) e,
            z,
          ) rest
      go led fits rest false e =
          rw (← end-bad s p (suc n) led (size_of (drop p s)) refl fits (omega arith) e)
          (rest-bad s p (suc n) led (size_of (drop p s)) refl fits (omega arith) e, omega arith)

  pub ended : (at : ℕ) → at ≤ length s → Ended s at (sets_end 8 at s)
  ended at h = let x = ends 8 at h in record { rest = x.0; inside = x.1 }

-- ---- where the payloads are there, so is the first of them
not-refused : (q : Refusal) (o : Outcome (List ℕ)) → refused q ≡ o → is_taken o ≡ true → ⊥
not-refused q o e h = true≢false (sym h ∙ ap is_taken (sym e))

pub record First (s : List ℕ) (p n : ℕ) : Type 0 where
  pub here : AtFirst s p
  pub more : is_taken (rest_after (n - 1) (drop (p + 8 + size_of (drop p s)) s)) ≡ true
  pub sets : sets_of n (drop p s) ≡ members_of (payload_of (drop p s)) ∷ sets_of (n - 1) (drop (p + 8 + size_of (drop p s)) s)

module _ (s : List ℕ) (p n : ℕ) (some_left : 0 < n) (there : is_taken (rest_after n (drop p s)) ≡ true) where
  is-led : p + 8 ≤ length s
  is-led =
      elim (dec_le (p + 8) (length s)) [
        | yes h ↦ h
        | no h ↦ absurd (not-refused TornSnapshot (rest_after n (drop p s)) (rest-short s p n some_left (omega arith)) there)
      ]

  is-inside : p + 8 + size_of (drop p s) ≤ length s
  is-inside =
      elim (dec_le (p + 8 + size_of (drop p s)) (length s)) [
        | yes h ↦ h
        | no h ↦ absurd (not-refused TornSnapshot (rest_after n (drop p s)) (rest-torn s p n is-led (size_of (drop p s)) refl some_left (omega arith)) there)
      ]

  is-bitmap : is_some (parse64 (take (size_of (drop p s)) (drop (p + 8) s))) ≡ true
  is-bitmap = go (is_some (parse64 (take (size_of (drop p s)) (drop (p + 8) s)))) refl
    where
      go : (b : Bool) → is_some (parse64 (take (size_of (drop p s)) (drop (p + 8) s))) ≡ b → b ≡ true
      go true e = refl
      go false e = absurd (not-refused BadBitmap (rest_after n (drop p s)) (rest-bad s p n is-led (size_of (drop p s)) refl is-inside some_left e) there)

  first-sets : (m : ℕ) → 0 < m → sets_of m (drop p s) ≡ members_of (payload_of (drop p s)) ∷ sets_of (m - 1) (drop (p + 8 + size_of (drop p s)) s)
  unfolding sets_of
  first-sets zero h = absurd (omega arith)
  first-sets (suc m) h =
      let z : suc m - 1 ≡ m = omega arith in
      ap (λ (r : List ℕ). members_of (payload_of (drop p s)) ∷ sets_of m r) (ap (drop (size_of (drop p s))) (drop-drop 8 p s) ∙ drop-drop (size_of (drop p s)) (p + 8) s) ∙ rw z

  pub first_of : First s p n
  first_of =
      record {
        here = record { led = is-led; inside = is-inside; bitmap = rw (drop-drop 8 p s) is-bitmap };
        more = rw (← rest-next s p n is-led (size_of (drop p s)) refl is-inside some_left is-bitmap) there;
        sets = first-sets n some_left;
      }

pub part_same : (s : List ℕ) (p n : ℕ) → take (p + 8 + n - (p + 8)) (drop (p + 8) s) ≡ take n (drop (p + 8) s)
part_same s p n = let z : p + 8 + n - (p + 8) ≡ n = omega arith in rw z
