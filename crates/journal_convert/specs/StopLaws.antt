-- Where records that are taken one after another end.
-- Assumes nothing.
use Rattle.std.specs.Prelude.{◌≡◌, length, drop}
use Rattle.std.proofs.Math.Path.{refl}
use mathlib.Core.List.{List, [], ◌∷◌}
use Prim.Native.Nat.{ℕ, zero, suc, ◌+◌, ◌≤◌, ◌<◌}
use native.Mathlib.Omega.{arith}
use Rattle.std.proofs.Math.ListN.{length-drop}
use Rattle.base.specs.Answers.{Outcome, refused, taken, either}
use Rattle.base.specs.OutcomeLaws.{refused-taken}
use Rattle.base.specs.declared.Refusal.{Refusal}
use Rattle.format.specs.Record.{Decoding, parse}
use Rattle.journal.proofs.ConvertLaws.{parse-none}
use Rattle.journal_convert.specs.Rewriting.{stop_from}

module _ (hash : List ℕ → List ℕ) where
  -- where a record that is taken leads
  abbrev onward : ℕ → ℕ → List ℕ → Decoding → ℕ
  onward fuel place bs d = let n : ℕ = 40 + d.stats.payload_bytes in stop_from hash fuel (place + n) (drop n bs)

  -- ---- the fuel
  same_stop : (f g place : ℕ) (bs : List ℕ) → length bs ≤ f → length bs ≤ g → stop_from hash f place bs ≡ stop_from hash g place bs
  unfolding stop_from
  same_stop zero zero place bs h k = refl
  same_stop zero (suc g) place [] h k = rw parse-none
  same_stop zero (suc g) place (x ∷ xs) h k = absurd (omega arith)
  same_stop (suc f) zero place [] h k = rw parse-none
  same_stop (suc f) zero place (x ∷ xs) h k = absurd (omega arith)
  same_stop (suc f) (suc g) place bs h k =
      go (λ d.
      let n : ℕ = 40 + d.stats.payload_bytes in
      let l = length-drop n bs in
      same_stop f g (place + n) (drop n bs) (omega arith) (omega arith)) (parse hash bs)
    where
      go : ((d : Decoding) → onward f place bs d ≡ onward g place bs d) → (o : Outcome Decoding) → either (λ r. place) (onward f place bs) o ≡ either (λ r. place) (onward g place bs) o
      go later (refused r) = refl
      go later (taken d) = later d

  -- from a place on, with as much fuel as there are bytes
  abbrev pub stop_in : ℕ → List ℕ → ℕ
  stop_in place bs = stop_from hash (length bs) place bs

  stop-behind : (fuel place : ℕ) (bs : List ℕ) → place ≤ stop_from hash fuel place bs
  unfolding stop_from
  stop-behind zero place bs = omega arith
  stop-behind (suc fuel) place bs =
      go (λ d.
      let n : ℕ = 40 + d.stats.payload_bytes in
      let l = stop-behind fuel (place + n) (drop n bs) in
      omega arith) (parse hash bs)
    where
      go : ((d : Decoding) → place ≤ onward fuel place bs d) → (o : Outcome Decoding) → place ≤ either (λ r. place) (onward fuel place bs) o
      go later (refused r) = omega arith
      go later (taken d) = later d

  -- ---- a record at the start of what is left
  module _ (place : ℕ) (bs : List ℕ) where
    -- it is refused, and ends them
    pub stop-refused : (r : Refusal) → parse hash bs ≡ refused r → stop_in place bs ≡ place
    unfolding stop_from
    stop-refused r e = go bs e
      where
        go : (l : List ℕ) → parse hash l ≡ refused r → stop_in place l ≡ place
        go [] i = refl
        go (x ∷ xs) i = rw i

    -- it is taken: the next stands behind it
    pub stop-taken : (d : Decoding) → parse hash bs ≡ taken d → stop_in place bs ≡ stop_in (place + (40 + d.stats.payload_bytes)) (drop (40 + d.stats.payload_bytes) bs)
    unfolding stop_from
    stop-taken d e = go bs e
      where
        n : ℕ
        n = 40 + d.stats.payload_bytes

        go : (l : List ℕ) → parse hash l ≡ taken d → stop_in place l ≡ stop_in (place + n) (drop n l)
        go [] i = absurd (refused-taken (rw parse-none at i))
        go (x ∷ xs) i =
            let k = length-drop n (x ∷ xs) in
            rw i (same_stop (length xs) (length (drop n (x ∷ xs))) (place + n) (drop n (x ∷ xs)) (omega arith) (omega arith))

    -- so before the end one is taken, and at the end none
    pub stop-later : place < stop_in place bs → (d : Decoding) × (parse hash bs ≡ taken d)
    stop-later h = go (parse hash bs) refl
      where
        go : (o : Outcome Decoding) → parse hash bs ≡ o → (d : Decoding) × (parse hash bs ≡ taken d)
        go (refused r) e = absurd (omega (arith, stop-refused r e))
        go (taken d) e = (d, e)

    pub stop-here : stop_in place bs ≤ place → (r : Refusal) × (parse hash bs ≡ refused r)
    stop-here h = go (parse hash bs) refl
      where
        go : (o : Outcome Decoding) → parse hash bs ≡ o → (r : Refusal) × (parse hash bs ≡ refused r)
        go (refused r) e = (r, e)
        go (taken d) e =
            let n : ℕ = 40 + d.stats.payload_bytes in
            absurd (omega (arith, stop-taken d e, stop-behind (length (drop n bs)) (place + n) (drop n bs)))
