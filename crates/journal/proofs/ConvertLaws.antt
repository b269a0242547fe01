-- Laws of converting a journal: any fuel as large as the bytes are many gives the same, one record is one step, and how many bytes the new journal and the list
-- of what was dropped have.
-- Assumes nothing.
use Rattle.std.specs.Prelude.{◌≡◌, Bool, true, false, length, drop, ltb, eqb}
use Rattle.std.proofs.Math.Path.{refl, ap}
use Rattle.std.proofs.Common.{sym, ◌∙◌, add-zero, arith, eqb-true}
use mathlib.Core.List.{List, [], ◌∷◌}
use Prim.Native.Nat.{ℕ, zero, suc, ◌+◌, ◌*◌, ◌≤◌, ◌<◌}
use Rattle.std.proofs.Math.ListN.{length-append, length-drop}
use Rattle.std.proofs.lemmas.Bool.{eqb-false}
use Rattle.base.specs.Logic.{pick, sum_of, flat}
use Rattle.base.specs.Laws.{length_digits}
use Rattle.base.specs.ListLaws.{all_drop, length-flat-even}
use Rattle.base.specs.SumLaws.{sum-append}
use Rattle.base.specs.SpellLaws.{Bytes}
use Rattle.base.specs.Answers.{Outcome, refused, taken, either}
use Rattle.base.specs.OutcomeLaws.{refused-taken}
use Rattle.base.specs.declared.Refusal.{Refusal}
use Rattle.base.specs.declared.Refusal.TheVariants.{ShortRecord}
use Rattle.format.specs.declared.RecordStats.{RecordStats}
use Rattle.format.specs.Record.{Decoding, leftover, parse}
use Rattle.format.proofs.RecordLaws.{length-payload, length-record}
use Rattle.format.proofs.ExactLaws.{Spelled, parsed}
use Rattle.journal.specs.Convert.{Dropped, dropped_bytes, Conversion, unchanged, dropped_at, anew, convert_from, convert}

module _ (hash : List ℕ → List ℕ) where
  -- no byte starts no record
  pub parse-none : parse hash [] ≡ refused ShortRecord
  unfolding parse
  parse-none = refl

  -- ---- the fuel
  same-conversion : (f g place : ℕ) (bs : List ℕ) → length bs ≤ f → length bs ≤ g → convert_from hash f place bs ≡ convert_from hash g place bs
  unfolding convert_from
  same-conversion zero zero place bs h k = refl
  same-conversion zero (suc g) place [] h k = rw parse-none
  same-conversion zero (suc g) place (x ∷ xs) h k = absurd (omega arith)
  same-conversion (suc f) zero place [] h k = rw parse-none
  same-conversion (suc f) zero place (x ∷ xs) h k = absurd (omega arith)
  same-conversion (suc f) (suc g) place bs h k =
      go (λ d.
      let n : ℕ = 40 + d.stats.payload_bytes in
      let l = length-drop n bs in
      ap (anew hash place d) (same-conversion f g (place + n) (drop n bs) (omega arith) (omega arith))) (parse hash bs)
    where
      onward : ℕ → Decoding → Conversion
      onward fuel d = let n : ℕ = 40 + d.stats.payload_bytes in anew hash place d (convert_from hash fuel (place + n) (drop n bs))

      go : ((d : Decoding) → onward f d ≡ onward g d) → (o : Outcome Decoding) → either (λ r. unchanged bs) (onward f) o ≡ either (λ r. unchanged bs) (onward g) o
      go later (refused r) = refl
      go later (taken d) = later d

  -- what is left from a place on, with as much fuel as it has bytes
  abbrev pub convert_in : ℕ → List ℕ → Conversion
  convert_in place bs = convert_from hash (length bs) place bs

  convert-enough : (fuel place : ℕ) (bs : List ℕ) → length bs ≤ fuel → convert_from hash fuel place bs ≡ convert_in place bs
  convert-enough fuel place bs h = same-conversion fuel (length bs) place bs h (omega arith)

  -- ---- a record at the start of what is left
  module _ (place : ℕ) (bs : List ℕ) where
    -- it is refused: the bytes stay as they are
    pub convert-refused : (r : Refusal) → parse hash bs ≡ refused r → convert_in place bs ≡ unchanged bs
    unfolding convert_from
    convert-refused r e = go bs e
      where
        go : (l : List ℕ) → parse hash l ≡ refused r → convert_in place l ≡ unchanged l
        go [] i = refl
        go (x ∷ xs) i = rw i

    -- it is taken: it is written anew, before what comes after it
    pub convert-taken : (d : Decoding) → parse hash bs ≡ taken d
        → convert_in place bs ≡ anew hash place d (convert_in (place + (40 + d.stats.payload_bytes)) (drop (40 + d.stats.payload_bytes) bs))
    unfolding convert_from
    convert-taken d e = go bs e
      where
        n : ℕ
        n = 40 + d.stats.payload_bytes

        go : (l : List ℕ) → parse hash l ≡ taken d → convert_in place l ≡ anew hash place d (convert_in (place + n) (drop n l))
        go [] i = absurd (refused-taken (rw parse-none at i))
        go (x ∷ xs) i =
            let k = length-drop n (x ∷ xs) in
            rw i (ap (anew hash place d) (convert-enough (length xs) (place + n) (drop n (x ∷ xs)) (omega arith)))

  -- ---- records one after another, to the end of the bytes or to one that is refused: what the laws of converting go along
  pub data Walk : List ℕ → Type 0 where
    finished : Walk []
    halted : {bs : List ℕ} (r : Refusal) → 0 < length bs → parse hash bs ≡ refused r → Walk bs
    next : {bs : List ℕ} (d : Decoding) → parse hash bs ≡ taken d → Walk (drop (40 + d.stats.payload_bytes) bs) → Walk bs

  walked_by : (fuel : ℕ) (bs : List ℕ) → length bs ≤ fuel → Walk bs
  walked_by zero [] h = finished
  walked_by zero (x ∷ xs) h = absurd (omega arith)
  walked_by (suc fuel) [] h = finished
  walked_by (suc fuel) (x ∷ xs) h =
      go (λ d.
      let n : ℕ = 40 + d.stats.payload_bytes in
      let l = length-drop n (x ∷ xs) in
      walked_by fuel (drop n (x ∷ xs)) (omega arith)) (parse hash (x ∷ xs)) refl
    where
      go : ((d : Decoding) → Walk (drop (40 + d.stats.payload_bytes) (x ∷ xs))) → (o : Outcome Decoding) → parse hash (x ∷ xs) ≡ o → Walk (x ∷ xs)
      go later (refused r) e = halted {bs = x ∷ xs} r (omega arith) e
      go later (taken d) e = next d e (later d)

  pub walked : (bs : List ℕ) → Walk bs
  walked bs = walked_by (length bs) bs (omega arith)

-- ---- sizes
-- an entry of the list has 16 bytes
pub length-dropped : (xs : List Dropped) → length (flat dropped_bytes xs) ≡ 16 * length xs
unfolding dropped_bytes
length-dropped xs = length-flat-even dropped_bytes 16 (λ x. simp (length-append, length_digits)) xs

-- what is dropped of a record: its leftovers, as one entry or none
dropped-of : (place : ℕ) (t : RecordStats) → (sum_of (λ x. x.count) (dropped_at place t) ≡ leftover t) × (length (dropped_at place t) ≤ 1) × (length (dropped_at place t) ≤ leftover t)
unfolding dropped_at sum_of
dropped-of place t = go (eqb (leftover t) 0) refl _ refl
  where
    Listed : List Dropped → Type 0
    Listed xs = (sum_of (λ x. x.count) xs ≡ leftover t) × (length xs ≤ 1) × (length xs ≤ leftover t)

    go : (b : Bool) → eqb (leftover t) 0 ≡ b → (x : Dropped) → x.count ≡ leftover t → Listed (pick b [] (x ∷ []))
    go true e x c = (sym (eqb-true (leftover t) 0 e), omega arith, omega arith)
    go false e x c = let n = eqb-false (leftover t) 0 e in (add-zero x.count ∙ c, omega arith, omega arith)

-- the bytes of a new journal and those dropped are as many as before; a record with leftovers has 57 at least: hash, length, id, counts and one more
pub record Sized (bs : List ℕ) (c : Conversion) : Type 0 where
  pub bytes : length c.bytes + sum_of (λ x. x.count) c.dropped ≡ length bs
  pub entries : 57 * length c.dropped ≤ length bs

unchanged-sized : (bs : List ℕ) → Sized bs (unchanged bs)
unfolding sum_of
unchanged-sized bs = record { bytes = add-zero (length bs); entries = omega arith }

module _ (hash : List ℕ → List ℕ) (long : (b : List ℕ) → length (hash b) ≡ 32) where
  anew-sized : (place : ℕ) (bs : List ℕ) (d : Decoding) (c : Conversion) → Spelled hash bs d → Sized (drop (40 + d.stats.payload_bytes) bs) c → Sized bs (anew hash place d c)
  unfolding anew leftover
  anew-sized place bs d c s z =
      let l = length-drop (40 + d.stats.payload_bytes) bs in
      let n = length-record hash long d.id d.delta in
      let p = length-payload d.id d.delta in
      let (sum, one, some) = dropped-of place d.stats in
      record {
        bytes = simp (length-append, sum-append) (omega arith);
        entries = simp length-append (omega arith);
      }

  sized : {bs : List ℕ} → Walk hash bs → (place : ℕ) → Bytes bs → Sized bs (convert_in hash place bs)
  sized finished place b = rw (convert-refused hash place [] ShortRecord (parse-none hash)) (unchanged-sized [])
  sized (halted {bs} r l e) place b = rw (convert-refused hash place bs r e) (unchanged-sized bs)
  sized (next {bs} d e w) place b =
      let n : ℕ = 40 + d.stats.payload_bytes in
      rw (convert-taken hash place bs d e) (anew-sized place bs d (convert_in hash (place + n) (drop n bs)) (parsed hash bs d b e) (sized w (place + n) (all_drop (λ x. ltb x 256) n bs b)))

  -- of what is left from a place on, and of all
  converted-sizes : (place : ℕ) (bs : List ℕ) → Bytes bs → Sized bs (convert_in hash place bs)
  converted-sizes place bs b = sized (walked hash bs) place b

  pub convert-sizes : (bs : List ℕ) → Bytes bs → Sized bs (convert hash bs)
  unfolding convert
  convert-sizes bs b = converted-sizes 0 bs b
