-- A whole record decodes to its delta, whatever follows it; a record that is cut is short.
-- Assumes nothing.
use Rattle.std.specs.Prelude.{◌≡◌, refl, true, ℕ, ◌+◌, ◌-◌, ◌*◌, ◌^◌, ◌<◌, take, drop, ltb}
use Rattle.std.proofs.Common.{sym, ◌∙◌, arith, length-append, length-take, take_at, drop_at, take-take}
use Rattle.std.proofs.Math.Path.{ap}
use Rattle.std.proofs.Math.Option.{some}
use mathlib.Core.List.{List, [], ◌++◌, append_assoc, append-nil}
use Rattle.std.proofs.Math.ListN.{length}
use Rattle.std.proofs.Math.Decide.{dec_lt}
use borrow.Author.Tests.{le-ltb, lt-ltb, lt-leb}
use Rattle.base.specs.Logic.{all}
use Rattle.base.specs.Bytes.{digits, number}
use Rattle.base.specs.Laws.{length_digits, number_digits, read_le-append}
use Rattle.base.specs.Answers.{refused, taken}
use Rattle.base.specs.declared.Refusal.TheVariants.{ShortRecord}
use Rattle.slices.specs.Laws.{drop-take, eqb_list-refl}
use Rattle.cell_nursery.specs.Entries.{cell_bytes}
use Rattle.cell_nursery.specs.Items.{Delta, item_bytes}
use Rattle.cell_nursery.proofs.ItemLaws.{length-inserts, length-hashes, delta_of-append}
use Rattle.cell_nursery.specs.Held.{fits_item}
use Rattle.format.specs.Payload.{payload_bytes, payload_of}
use Rattle.format.specs.Record.{hashed, sealed, record_bytes, stats_of, parse, leftover, decode}

-- a payload has the bytes of its figures
pub length-payload : (id : ℕ) (d : Delta) → length (payload_bytes id d) ≡ 16 + 46 * length d.inserts + 32 * length d.removes + cell_bytes d.inserts
unfolding payload_bytes item_bytes
length-payload id d = simp (length-append, length_digits) (omega (arith, length-inserts d.inserts, length-hashes d.removes))

-- nothing of it is left over
pub none_over : (id : ℕ) (d : Delta) → leftover (stats_of (length (payload_bytes id d)) d) ≡ 0
unfolding leftover stats_of
none_over id d = omega (arith, length-payload id d)

-- and a record 40 more
pub length-record : (hash : List ℕ → List ℕ) → ((b : List ℕ) → length (hash b) ≡ 32) → (id : ℕ) (d : Delta) → length (record_bytes hash id d) ≡ 40 + length (payload_bytes id d)
unfolding record_bytes sealed hashed
length-record hash long id d = simp (length-append, long, length_digits) (omega arith)

-- a delta and an id that a record can carry
pub record Fits (id : ℕ) (d : Delta) : Type 0 where
  pub small_id : id < 2 ^ 64
  pub inserts : all fits_item d.inserts ≡ true
  pub removes : all (λ h. ltb h (2 ^ 256)) d.removes ≡ true
  pub few-inserts : length d.inserts < 2 ^ 32
  pub few-removes : length d.removes < 2 ^ 32
  pub near : length (payload_bytes id d) < 2 ^ 64 - 8

pub payload_of-append : (id : ℕ) (d : Delta) (r : List ℕ) → Fits id d → payload_of (payload_bytes id d ++ r) ≡ some (record { id = id; delta = d })
unfolding payload_of payload_bytes
payload_of-append id d r f =
    simp append_assoc
    (rw (
      read_le-append 8 id (digits 256 4 (length d.inserts) ++ (digits 256 4 (length d.removes) ++ (item_bytes d ++ r))) f.small_id,
      read_le-append 4 (length d.inserts) (digits 256 4 (length d.removes) ++ (item_bytes d ++ r)) f.few-inserts,
      read_le-append 4 (length d.removes) (item_bytes d ++ r) f.few-removes,
      delta_of-append d r f.inserts f.removes,
    ))

module _ (hash : List ℕ → List ℕ) (long : (b : List ℕ) → length (hash b) ≡ 32) (id : ℕ) (d : Delta) (f : Fits id d) where
  -- a record's parts: the payload, its length, and the hash of both
  abbrev body : List ℕ
  body = payload_bytes id d

  abbrev n : ℕ
  n = length body

  abbrev led : List ℕ
  led = digits 256 8 n ++ body

  -- a record and what follows it
  abbrev whole : List ℕ → List ℕ
  whole r = hash led ++ (digits 256 8 n ++ (body ++ r))

  parts : (r : List ℕ) → record_bytes hash id d ++ r ≡ whole r
  unfolding record_bytes sealed hashed
  parts r = append_assoc (hash led) led r ∙ ap (λ (x : List ℕ). hash led ++ x) (append_assoc (digits 256 8 n) body r)

  after32 : (r : List ℕ) → drop 32 (whole r) ≡ digits 256 8 n ++ (body ++ r)
  after32 r = drop_at (hash led) (digits 256 8 n ++ (body ++ r)) 32 (long led)

  first32 : (r : List ℕ) → take 32 (whole r) ≡ hash led
  first32 r = take_at (hash led) (digits 256 8 n ++ (body ++ r)) 32 (long led)

  stated : (r : List ℕ) → number 256 (take 8 (drop 32 (whole r))) ≡ n
  stated r =
      rw (after32 r, take_at (digits 256 8 n) (body ++ r) 8 (length_digits 256 8 n)) (number_digits 256 8 n (omega arith) (omega (arith, f.near)))

  covered : (r : List ℕ) → take (8 + n) (drop 32 (whole r)) ≡ led
  covered r =
      ap (λ (x : List ℕ). take (8 + n) x) (after32 r ∙ sym (append_assoc (digits 256 8 n) body r))
      ∙ take_at led r (8 + n) (length-append (digits 256 8 n) body ∙ ap (λ (k : ℕ). k + n) (length_digits 256 8 n))

  payload : (r : List ℕ) → take n (drop 40 (whole r)) ≡ body
  payload r =
      ap (λ (x : List ℕ). take n (drop 40 x)) (sym (append_assoc (hash led) (digits 256 8 n) (body ++ r)))
      ∙ ap (λ (x : List ℕ). take n x) (drop_at (hash led ++ digits 256 8 n) (body ++ r) 40 (simp (length-append, long, length_digits)))
      ∙ take_at body r n refl

  length_whole : (r : List ℕ) → length (whole r) ≡ 40 + n + length r
  length_whole r = simp (length-append, long, length_digits) (omega arith)

  payload_of-body : payload_of body ≡ some (record { id = id; delta = d })
  payload_of-body = rw append-nil at (payload_of-append id d [] f)

  -- a whole record decodes to its id and delta, whatever follows it
  pub decode-whole : (r : List ℕ)
      → decode hash (record_bytes hash id d ++ r) ≡ taken (record { id = id; hash = hash led; delta = d; stats = stats_of n d })
  unfolding decode parse
  decode-whole r =
      rw (
        parts r,
        stated r,
        length_whole r,
        covered r,
        first32 r,
        payload r,
        payload_of-body,
        eqb_list-refl (hash led),
        le-ltb (40 + n + length r) 40 (omega arith),
        lt-leb (2 ^ 64 - 8) n f.near,
        le-ltb (40 + n + length r) (40 + n) (omega arith),
        none_over id d,
      )

  -- the first k bytes of a record
  abbrev cut_at : ℕ → List ℕ
  cut_at k = take k (record_bytes hash id d)

  length_cut : (k : ℕ) → k < 40 + n → length (cut_at k) ≡ k
  length_cut k h = length-take k (record_bytes hash id d) ∙ omega (arith, length-record hash long id d)

  -- 40 bytes of a record state its length
  cut-stated : (j : ℕ) → number 256 (take 8 (drop 32 (cut_at (32 + (8 + j))))) ≡ n
  cut-stated j =
      rw (drop-take 32 (8 + j) (record_bytes hash id d), take-take 8 (8 + j) (drop 32 (record_bytes hash id d)) (omega arith))
      (rw (sym (append-nil (record_bytes hash id d)) ∙ parts []) (stated []))

  -- a record that is cut is refused as short, whatever its bytes
  pub decode-cut : (k : ℕ) → k < length (record_bytes hash id d) → decode hash (take k (record_bytes hash id d)) ≡ refused ShortRecord
  unfolding decode parse
  decode-cut k h = elim (dec_lt k 40) [ yes lt ↦ head lt | no ge ↦ later ge ]
    where
      below : k < 40 + n
      below = omega (arith, h, length-record hash long id d)

      head : k < 40 → decode hash (cut_at k) ≡ refused ShortRecord
      head lt = rw (length_cut k below, lt-ltb k 40 lt)

      later : ¬ (k < 40) → decode hash (cut_at k) ≡ refused ShortRecord
      later ge =
          let e : k ≡ 32 + (8 + (k - 40)) = omega arith in
          let s : number 256 (take 8 (drop 32 (cut_at k))) ≡ n = ap (λ (x : ℕ). number 256 (take 8 (drop 32 (cut_at x)))) e ∙ cut-stated (k - 40) in
          rw (s, length_cut k below, le-ltb k 40 (omega arith), lt-leb (2 ^ 64 - 8) n f.near, lt-ltb k (40 + n) below)
