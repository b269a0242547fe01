-- What reading a record answers at each of its tests, and a payload's parts by their places in the record.
-- Assumes nothing.
use Rattle.std.specs.Prelude.{◌≡◌, Bool, List, ◌++◌, ℕ, ◌+◌, ◌-◌, ◌*◌, ◌^◌, ◌≤◌, ◌<◌, length, take, drop, ltb, Ok, Err}
use Rattle.std.proofs.Math.Path.{refl}
use Rattle.std.proofs.Common.{sym, ap, subst, ◌∙◌, append-nil, drop-drop, take-take}
use Rattle.std.proofs.Math.Bool.{true, false}
use native.Mathlib.Omega.{arith}
use Rattle.std.proofs.Math.Seq.{paste, drop-length}
use borrow.Author.Tests.{le-ltb, lt-ltb, le-leb, lt-leb}
use Rattle.base.specs.Logic.{pick, all, eqb_list, overlay}
use Rattle.base.specs.Bytes.{unle}
use Rattle.base.specs.Answers.{Outcome, refused, taken, ◌>>=◌, ◌>>◌, refuse_if, Taken}
use Rattle.base.specs.declared.Refusal.{Refusal}
use Rattle.base.specs.declared.Refusal.TheVariants.{ShortRecord, FarLength, Mismatch, Misfit, Leftover}
use Rattle.slices.specs.Laws.{part-front, length_part, drop-take, paste-start, eqb_list-refl}
use Rattle.cell_nursery.specs.Entries.{cell_bytes}
use Rattle.cell_nursery.specs.Items.{delta_of}
use Rattle.delta_items.specs.Walk.{inserts_in, inserts_len, items_fit, delta_in}
use Rattle.delta_items.specs.WalkLaws.{delta-whole, delta-none, fit-inserts, cells_left, length-inserts, length-hashes}
use Rattle.format.specs.declared.DecodedRecord.{DecodedRecord}
use Rattle.format.specs.Returned.{Decoded, as_decoded, no_stats}
use Rattle.format.specs.Record.{Decoding, parse, stats_of, used_bytes, leftover, decode, stated, Whole, Matches}
use Rattle.format.specs.Calls.{decoded_of, parse_call, decode_call}
use Rattle.format.proofs.ExactLaws.{parsed}
use Rattle.format.proofs.RefusalLaws.{payload-short, payload-past, payload-items}
use Rattle.record_read.specs.Judged.{decoding_of, payload_call, exact_call, Framing}

-- ---- the tests before the payload's

module _ (hash : List ℕ → List ℕ) (bs : List ℕ) where
  pub parse-short : length bs < 40 → parse_call hash bs ≡ decoded_of (refused ShortRecord)
  unfolding parse_call parse
  parse-short h = rw (lt-ltb (length bs) 40 h)

  module _ (whole : 40 ≤ length bs) where
    pub parse-far : 2 ^ 64 - 8 ≤ stated bs → parse_call hash bs ≡ decoded_of (refused FarLength)
    unfolding parse_call parse
    parse-far f = rw (le-ltb (length bs) 40 whole, le-leb (2 ^ 64 - 8) (stated bs) f)

    pub parse-cut : stated bs < 2 ^ 64 - 8 → length bs < 40 + stated bs → parse_call hash bs ≡ decoded_of (refused ShortRecord)
    unfolding parse_call parse
    parse-cut near h = rw (le-ltb (length bs) 40 whole, lt-leb (2 ^ 64 - 8) (stated bs) near, lt-ltb (length bs) (40 + stated bs) h)

  -- a whole record, whose payload has n bytes
  module _ (n : ℕ) (framed : Framing bs (Ok n)) where
    head : 40 ≤ length bs
    head = omega (arith, framed.1.1)

    pub parse-mismatch : eqb_list (hash (take (8 + n) (drop 32 bs))) (take 32 bs) ≡ false → parse_call hash bs ≡ decoded_of (refused Mismatch)
    unfolding parse_call parse
    parse-mismatch e = rw (le-ltb (length bs) 40 head, lt-leb (2 ^ 64 - 8) (stated bs) framed.1.0, le-ltb (length bs) (40 + stated bs) framed.1.1, ← framed.0, e)

    pub parse-payload : eqb_list (hash (take (8 + n) (drop 32 bs))) (take 32 bs) ≡ true → parse_call hash bs ≡ payload_call n bs
    unfolding parse_call parse payload_call decoding_of
    parse-payload e = rw (le-ltb (length bs) 40 head, lt-leb (2 ^ 64 - 8) (stated bs) framed.1.0, le-ltb (length bs) (40 + stated bs) framed.1.1, ← framed.0, e)

    -- its hash is known to be right
    pub parse-held : (Whole bs → Matches hash bs) → parse_call hash bs ≡ payload_call n bs
    parse-held known = parse-payload (rw (framed.0, known framed.1) (eqb_list-refl (take 32 bs)))

-- ---- the bytes after the last item
module _ (hash : List ℕ → List ℕ) (bs : List ℕ) where
  -- what is used of a payload lies in it; beside a refusal all is 0
  pub used-inside : all (λ b. ltb b 256) bs ≡ true → used_bytes (parse_call hash bs).stats ≤ (parse_call hash bs).stats.payload_bytes
  unfolding parse_call decoded_of no_stats
  used-inside bytes = go (parse hash bs) refl
    where
      go : (o : Outcome Decoding) → parse hash bs ≡ o → used_bytes (decoded_of o).stats ≤ (decoded_of o).stats.payload_bytes
      go (refused r) i = omega arith
      go (taken d) i = (parsed hash bs d bytes i).used

  pub exact-parsed : exact_call (parse_call hash bs) ≡ decode_call hash bs
  unfolding exact_call parse_call decode_call decode decoded_of no_stats leftover
  exact-parsed = go (parse hash bs)
    where
      last : (b : Bool) (d : Decoding) → pick b (decoded_of (refused Leftover)) (decoded_of (taken d)) ≡ decoded_of (refuse_if b Leftover >> taken d)
      last true d = refl
      last false d = refl

      go : (o : Outcome Decoding) → exact_call (decoded_of o) ≡ decoded_of (o >>= (λ d. refuse_if (ltb 0 (leftover d.stats)) Leftover >> taken d))
      go (refused r) = refl
      go (taken d) = last (ltb 0 (leftover d.stats)) d

  -- by what a reading returned: nothing is judged further beside a refusal
  pub exact-refused : {r : Refusal} → as_decoded (Err r) ≡ parse_call hash bs → as_decoded (Err r) ≡ decode_call hash bs
  unfolding exact_call no_stats leftover
  exact-refused e = ap exact_call e ∙ exact-parsed

  pub used-parsed : {d : DecodedRecord} → all (λ b. ltb b 256) bs ≡ true → as_decoded (Ok d) ≡ parse_call hash bs → used_bytes d.stats ≤ d.stats.payload_bytes
  used-parsed bytes e = let Inside : Decoded → Type 0 = λ x. used_bytes x.stats ≤ x.stats.payload_bytes in subst Inside (sym e) (used-inside bytes)

-- by the figures of what was read
pub over-refused : (d : Decoded) → used_bytes d.stats < d.stats.payload_bytes → exact_call d ≡ decoded_of (refused Leftover)
unfolding exact_call leftover
over-refused d h = rw (lt-ltb 0 (d.stats.payload_bytes - used_bytes d.stats) (omega arith))

pub none_over : (d : Decoded) → d.stats.payload_bytes ≤ used_bytes d.stats → exact_call d ≡ d
unfolding exact_call leftover
none_over d h = rw (le-ltb 0 (d.stats.payload_bytes - used_bytes d.stats) (omega arith))

-- ---- the payload of n bytes of a record, by places in the record

-- the items
abbrev pub items_of : ℕ → List ℕ → List ℕ
items_of n bs = take (40 + n - 56) (drop 56 bs)

module _ (n : ℕ) (bs : List ℕ) (long : 40 + n ≤ length bs) where
  length-payload : length (take n (drop 40 bs)) ≡ n
  length-payload = length_part bs 40 n long

  pub misfit-short : n < 16 → payload_call n bs ≡ decoded_of (refused Misfit)
  unfolding payload_call
  misfit-short h = rw (payload-short (take n (drop 40 bs)) (omega (arith, length-payload)))

  -- x inserts and y removes are stated
  module _ (head : 16 ≤ n) (x y : ℕ) (inserts : x ≡ unle (take 4 (drop 48 bs))) (removes : y ≡ unle (take 4 (drop 52 bs))) where
    first-eight : take 8 (take n (drop 40 bs)) ≡ take 8 (drop 40 bs)
    first-eight = take-take 8 n (drop 40 bs) (omega arith)

    part_in : (k i : ℕ) → i + k ≤ n → take k (drop i (take n (drop 40 bs))) ≡ take k (drop (40 + i) bs)
    part_in k i h = part-front k i n (drop 40 bs) h ∙ ap (λ (l : List ℕ). take k l) (drop-drop i 40 bs)

    items-in : drop 16 (take n (drop 40 bs)) ≡ items_of n bs
    items-in =
        let e : 16 + (n - 16) ≡ n = omega arith in
        let f : n - 16 ≡ 40 + n - 56 = omega arith in
        ap (λ (k : ℕ). drop 16 (take k (drop 40 bs))) (sym e)
        ∙ drop-take 16 (n - 16) (drop 40 bs)
        ∙ rw (drop-drop 16 40 bs, f)

    delta-in : delta_of 2 (unle (take 4 (drop 8 (take n (drop 40 bs))))) (unle (take 4 (drop 12 (take n (drop 40 bs))))) (drop 16 (take n (drop 40 bs))) ≡ delta_of 2 x y (items_of n bs)
    delta-in = rw (part_in 4 8 (omega arith), part_in 4 12 (omega arith), items-in, inserts, removes)

    -- items that run past the payload
    pub misfit-past : items_fit 2 x y (items_of n bs) ≡ false → payload_call n bs ≡ decoded_of (refused Misfit)
    unfolding payload_call
    misfit-past e =
        rw (payload-past (take n (drop 40 bs)) (omega (arith, length-payload)) (delta-in ∙ delta-none 2 x y (items_of n bs) (omega arith) e))

    -- a payload that is taken, whose removes begin at a place of its items
    module _ (at : ℕ) (fit : items_fit 2 x y (items_of n bs) ≡ true) (place : at ≡ inserts_len 2 x (items_of n bs)) where
      pub payload-taken : payload_call n bs
          ≡ record {
            answer = Taken;
            id = unle (take 8 (drop 40 bs));
            hash = take 32 bs;
            items_at = 56;
            items_len = n - 16;
            stats = record {
              payload_bytes = n;
              metadata_bytes = 16 + 46 * x + 32 * y;
              cell_bytes = at - x * 46;
              insert_ops = x;
              remove_ops = y;
            };
          }
      unfolding payload_call decoded_of decoding_of stats_of delta_in
      payload-taken =
          let c : cell_bytes (inserts_in 2 x (items_of n bs)) ≡ at - x * 46 = rw place (sym (cells_left 2 x (items_of n bs) (fit-inserts 2 x y (items_of n bs) fit))) in
          rw (
            payload-items (take n (drop 40 bs)) (omega (arith, length-payload)) (delta_in 2 x y (items_of n bs)) (delta-in ∙ delta-whole 2 x y (items_of n bs) fit),
            first-eight,
            length-inserts 2 x (items_of n bs),
            length-hashes y (drop (inserts_len 2 x (items_of n bs)) (items_of n bs)),
            c,
          )

-- ---- an array that a slice of its length was copied over
pub copied-over : (t x : List ℕ) → length t ≡ length x → paste t 0 x (length x) ≡ x
unfolding overlay
copied-over t x e = paste-start t x (length x) refl ∙ ap (λ (l : List ℕ). x ++ l) (ap (λ (k : ℕ). drop k t) (sym e) ∙ drop-length t) ∙ append-nil x
