-- The order of a record's refusals, the bound of each, and the order of a record's fields, fixed by evaluation.
-- Of two neighbours in an order: the smallest input that meets both conditions, and the number that is given.
-- (Under 40 bytes and 17 never meet: the stated length is there only from 40 bytes on.)
-- In the place of the hash stands one that is quick to evaluate: the first 32 bytes of what it covers. For the same reason a long cell
-- is any bytes of its length.
-- Assumes nothing.
use Rattle.std.specs.Prelude.{◌≡◌, refl, ℕ, ◌-◌, ◌^◌, ◌<◌, true, false, List, [], ◌∷◌, ◌++◌, length, take, drop, replicate, ltb}
use Rattle.std.proofs.Common.{ap, ◌∙◌, zero-le, suc-le-suc, arith, append_assoc, drop_of_length-le, take_all, le-leb, lt-ltb, ltb-true}
use Rattle.std.proofs.Math.Option.{Option, none, some}
use Rattle.base.specs.Logic.{zeros}
use Rattle.base.specs.Bytes.{le32, le64, cut, read_list}
use Rattle.base.specs.Laws.{read_le-append}
use Rattle.base.specs.Answers.{answer_number, taken, or_refuse, refuse_if, ◌>>=◌, ◌>>◌, Taken, Refused}
use Rattle.base.specs.declared.Refusal.TheVariants.{OutputFull, Misfit, Broken, BadSetting}
use Rattle.blake3.specs.Mode.{Mode, mode_of}
use Rattle.cell_nursery.specs.Entries.{Entry, hash_bytes}
use Rattle.cell_nursery.specs.Items.{Delta, read_hash, read_insert, delta_of}
use Rattle.cell_nursery.specs.Delta.{too_long}
use Rattle.cell_nursery.proofs.ItemLaws.{read_hash-append}
use Rattle.format.specs.declared.RecordStats.{RecordStats}
use Rattle.format.specs.Record.{record_bytes, encode}
use Rattle.format.specs.Calls.{EncodedOut, encoded_out, encode_call, encode_under, decode_call, decode_under}
use Rattle.format.specs.Open.{evaluation}

-- the stand-in for the hash
abbrev first_bytes : List ℕ → List ℕ
first_bytes b = take 32 (b ++ zeros 32)

-- a payload: id, the two list lengths, the items; and the record of a payload
abbrev payload : ℕ → ℕ → ℕ → List ℕ → List ℕ
payload id is rs items = le64 id ++ le32 is ++ le32 rs ++ items

abbrev record_of : List ℕ → List ℕ
record_of p = let b = le64 (length p) ++ p in first_bytes b ++ b

-- the number that decoding is answered with; and that of a record of a payload
abbrev decoded : List ℕ → ℕ
decoded bs = answer_number (decode_call first_bytes bs).answer

abbrev decoded_of : List ℕ → ℕ
decoded_of p = decoded (record_of p)

-- the record with neither insert nor remove, of the id 5
abbrev no_items : List ℕ
no_items = record_of (payload 5 0 0 [])

-- encoding the delta of lent counts and items, with the id 5
abbrev encoded_to : List ℕ → ℕ → ℕ → List ℕ → EncodedOut
encoded_to out is rs items = encode_call first_bytes 5 false is rs items out

-- an insert with a given cell, all else 0, and its items with the length in four bytes
abbrev holding : List ℕ → Entry
holding c = record { hash = 0; idx = 0; born = 0; cell = c }

abbrev wide_insert : List ℕ → List ℕ
wide_insert c = hash_bytes 0 ++ le64 0 ++ le32 0 ++ le32 (length c) ++ c

abbrev encoded_wide : ℕ → List ℕ → ℕ
encoded_wide is items = answer_number (encode_call first_bytes 5 true is 0 items []).result.answer

-- five figures
abbrev stats : ℕ → ℕ → ℕ → ℕ → ℕ → RecordStats
stats a b c d e = record { payload_bytes = a; metadata_bytes = b; cell_bytes = c; insert_ops = d; remove_ops = e }

pub record RefusalOrder : Type 0 where
  -- decoding: under 40 bytes, 17, 16, 18, 19, 22
  -- a length that is too far, of a record that has 40 bytes
  seventeen_before_sixteen : decoded (zeros 32 ++ le64 (2 ^ 64 - 8)) ≡ 17
  -- a record that is short, with another hash than its own
  sixteen_before_eighteen : decoded (zeros 32 ++ le64 1) ≡ 16
  -- a payload of one byte, with another hash than its own
  eighteen_before_nineteen : decoded (zeros 32 ++ le64 1 ++ 0 ∷ []) ≡ 18
  -- a byte after no item, with another hash than its own. (19 and 22 never meet: items run past the stated length or end before it)
  eighteen_before_twenty_two : decoded (zeros 32 ++ le64 17 ++ zeros 17) ≡ 18
  -- encoding: 14, 15
  -- a cell of 65,536 bytes, and no output
  fourteen_before_fifteen : (c : List ℕ) → length c ≡ 65536 → encoded_wide 1 (wide_insert c) ≡ 14
  -- items that run past their bytes are no delta, also where a cell is too long
  broken_before_fourteen : (c : List ℕ) → length c ≡ 65536 → encoded_wide 2 (wide_insert c) ≡ 20

pub record RefusalBounds : Type 0 where
  -- 16: 39 bytes, and 40 bytes of a length of 1
  under_40 : decoded (zeros 39) ≡ 16
  -- 16: 55 of 56 bytes, all of them, and a byte behind the record
  cut : decoded (take 55 no_items) ≡ 16
  whole : decoded no_items ≡ 0
  followed : decoded (no_items ++ 9 ∷ []) ≡ 0
  -- 17: 2 ^ 64 - 8, and one less
  far : decoded (zeros 32 ++ le64 (2 ^ 64 - 8)) ≡ 17
  not_far : decoded (zeros 32 ++ le64 (2 ^ 64 - 9)) ≡ 16
  -- 18: another first byte or last byte of the hash, another length, another id
  first_byte : decoded (9 ∷ drop 1 no_items) ≡ 18
  last_byte : decoded (take 31 no_items ++ 9 ∷ drop 32 no_items) ≡ 18
  other_length : decoded (take 32 no_items ++ 17 ∷ drop 33 no_items ++ 0 ∷ []) ≡ 18
  other_id : decoded (take 40 no_items ++ 6 ∷ drop 41 no_items) ≡ 18
  -- 19: a stated length of 15; 22: of 17, with no item; 16 is right
  stated_15 : decoded_of (zeros 15) ≡ 19
  stated_16 : decoded_of (zeros 16) ≡ 0
  stated_17 : decoded_of (zeros 17) ≡ 22
  -- 22: a byte after an insert, after a cell, after a remove; a whole remove too many
  after-insert : decoded_of (payload 0 1 0 (zeros 47)) ≡ 22
  after_cell : decoded_of (payload 0 1 0 (zeros 44 ++ 1 ∷ 0 ∷ 0 ∷ 0 ∷ [])) ≡ 22
  after-remove : decoded_of (payload 0 0 1 (zeros 33)) ≡ 22
  one_remove_more : decoded_of (payload 0 0 1 (zeros 64)) ≡ 22
  -- 19: an insert one byte short, whole, and whole but for its cell; a remove one byte short, and whole
  insert-short : decoded_of (payload 0 1 0 (zeros 45)) ≡ 19
  insert-whole : decoded_of (payload 0 1 0 (zeros 46)) ≡ 0
  cell_short : decoded_of (payload 0 1 0 (zeros 44 ++ 1 ∷ 0 ∷ [])) ≡ 19
  cell_whole : decoded_of (payload 0 1 0 (zeros 44 ++ 1 ∷ 0 ∷ 0 ∷ [])) ≡ 0
  remove_short : decoded_of (payload 0 0 1 (zeros 31)) ≡ 19
  remove_whole : decoded_of (payload 0 0 1 (zeros 32)) ≡ 0
  -- items that run past the stated length, where the bytes go on
  run_past : decoded (record_of (payload 0 0 1 []) ++ zeros 32) ≡ 19
  -- 14: not for a cell of 65,535 bytes
  long-cell : (c : List ℕ) → length c ≡ 65535 → encoded_wide 1 (wide_insert c) ≡ 15
  -- 15: an output one byte too short, which isn't touched, and one with a byte beyond the answer
  output_short : encoded_to (replicate 55 9) 0 0 []
      ≡ record { result = record { answer = Refused OutputFull; len = 0; stats = stats 0 0 0 0 0 }; out = replicate 55 9 }
  output_long : encoded_to (replicate 57 9) 0 0 []
      ≡ record { result = record { answer = Taken; len = 56; stats = stats 16 16 0 0 0 }; out = no_items ++ 9 ∷ [] }
  -- 20: items that run past their bytes; bytes after the last item are ignored
  items_short : answer_number (encoded_to [] 0 1 (zeros 31)).result.answer ≡ 20
  items_long : answer_number (encoded_to (zeros 88) 0 1 (zeros 33)).result.answer ≡ 0
  -- beside a refusal stand zeros
  refused : decode_call first_bytes (record_of (zeros 15)) ≡ record { answer = Refused Misfit; id = 0; hash = zeros 32; items_at = 0; items_len = 0; stats = stats 0 0 0 0 0 }

-- decoding and encoding in a mode
abbrev decoded_in : Mode → List ℕ → ℕ
decoded_in m bs = answer_number (decode_under m bs).answer

abbrev encoded_in : Mode → ℕ → List ℕ → EncodedOut
encoded_in m rs out = encode_under m 5 false 0 rs [] out

pub record KeyOrder : Type 0 where
  -- 23: a key of 31 or 33 bytes, or of none; with 32 the rest comes, here 16
  short_key : decoded_in (mode_of true (zeros 31)) [] ≡ 23
  long_key : decoded_in (mode_of true (zeros 33)) [] ≡ 23
  empty_key : decoded_in (mode_of true []) [] ≡ 23
  right_key : decoded_in (mode_of true (zeros 32)) [] ≡ 16
  -- without a key its bytes aren't looked at
  no_key : decoded_in (mode_of false []) [] ≡ 16
  not_looked_at : decoded_in (mode_of false (zeros 33)) [] ≡ 16
  -- before 17, and before 20 and 15 in encoding
  before_seventeen : decoded_in (mode_of true []) (zeros 32 ++ le64 (2 ^ 64 - 8)) ≡ 23
  before_twenty : answer_number (encoded_in (mode_of true []) 1 []).result.answer ≡ 23
  before_fifteen : answer_number (encoded_in (mode_of true []) 0 []).result.answer ≡ 23
  -- beside it stand zeros, and the output is as it was
  refused : decode_under (mode_of true []) no_items ≡ record { answer = Refused BadSetting; id = 0; hash = zeros 32; items_at = 0; items_len = 0; stats = stats 0 0 0 0 0 }
  not_written : encoded_in (mode_of true (zeros 31)) 0 (replicate 57 9)
      ≡ record { result = record { answer = Refused BadSetting; len = 0; stats = stats 0 0 0 0 0 }; out = replicate 57 9 }

-- an insert of the hash 258 and a cell of 3 bytes, at index 772, born at round 1286; and the hash 1800 removed
abbrev sample : Entry
sample = record { hash = 258; idx = 772; born = 1286; cell = 7 ∷ 8 ∷ 9 ∷ [] }

abbrev sample_items : List ℕ
sample_items =
    zeros 30 ++ 1 ∷ 2 ∷ 4 ∷ 3 ∷ zeros 6 ++ 6 ∷ 5 ∷ 0 ∷ 0 ∷ 3 ∷ 0 ∷ 7 ∷ 8 ∷ 9 ∷ zeros 30 ++ 7 ∷ 8 ∷ []

abbrev covered : List ℕ
covered = 97 ∷ zeros 7 ++ 11 ∷ 10 ∷ zeros 6 ++ 1 ∷ zeros 3 ++ 1 ∷ zeros 3 ++ sample_items

pub record Fields : Type 0 where
  -- the hash of length and payload, the length, the id 2571, the two list lengths, the inserts, the removes
  bytes : record_bytes first_bytes 2571 (record { inserts = sample ∷ []; removes = 1800 ∷ [] }) ≡ take 32 covered ++ covered
  -- the same by the calls: the record and its figures, and what decoding it gives
  encoded : encode_call first_bytes 2571 false 1 1 sample_items (zeros 137)
      ≡ record { result = record { answer = Taken; len = 137; stats = stats 97 94 3 1 1 }; out = take 32 covered ++ covered }
  decoding : decode_call first_bytes (take 32 covered ++ covered)
      ≡ record { answer = Taken; id = 2571; hash = take 32 covered; items_at = 56; items_len = 81; stats = stats 97 94 3 1 1 }
  items : take 81 (drop 56 (take 32 covered ++ covered)) ≡ sample_items
  -- the lengths of document 01: no item, and one insert of 3 bytes
  empty_length : length (record_bytes first_bytes 0 (record { inserts = []; removes = [] })) ≡ 56
  insert-length : length (record_bytes first_bytes 0 (record { inserts = sample ∷ []; removes = [] })) ≡ 105

-- ---- a long cell is read back
insert-read : (c : List ℕ) → length c < 2 ^ 32 → read_insert 4 (wide_insert c) ≡ some (holding c, [])
unfolding read_insert cut
insert-read c k =
    simp append_assoc
    (rw (
      read_hash-append 0 (le64 0 ++ (le32 0 ++ (le32 (length c) ++ c))) (ltb-true 0 (2 ^ 256) refl),
      read_le-append 8 0 (le32 0 ++ (le32 (length c) ++ c)) (omega arith),
      read_le-append 4 0 (le32 (length c) ++ c) (omega arith),
      read_le-append 4 (length c) c (omega arith),
      le-leb (length c) (length c) (omega arith),
      take_all (length c) c (omega arith),
      drop_of_length-le c {i = length c} (omega arith),
    ))

-- one insert is there, and two are not
one-read : (c : List ℕ) → length c < 2 ^ 32 → delta_of 4 1 0 (wide_insert c) ≡ some (record { inserts = holding c ∷ []; removes = [] })
unfolding delta_of read_list
one-read c k = rw (insert-read c k)

two-read : (c : List ℕ) → length c < 2 ^ 32 → delta_of 4 2 0 (wide_insert c) ≡ none
unfolding delta_of read_list read_insert read_hash cut
two-read c k = rw (insert-read c k)

-- the number by what was read
abbrev number_for : Option Delta → ℕ
number_for d =
    answer_number (encoded_out [] (do
      x ← or_refuse Broken d
      e ← encode first_bytes 5 x
      refuse_if (ltb 0 (length e.bytes)) OutputFull
      taken e)).result.answer

as_read : (n : ℕ) (c : List ℕ) {d : Option Delta} → delta_of 4 n 0 (wide_insert c) ≡ d → encoded_wide n (wide_insert c) ≡ number_for d
unfolding encode_call
as_read n c e = ap number_for e

-- a record has bytes, so it is refused an empty output
in-bounds : (c : List ℕ) → length c ≡ 65535 → too_long (record { inserts = holding c ∷ []; removes = [] }) ≡ false
unfolding evaluation
in-bounds c h = rw h refl

has-bytes : (c : List ℕ) → 0 < length (record_bytes first_bytes 5 (record { inserts = holding c ∷ []; removes = [] }))
unfolding evaluation
has-bytes c = suc-le-suc zero-le

no_room : (c : List ℕ) → length c ≡ 65535 → number_for (some (record { inserts = holding c ∷ []; removes = [] })) ≡ 15
unfolding encode encoded_out
no_room c h = rw (in-bounds c h, lt-ltb 0 (length (record_bytes first_bytes 5 (record { inserts = holding c ∷ []; removes = [] }))) (has-bytes c)) refl

pub refusal-order : RefusalOrder
unfolding evaluation
refusal-order =
    record {
      seventeen_before_sixteen = refl;
      sixteen_before_eighteen = refl;
      eighteen_before_nineteen = refl;
      eighteen_before_twenty_two = refl;
      fourteen_before_fifteen = λ c h. as_read 1 c (one-read c (omega (arith, h))) ∙ rw h refl;
      broken_before_fourteen = λ c h. as_read 2 c (two-read c (omega (arith, h)));
    }

pub refusal-bounds : RefusalBounds
unfolding evaluation
refusal-bounds =
    record {
      under_40 = refl;
      cut = refl;
      whole = refl;
      followed = refl;
      far = refl;
      not_far = refl;
      first_byte = refl;
      last_byte = refl;
      other_length = refl;
      other_id = refl;
      stated_15 = refl;
      stated_16 = refl;
      stated_17 = refl;
      after-insert = refl;
      after_cell = refl;
      after-remove = refl;
      one_remove_more = refl;
      insert-short = refl;
      insert-whole = refl;
      cell_short = refl;
      cell_whole = refl;
      remove_short = refl;
      remove_whole = refl;
      run_past = refl;
      long-cell = λ c h. as_read 1 c (one-read c (omega (arith, h))) ∙ no_room c h;
      output_short = refl;
      output_long = refl;
      items_short = refl;
      items_long = refl;
      refused = refl;
    }

pub key-order : KeyOrder
unfolding evaluation
key-order =
    record {
      short_key = refl;
      long_key = refl;
      empty_key = refl;
      right_key = refl;
      no_key = refl;
      not_looked_at = refl;
      before_seventeen = refl;
      before_twenty = refl;
      before_fifteen = refl;
      refused = refl;
      not_written = refl;
    }

pub fields : Fields
unfolding evaluation
fields =
    record {
      bytes = refl;
      encoded = refl;
      decoding = refl;
      items = refl;
      empty_length = refl;
      insert-length = refl;
    }
