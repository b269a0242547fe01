-- The promises of include/selvaigo.h for records and journals. A refused call leaves zeros for its values and changes no slice. A call in a mode is
-- refused with 23 exactly where the mode's key is bad, a journal's reading also where its delay is outside its range; without a key the key's bytes
-- aren't looked at. What a journal's reading can be refused with and end with; what a scan says of it; what a conversion can be refused with. And
-- what a reading that is taken leaves may be lent to the held forms, and has the delay given.
-- Assumes nothing.
use Rattle.std.specs.Prelude.{ℕ, ◌*◌, ◌/◌, ◌≤◌, ◌<◌, ◌≡◌, ◌↔◌, ◌⊎◌, Bool, not, ◌||◌, length, get_or, ltb, eqb}
use Rattle.std.proofs.Common.{arith, sym, ap, ◌∙◌, true≢false, ne_eqb}
use Rattle.std.proofs.Math.Path.{refl}
use Rattle.std.proofs.Math.Logic.{inl, inr}
use Rattle.std.proofs.Math.Bool.{true, false}
use mathlib.Core.List.{List, [], ◌∷◌}
use Rattle.base.specs.Logic.{pick, any, elem, flat, zeros}
use Rattle.base.specs.Answers.{Outcome, refused, taken, number_of, answer_number, ◌>>=◌, ◌>>◌, refuse_if, or_refuse, Answer, Taken, Refused}
use Rattle.base.specs.AnswerLaws.{exactly}
use Rattle.base.specs.declared.Refusal.TheVariants.{OutputFull, Broken, BadSetting}
use Rattle.blake3.specs.Spec as blake3
use Rattle.blake3.specs.Equations.{length-hash}
use Rattle.blake3.specs.Mode.{mode_of, bad_key, hash_by}
use Rattle.blake3.specs.ModeLaws.{bad-key}
use Rattle.cell_nursery.specs.Items.{delta_of}
use Rattle.cell_nursery.specs.Layout.{delay_in_range}
use Rattle.cell_nursery.specs.Calls.{length_width}
use Rattle.slices.specs.ByteLaws.{U8, u8-bytes}
use Rattle.format.specs.Record.{Encoding, Decoding, encode, decode}
use Rattle.format.specs.Returned.{no_stats}
use Rattle.format.specs.Calls.{encoded_out, encode_call, encode_under, decoded_of, decode_call, decode_under}
use Rattle.format.proofs.ModeLaws.{encode-key, decode-key}
use Rattle.journal.specs.Journal.{scan, not_scanned, scan_under, damages, damaged, ReadIn, not_read, read_out, read_call, read_under}
use Rattle.journal.proofs.ModeLaws as mode
use Rattle.journal.specs.Convert.{Conversion, dropped_bytes, convert, converted_out, convert_call}
use Rattle.journal.proofs.ReadLaws.{read-damaged, read-undamaged, read-delay}
use Rattle.journal_laws.specs.ConvertLaws as journal
use Rattle.journal_laws.specs.LoadLaws.{read-holds}
use Rattle.journal_laws.specs.EndLaws.{end_numbers, read-ends}
use Rattle.state_words.specs.Words as words
use Rattle.state_words.specs.Words.{Said, Unchanged, left}
use Rattle.word_calls.specs.NurserySaid.{flag}
use Rattle.word_calls.specs.RecordSaid.{mode_said, keyed_hash_said, encoded_said, encode_said, decoded_said, decode_said, scanned_said, scan_said, converted_said, convert_said, read_in_said, journal_said}
use Rattle.word_laws.specs.Numbers.{number-not-zero, setting-said, numbers-said}
use Rattle.word_laws.specs.NurseryKept as kept
use Rattle.word_laws.specs.NurseryKept.{Held, delay_in, read_held}

-- ---- modes
-- a key that is bad: there is one, and it isn't of 32 bytes
abbrev pub BadKey : ℕ → List ℕ → Type 0
BadKey keyed key = (flag keyed ≡ true) × (¬ (length key ≡ 32))

-- where none is, the mode's isn't either
good-key : (keyed : ℕ) (key : List ℕ) → ¬ BadKey keyed key → bad_key (mode_said keyed key) ≡ false
good-key keyed key n = go (bad_key (mode_said keyed key)) refl
  where
    go : (b : Bool) → bad_key (mode_said keyed key) ≡ b → b ≡ false
    go true e = absurd (n ((bad-key (mode_said keyed key)).0 e))
    go false e = refl

-- ---- the hash under a key
module _ (key bs : List ℕ) where
  -- what is given, by whether the key is bad
  abbrev hashed : Bool → Said
  hashed b = pick b (words.said 23 (zeros 32 ∷ []) []) (words.said 0 (blake3.keyed key bs ∷ []) [])

  -- 23 exactly where the key isn't of 32 bytes, and no other refusal
  pub keyed-hash-setting : ((keyed_hash_said key bs).answer ≡ 23) ↔ (¬ (length key ≡ 32))
  unfolding keyed_hash_said
  keyed-hash-setting = exactly (go (bad_key (mode_of true key))) (exactly (bad-key (mode_of true key)) ((λ b. b.1), λ n. (refl, n)))
    where
      go : (b : Bool) → ((hashed b).answer ≡ 23) ↔ (b ≡ true)
      go true = (λ e. refl, λ e. refl)
      go false = (λ e. absurd (omega arith), λ e. absurd (true≢false (sym e)))

  pub keyed-hash-answers : elem (keyed_hash_said key bs).answer (0 ∷ 23 ∷ []) ≡ true
  unfolding keyed_hash_said any
  keyed-hash-answers = go (bad_key (mode_of true key))
    where
      go : (b : Bool) → elem (hashed b).answer (0 ∷ 23 ∷ []) ≡ true
      go true = refl
      go false = refl

  -- beside it the hash is zeros
  pub keyed-hash-unchanged : Unchanged (zeros 32 ∷ []) [] (keyed_hash_said key bs)
  unfolding keyed_hash_said
  keyed-hash-unchanged = go (bad_key (mode_of true key))
    where
      go : (b : Bool) → Unchanged (zeros 32 ∷ []) [] (hashed b)
      go true n = (refl, refl)
      go false n = absurd (n refl)

-- ---- records
module _ (keyed : ℕ) (key : List ℕ) (id wide inserts removes : ℕ) (items out : List ℕ) where
  -- 23 exactly where the key is bad, whatever else is given
  pub encode-setting : ((encode_said keyed key id wide inserts removes items out).answer ≡ 23) ↔ BadKey keyed key
  unfolding encode_said encoded_said
  encode-setting =
      let m = mode_said keyed key in
      setting-said (encode_under m id (flag wide) inserts removes items out).result.answer
      (exactly (encode-key m id (flag wide) inserts removes items out) (bad-key m))

  pub encode-unchanged : Unchanged (zeros 6 ∷ []) (out ∷ []) (encode_said keyed key id wide inserts removes items out)
  unfolding encode_said encode_under encode_call encoded_said encoded_out no_stats
  encode-unchanged =
      of-key (bad_key (mode_said keyed key))
      (or_refuse Broken (delta_of (length_width (flag wide)) inserts removes items) >>= (λ d.
      encode (hash_by (mode_said keyed key)) id d >>= (λ e. refuse_if (ltb (length out) (length e.bytes)) OutputFull >> taken e)))
    where
      of-key : (b : Bool) (o : Outcome Encoding) → Unchanged (zeros 6 ∷ []) (out ∷ []) (encoded_said (pick b (encoded_out out (refused BadSetting)) (encoded_out out o)))
      of-key true o n = (refl, refl)
      of-key false (refused q) n = (refl, refl)
      of-key false (taken e) n = absurd (n refl)

module _ (keyed : ℕ) (key bs : List ℕ) where
  -- 23 exactly where the key is bad, whatever the bytes are
  pub decode-setting : ((decode_said keyed key bs).answer ≡ 23) ↔ BadKey keyed key
  unfolding decode_said decoded_said
  decode-setting =
      let m = mode_said keyed key in
      setting-said (decode_under m bs).answer (exactly (decode-key m bs) (bad-key m))

  pub decode-unchanged : Unchanged (zeros 8 ∷ zeros 32 ∷ []) [] (decode_said keyed key bs)
  unfolding decode_said decode_under decode_call decoded_said decoded_of no_stats
  decode-unchanged = of-key (bad_key (mode_said keyed key)) (decode (hash_by (mode_said keyed key)) bs)
    where
      of-key : (b : Bool) (o : Outcome Decoding) → Unchanged (zeros 8 ∷ zeros 32 ∷ []) [] (decoded_said (pick b (decoded_of (refused BadSetting)) (decoded_of o)))
      of-key true o n = (refl, refl)
      of-key false (refused q) n = (refl, refl)
      of-key false (taken d) n = absurd (n refl)

-- ---- journals
module _ (keyed : ℕ) (key : List ℕ) (delay : ℕ) (bs v es ws cs : List ℕ) where
  abbrev said : Said
  said = journal_said keyed key delay bs v es ws cs

  abbrev reading : ReadIn
  reading = read_under (mode_said keyed key) delay bs es ws cs

  abbrev call : ReadIn
  call = read_call (hash_by (mode_said keyed key)) delay bs es ws cs

  -- a reading is refused with 23 exactly where the key is bad or the delay is outside its range, whatever the bytes are; else it is taken or refused
  -- with 21
  pub journal-setting : (said.answer ≡ 23) ↔ (BadKey keyed key ⊎ ((delay ≡ 0) ⊎ (10000 < delay)))
  unfolding journal_said read_in_said
  journal-setting = setting-said reading.result.answer (exactly (mode.read-key (mode_said keyed key) delay bs es ws cs) (to, back))
    where
      to : ((bad_key (mode_said keyed key) ≡ true) ⊎ ((delay ≡ 0) ⊎ (10000 < delay))) → BadKey keyed key ⊎ ((delay ≡ 0) ⊎ (10000 < delay))
      to (inl e) = inl ((bad-key (mode_said keyed key)).0 e)
      to (inr d) = inr d

      back : (BadKey keyed key ⊎ ((delay ≡ 0) ⊎ (10000 < delay))) → (bad_key (mode_said keyed key) ≡ true) ⊎ ((delay ≡ 0) ⊎ (10000 < delay))
      back (inl b) = inl ((bad-key (mode_said keyed key)).1 b)
      back (inr d) = inr d

  pub journal-answers : elem said.answer (0 ∷ 23 ∷ 21 ∷ []) ≡ true
  unfolding journal_said read_in_said
  journal-answers = numbers-said (23 ∷ 21 ∷ []) reading.result.answer (mode.read-numbers-under (mode_said keyed key) delay bs es ws cs)

  -- beside a refusal all is zeros, and nothing is changed
  pub journal-unchanged : Unchanged (zeros 3 ∷ []) (v ∷ es ∷ ws ∷ cs ∷ []) said
  unfolding journal_said read_in_said not_read
  journal-unchanged n = go reading.result.answer refl
    where
      go : (a : Answer) → reading.result.answer ≡ a → (said.values ≡ zeros 3 ∷ []) × (said.lent ≡ v ∷ es ∷ ws ∷ cs ∷ [])
      go (Refused q) e = rw (mode.read-refused-under (mode_said keyed key) delay bs es ws cs q e) (refl, refl)
      go Taken e = absurd (n (ap answer_number e))

  -- a reading that is taken is that of the call under the mode's hash
  of-call : reading.result.answer ≡ Taken → (reading ≡ call) × (call.result.answer ≡ Taken)
  of-call e =
      let same = (mode.read-taken-under (mode_said keyed key) delay bs es ws cs e).1 in
      (same, rw same at e)

  -- it ends with one of these numbers
  pub journal-ends : U8 bs → elem (get_or (get_or said.values 0 []) 2 0) end_numbers ≡ true
  unfolding journal_said read_in_said not_read any
  journal-ends u = go reading.result.answer refl
    where
      go : (a : Answer) → reading.result.answer ≡ a → elem (answer_number reading.result.ended) end_numbers ≡ true
      go (Refused q) e = rw (mode.read-refused-under (mode_said keyed key) delay bs es ws cs q e)
      go Taken e = rw (of-call e).0 ((read-ends (hash_by (mode_said keyed key)) bs es ws cs delay (u8-bytes bs u)).ends (of-call e).1).numbers

  -- what is left of a reading that is taken may be lent to the held forms, whatever ended it, and has the delay given
  pub journal-held : U8 bs → said.answer ≡ 0 → Held (left 0 said) (left 1 said) (left 2 said) (left 3 said)
  unfolding journal_said read_in_said
  journal-held u =
      read_held v reading.result.nursery reading.entries reading.waiting reading.cells reading.result.answer
      (λ e. rw (of-call e).0 (read-holds (hash_by (mode_said keyed key)) delay bs es ws cs (u8-bytes bs u) (of-call e).1))

  pub journal-delay : said.answer ≡ 0 → delay_in (left 0 said) ≡ delay
  unfolding journal_said read_in_said
  journal-delay =
      kept.read-delay v reading.result.nursery delay reading.result.answer
      (λ e. rw (of-call e).0 (read-delay (hash_by (mode_said keyed key)) delay bs es ws cs (of-call e).1))

-- ---- the scan
module _ (keyed : ℕ) (key bs : List ℕ) where
  -- 23 exactly where the key is bad, and no other refusal
  pub scan-setting : ((scan_said keyed key bs).answer ≡ 23) ↔ BadKey keyed key
  unfolding scan_said scanned_said
  scan-setting =
      let m = mode_said keyed key in
      setting-said (scan_under m bs).answer (exactly (mode.scan-key m bs) (bad-key m))

  pub scan-answers : elem (scan_said keyed key bs).answer (0 ∷ 23 ∷ []) ≡ true
  unfolding scan_said scanned_said
  scan-answers = numbers-said (23 ∷ []) (scan_under (mode_said keyed key) bs).answer (mode.scan-numbers (mode_said keyed key) bs)

  pub scan-unchanged : Unchanged (zeros 3 ∷ []) [] (scan_said keyed key bs)
  unfolding scan_said scanned_said not_scanned
  scan-unchanged n = go (scan_under (mode_said keyed key) bs).answer refl
    where
      go : (a : Answer) → (scan_under (mode_said keyed key) bs).answer ≡ a → ((scan_said keyed key bs).values ≡ zeros 3 ∷ []) × ((scan_said keyed key bs).lent ≡ [])
      go (Refused q) e = rw (mode.scan-refused (mode_said keyed key) bs q e) (refl, refl)
      go Taken e = absurd (n (ap answer_number e))

-- a number that is neither 0 nor 16 is damage
neither : (a : Answer) → (elem (answer_number a) (0 ∷ 16 ∷ []) ≡ false) ↔ (damages a ≡ true)
unfolding damages any
neither Taken = (λ e. absurd (true≢false e), λ e. absurd (true≢false (sym e)))
neither (Refused q) = go (eqb (number_of q) 16) (eqb (number_of q) 0) (ne_eqb (number_of q) 0 (number-not-zero q))
  where
    go : (b z : Bool) → z ≡ false → ((z || (b || false)) ≡ false) ↔ (not b ≡ true)
    go b true e = absurd (true≢false e)
    go true false e = (λ f. absurd (true≢false f), λ f. absurd (true≢false (sym f)))
    go false false e = (λ f. refl, λ f. refl)

-- the scan says whether a reading in the same mode is refused, with a key that isn't bad and a delay in range: it is where what ended the scan is
-- neither the journal's end nor a record that is cut
pub scan-says : (keyed : ℕ) (key : List ℕ) (delay : ℕ) (bs v es ws cs : List ℕ) → ¬ BadKey keyed key → delay_in_range delay ≡ true
    → ((journal_said keyed key delay bs v es ws cs).answer ≡ 21) ↔ (elem (get_or (get_or (scan_said keyed key bs).values 0 []) 2 0) (0 ∷ 16 ∷ []) ≡ false)
unfolding journal_said read_in_said not_read read_out scan_said scanned_said damaged
scan-says keyed key delay bs v es ws cs k o =
    rw (mode.read-good (mode_said keyed key) delay bs es ws cs (good-key keyed key k), mode.scan_good (mode_said keyed key) bs (good-key keyed key k))
    (go (damaged h bs) refl)
  where
    h : List ℕ → List ℕ
    h = hash_by (mode_said keyed key)

    go : (d : Bool) → damaged h bs ≡ d → (answer_number (read_call h delay bs es ws cs).result.answer ≡ 21) ↔ (elem (answer_number (scan h bs).ended) (0 ∷ 16 ∷ []) ≡ false)
    go true e = rw (read-damaged h delay bs es ws cs o e) (λ f. (neither (scan h bs).ended).1 e, λ f. refl)
    go false e =
        rw (read-undamaged h delay bs es ws cs o e)
        (λ f. absurd (omega arith), λ f. absurd (true≢false (sym ((neither (scan h bs).ended).0 f) ∙ e)))

-- ---- no key
-- where the flag is 0 a call answers as it does without a key, whatever key is given: no byte of it is looked at
module _ (key : List ℕ) where
  pub encode-unkeyed : (id wide inserts removes : ℕ) (items out : List ℕ) → encode_said 0 key id wide inserts removes items out ≡ encoded_said (encode_call blake3.hash id (flag wide) inserts removes items out)
  unfolding encode_said encode_under bad_key hash_by
  encode-unkeyed id wide inserts removes items out = refl

  pub decode-unkeyed : (bs : List ℕ) → decode_said 0 key bs ≡ decoded_said (decode_call blake3.hash bs)
  unfolding decode_said decode_under bad_key hash_by
  decode-unkeyed bs = refl

  pub scan-unkeyed : (bs : List ℕ) → scan_said 0 key bs ≡ scanned_said (scan blake3.hash bs)
  unfolding scan_said scan_under bad_key hash_by
  scan-unkeyed bs = refl

  pub journal-unkeyed : (delay : ℕ) (bs v es ws cs : List ℕ) → journal_said 0 key delay bs v es ws cs ≡ read_in_said v (read_call blake3.hash delay bs es ws cs)
  unfolding journal_said read_under bad_key hash_by
  journal-unkeyed delay bs v es ws cs = refl

module _ (key key' : List ℕ) where
  pub encode-no-key : (id wide inserts removes : ℕ) (items out : List ℕ) → encode_said 0 key id wide inserts removes items out ≡ encode_said 0 key' id wide inserts removes items out
  encode-no-key id wide inserts removes items out = encode-unkeyed key id wide inserts removes items out ∙ sym (encode-unkeyed key' id wide inserts removes items out)

  pub decode-no-key : (bs : List ℕ) → decode_said 0 key bs ≡ decode_said 0 key' bs
  decode-no-key bs = decode-unkeyed key bs ∙ sym (decode-unkeyed key' bs)

  pub scan-no-key : (bs : List ℕ) → scan_said 0 key bs ≡ scan_said 0 key' bs
  scan-no-key bs = scan-unkeyed key bs ∙ sym (scan-unkeyed key' bs)

  pub journal-no-key : (delay : ℕ) (bs v es ws cs : List ℕ) → journal_said 0 key delay bs v es ws cs ≡ journal_said 0 key' delay bs v es ws cs
  journal-no-key delay bs v es ws cs = journal-unkeyed key delay bs v es ws cs ∙ sym (journal-unkeyed key' delay bs v es ws cs)

-- ---- conversion
-- it is taken or refused with 15
pub convert-answers : (bs out dropped : List ℕ) → elem (convert_said bs out dropped).answer (0 ∷ 15 ∷ []) ≡ true
unfolding convert_said converted_said convert_call converted_out any
convert-answers bs out dropped =
    let c = convert blake3.hash bs in
    go (ltb (length out) (length c.bytes)) (ltb (length dropped) (length (flat dropped_bytes c.dropped))) c
  where
    go : (a b : Bool) (c : Conversion) → elem (converted_said (converted_out out dropped (refuse_if a OutputFull >> (refuse_if b OutputFull >> taken c)))).answer (0 ∷ 15 ∷ []) ≡ true
    go true b c = refl
    go false true c = refl
    go false false c = refl

-- outputs that are always long enough
pub convert-room : (bs out dropped : List ℕ) → U8 bs → length bs ≤ length out → 16 * (length bs / 57) ≤ length dropped → (convert_said bs out dropped).answer ≡ 0
unfolding convert_said converted_said
convert-room bs out dropped u h k = rw (journal.convert-room blake3.hash bs out dropped length-hash (u8-bytes bs u) h k)

pub convert-unchanged : (bs out dropped : List ℕ) → Unchanged (zeros 2 ∷ []) (out ∷ dropped ∷ []) (convert_said bs out dropped)
unfolding convert_said converted_said convert_call converted_out
convert-unchanged bs out dropped =
    let c = convert blake3.hash bs in
    go (refuse_if (ltb (length out) (length c.bytes)) OutputFull >> (refuse_if (ltb (length dropped) (length (flat dropped_bytes c.dropped))) OutputFull >> taken c))
  where
    go : (o : Outcome Conversion) → Unchanged (zeros 2 ∷ []) (out ∷ dropped ∷ []) (converted_said (converted_out out dropped o))
    go (refused q) n = (refl, refl)
    go (taken c) n = absurd (n refl)
