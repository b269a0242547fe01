-- The two calls in a mode. They are 23 exactly where its key is bad; else they are the calls under the mode's hash, and their other refusals come
-- under the conditions of these.
-- Assumes nothing.
use Rattle.std.specs.Prelude.{◌≡◌, ◌↔◌, Bool, true, false, List, [], ◌∷◌, ℕ}
use Rattle.std.proofs.Math.Path.{refl}
use Rattle.std.proofs.Math.Bool.{false≢true}
use Rattle.std.proofs.Common.{arith}
use Rattle.base.specs.Logic.{any}
use Rattle.base.specs.Answers.{refused, number_of, Refused}
use Rattle.base.specs.AnswerLaws.{exactly, Answers, first_alone, later-refused, first-numbers}
use Rattle.base.specs.declared.Refusal.{Refusal}
use Rattle.base.specs.declared.Refusal.TheVariants.{BadSetting, Mismatch}
use Rattle.blake3.specs.Mode.{Mode, bad_key, hash_by}
use Rattle.format.specs.Returned.{Decoded}
use Rattle.format.specs.Calls.{EncodedOut, encoded_out, encode_call, encode_under, decoded_of, decode_call, decode_under}
use Rattle.format.proofs.RefusalLaws.{decode-mismatch, decode-answer, decode-call-numbers, encode-numbers}
use Rattle.format.specs.Record.{Whole, Matches}

-- ---- decoding
module _ (m : Mode) (bs : List ℕ) where
  pub decode-bad : bad_key m ≡ true → decode_under m bs ≡ decoded_of (refused BadSetting)
  unfolding decode_under
  decode-bad e = rw e

  pub decode-good : bad_key m ≡ false → decode_under m bs ≡ decode_call (hash_by m) bs
  unfolding decode_under
  decode-good e = rw e

  -- 23, bad setting: a key that isn't of 32 bytes, whatever the bytes are
  pub decode-key : ((decode_under m bs).answer ≡ Refused BadSetting) ↔ (bad_key m ≡ true)
  unfolding decode_under decoded_of any
  decode-key =
      first_alone (λ (d : Decoded). d.answer) (decoded_of (refused BadSetting)) (decode_call (hash_by m) bs) BadSetting refl (bad_key m)
      (λ e. false≢true (decode-call-numbers (hash_by m) bs BadSetting e))

  -- any other number comes where the key isn't bad and the call under the mode's hash gives it
  pub decode-other : (q : Refusal) → (number_of BadSetting ≡ number_of q → ⊥) → ((decode_under m bs).answer ≡ Refused q) ↔ ((bad_key m ≡ false) × ((decode_call (hash_by m) bs).answer ≡ Refused q))
  unfolding decode_under decoded_of
  decode-other q n =
      later-refused (λ (d : Decoded). d.answer) (decoded_of (refused BadSetting)) (decode_call (hash_by m) bs) BadSetting refl (bad_key m) n (λ e. e, λ e. e)

  -- 18, mismatch: of a whole record whose hash isn't the one under the mode
  pub decode-other-hash : ((decode_under m bs).answer ≡ Refused Mismatch) ↔ ((bad_key m ≡ false) × (Whole bs × (¬ Matches (hash_by m) bs)))
  decode-other-hash =
      exactly (decode-other Mismatch (omega arith))
      ((λ (k, e). (k, (decode-mismatch (hash_by m) bs).0 ((decode-answer (hash_by m) bs Mismatch).0 e))), λ (k, w). (k, (decode-answer (hash_by m) bs Mismatch).1 ((decode-mismatch (hash_by m) bs).1 w)))

  pub decode-under-numbers : Answers (23 ∷ 16 ∷ 17 ∷ 18 ∷ 19 ∷ 22 ∷ []) (decode_under m bs).answer
  unfolding decode_under decoded_of
  decode-under-numbers =
      first-numbers (λ (d : Decoded). d.answer) (decoded_of (refused BadSetting)) (decode_call (hash_by m) bs) BadSetting refl (bad_key m) (16 ∷ 17 ∷ 18 ∷ 19 ∷ 22 ∷ []) (decode-call-numbers (hash_by m) bs)

-- ---- encoding
module _ (m : Mode) (id : ℕ) (wide : Bool) (inserts removes : ℕ) (items out : List ℕ) where
  abbrev under : EncodedOut
  under = encode_under m id wide inserts removes items out

  abbrev call : EncodedOut
  call = encode_call (hash_by m) id wide inserts removes items out

  pub encode-bad : bad_key m ≡ true → under ≡ encoded_out out (refused BadSetting)
  unfolding encode_under
  encode-bad e = rw e

  pub encode-good : bad_key m ≡ false → under ≡ call
  unfolding encode_under
  encode-good e = rw e

  -- 23, bad setting: a key that isn't of 32 bytes, whatever is lent
  pub encode-key : (under.result.answer ≡ Refused BadSetting) ↔ (bad_key m ≡ true)
  unfolding encode_under encoded_out any
  encode-key =
      first_alone (λ (x : EncodedOut). x.result.answer) (encoded_out out (refused BadSetting)) call BadSetting refl (bad_key m)
      (λ e. false≢true (encode-numbers (hash_by m) id wide inserts removes items out BadSetting e))

  pub encode-other : (q : Refusal) → (number_of BadSetting ≡ number_of q → ⊥) → (under.result.answer ≡ Refused q) ↔ ((bad_key m ≡ false) × (call.result.answer ≡ Refused q))
  unfolding encode_under encoded_out
  encode-other q n =
      later-refused (λ (x : EncodedOut). x.result.answer) (encoded_out out (refused BadSetting)) call BadSetting refl (bad_key m) n (λ e. e, λ e. e)

  pub encode-under-numbers : Answers (23 ∷ 20 ∷ 14 ∷ 15 ∷ []) under.result.answer
  unfolding encode_under encoded_out
  encode-under-numbers =
      first-numbers (λ (x : EncodedOut). x.result.answer) (encoded_out out (refused BadSetting)) call BadSetting refl (bad_key m) (20 ∷ 14 ∷ 15 ∷ [])
      (encode-numbers (hash_by m) id wide inserts removes items out)
