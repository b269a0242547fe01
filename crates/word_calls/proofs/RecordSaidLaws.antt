-- What a call on records gives over words, from what the call under it gives.
-- Assumes nothing.
use Rattle.std.specs.Prelude.{ℕ, ◌≡◌, false, List, [], ◌∷◌}
use Rattle.std.proofs.Common.{ap}
use Rattle.std.proofs.Math.Bool.{true}
use Rattle.base.specs.Logic.{zeros}
use Rattle.base.specs.Answers.{number_of, answer_number}
use Rattle.base.specs.declared.Refusal.TheVariants.{BadSetting}
use Rattle.blake3.specs.declared.Start.{Start}
use Rattle.blake3.specs.Mode.{mode_of, bad_key, hash_by, start_of, hash_from}
use Rattle.blake3.specs.ModeLaws.{started}
use Rattle.format.specs.Returned.{Encoded, Decoded}
use Rattle.format.specs.Calls.{EncodedOut}
use Rattle.journal.specs.Returned.{ReadAnswer, ScanAnswer, ConvertedAnswer}
use Rattle.journal.specs.Journal.{ReadIn, effect}
use Rattle.journal.specs.Convert as convert
use Rattle.journal.specs.Convert.{ConvertedOut}
use Rattle.state_words.specs.Words.{nursery_words, said, words_after}
use Rattle.word_calls.specs.RecordSaid.{keyed_hash_said, stat_words, encoded_said, decoded_said, scanned_said, converted_said, read_in_said}

-- hashing under a key that is bad, and from the start of one that isn't
module _ (key bs : List ℕ) where
  pub keyed-bad : {r : ℕ} → bad_key (mode_of true key) ≡ true → r ≡ number_of BadSetting → said r (zeros 32 ∷ []) [] ≡ keyed_hash_said key bs
  unfolding keyed_hash_said
  keyed-bad e p = rw (e, p)

  pub keyed-said : {w : Start} {h : List ℕ} → bad_key (mode_of true key) ≡ false → w ≡ start_of (mode_of true key) → h ≡ hash_from w bs → said 0 (h ∷ []) [] ≡ keyed_hash_said key bs
  unfolding keyed_hash_said hash_by
  keyed-said e s p = rw (e, p, started (mode_of true key) s)

pub encoded-said : {x : Encoded} {t : List ℕ} {y : EncodedOut} {r : ℕ} → record { result = x; out = t } ≡ y → r ≡ answer_number x.answer
    → said r ((x.len ∷ stat_words x.stats) ∷ []) (t ∷ []) ≡ encoded_said y
unfolding encoded_said
encoded-said e p = rw p (ap encoded_said e)

pub decoded-said : {x y : Decoded} {r : ℕ} → x ≡ y → r ≡ answer_number x.answer
    → said r ((x.id ∷ x.items_at ∷ x.items_len ∷ stat_words x.stats) ∷ x.hash ∷ []) [] ≡ decoded_said y
unfolding decoded_said
decoded-said e p = rw p (ap decoded_said e)

pub scanned-said : {x y : ScanAnswer} {n r : ℕ} → x ≡ y → n ≡ answer_number x.ended → r ≡ answer_number x.answer
    → said r ((x.records ∷ x.place ∷ n ∷ []) ∷ []) [] ≡ scanned_said y
unfolding scanned_said
scanned-said e p q = rw (p, q) (ap scanned_said e)

pub converted-said : {x : ConvertedAnswer} {t u : List ℕ} {y : ConvertedOut} {r : ℕ} → convert.effect x t u ≡ y → r ≡ answer_number x.answer
    → said r ((x.len ∷ x.dropped_len ∷ []) ∷ []) (t ∷ u ∷ []) ≡ converted_said y
unfolding converted_said
converted-said e p = rw p (ap converted_said e)

-- a journal that is read: the record's words are v where the reading is refused
pub read-said : (v : List ℕ) {x : ReadAnswer} {es ws cs u : List ℕ} {y : ReadIn} {n r : ℕ} → effect x es ws cs ≡ y → n ≡ answer_number x.ended
    → (r ≡ answer_number x.answer) × (u ≡ words_after v x.answer (nursery_words x.nursery))
    → said r ((x.applied ∷ x.place ∷ n ∷ []) ∷ []) (u ∷ es ∷ ws ∷ cs ∷ []) ≡ read_in_said v y
unfolding read_in_said
read-said v e k p = rw (k, p.0, p.1) (ap (read_in_said v) e)
