-- What the calls on records and journals give over words, as include/selvaigo.h declares them. A mode is said by a flag, whether there is a key, and
-- the key's bytes.
-- Assumes nothing.
use Rattle.std.specs.Prelude.{ℕ, true, List, [], ◌∷◌}
use Rattle.base.specs.Logic.{pick, zeros}
use Rattle.base.specs.Answers.{number_of, answer_number}
use Rattle.base.specs.declared.Refusal.TheVariants.{BadSetting}
use Rattle.blake3.specs.Spec as blake3
use Rattle.blake3.specs.Mode.{Mode, mode_of, bad_key}
use Rattle.format.specs.declared.RecordStats.{RecordStats}
use Rattle.format.specs.Returned.{Decoded}
use Rattle.format.specs.Calls.{EncodedOut, encode_under, decode_under}
use Rattle.journal.specs.Returned.{ScanAnswer}
use Rattle.journal.specs.Journal.{scan_under, ReadIn, read_under}
use Rattle.journal.specs.Convert.{ConvertedOut, convert_call}
use Rattle.state_words.specs.Words.{nursery_words, Said, said, words_after}
use Rattle.word_calls.specs.NurserySaid.{flag}

-- the mode that a flag and a key's bytes say
abbrev pub mode_said : ℕ → List ℕ → Mode
mode_said keyed key = mode_of (flag keyed) key

-- the hash of bytes under a key
unfoldable pub keyed_hash_said : List ℕ → List ℕ → Said
keyed_hash_said key bs =
    pick (bad_key (mode_of true key)) (said (number_of BadSetting) (zeros 32 ∷ []) []) (said 0 (blake3.keyed key bs ∷ []) [])

-- the figures of a record
abbrev pub stat_words : RecordStats → List ℕ
stat_words s = s.payload_bytes ∷ s.metadata_bytes ∷ s.cell_bytes ∷ s.insert_ops ∷ s.remove_ops ∷ []

-- an encoded record's length and figures, and the output
unfoldable pub encoded_said : EncodedOut → Said
encoded_said x = said (answer_number x.result.answer) ((x.result.len ∷ stat_words x.result.stats) ∷ []) (x.out ∷ [])

-- the record of a delta into a lent output, in a mode
unfoldable pub encode_said : ℕ → List ℕ → ℕ → ℕ → ℕ → ℕ → List ℕ → List ℕ → Said
encode_said keyed key id wide inserts removes items out = encoded_said (encode_under (mode_said keyed key) id (flag wide) inserts removes items out)

-- a decoded record's id, the place and the length of its items, and its figures; and its hash
unfoldable pub decoded_said : Decoded → Said
decoded_said d = said (answer_number d.answer) ((d.id ∷ d.items_at ∷ d.items_len ∷ stat_words d.stats) ∷ d.hash ∷ []) []

-- the record that bytes start with, in a mode
unfoldable pub decode_said : ℕ → List ℕ → List ℕ → Said
decode_said keyed key bs = decoded_said (decode_under (mode_said keyed key) bs)

-- how many records of a journal are taken, the place after them, and the number of what ended them
unfoldable pub scanned_said : ScanAnswer → Said
scanned_said x = said (answer_number x.answer) ((x.records ∷ x.place ∷ answer_number x.ended ∷ []) ∷ []) []

-- the records of a journal, in a mode, applied to nothing
unfoldable pub scan_said : ℕ → List ℕ → List ℕ → Said
scan_said keyed key bs = scanned_said (scan_under (mode_said keyed key) bs)

-- the lengths of the new journal and of the list of what was dropped, and the two outputs
unfoldable pub converted_said : ConvertedOut → Said
converted_said x = said (answer_number x.result.answer) ((x.result.len ∷ x.result.dropped_len ∷ []) ∷ []) (x.out ∷ x.dropped ∷ [])

-- a journal of no key, converted into lent outputs
unfoldable pub convert_said : List ℕ → List ℕ → List ℕ → Said
convert_said bs out dropped = converted_said (convert_call blake3.hash bs out dropped)

-- the records that a reading applied, the place after them and the number of what ended it; the nursery's words where it was taken, and its tables
unfoldable pub read_in_said : List ℕ → ReadIn → Said
read_in_said v x =
    let j = x.result in
    said (answer_number j.answer) ((j.applied ∷ j.place ∷ answer_number j.ended ∷ []) ∷ [])
    (words_after v j.answer (nursery_words j.nursery) ∷ x.entries ∷ x.waiting ∷ x.cells ∷ [])

-- a journal, read in a mode into an empty nursery with a delay, whatever the words v of its record and the tables were
unfoldable pub journal_said : ℕ → List ℕ → ℕ → List ℕ → List ℕ → List ℕ → List ℕ → List ℕ → Said
journal_said keyed key delay bs v es ws cs = read_in_said v (read_under (mode_said keyed key) delay bs es ws cs)
