-- What the calls on the counters and on their snapshots say where the state record is lent as words: the call under each, by the
-- record that the words spell.
-- Assumes nothing.
use Rattle.std.specs.Prelude.{ℕ, List, [], ◌∷◌}
use Rattle.base.specs.Answers.{answer_number}
use Rattle.base.specs.Output.{Wrote}
use Rattle.counters.specs.Returned.{Allocated, Got, ShrunkAnswer}
use Rattle.counters.specs.Calls.{Changed, new_call, alloc_call, get_call, batch_call, shrink_call}
use Rattle.snapshot.specs.Calls.{Loading, serialize_call, deserialize_call, load_call, length_call}
use Rattle.state_words.specs.Words.{settings_of, counters_of, counters_words, decisions, Said, said, one_word, written_said, words_after}

-- ---- what the calls under them give, in words

-- a state that follows another: its record's words and its table are written
unfoldable pub changed_said : Changed → Said
changed_said x = said (answer_number x.result.answer) [] (counters_words x.result.counters ∷ x.table ∷ [])

-- an index handed out: the value is the index, and the record's words are written
unfoldable pub allocated_said : Allocated → Said
allocated_said x = said (answer_number x.answer) (one_word x.idx.0) (counters_words x.counters ∷ [])

-- a count that was read
unfoldable pub got_said : Got → Said
got_said x = said (answer_number x.answer) (one_word x.count.0) []

-- what is to be shrunk: the value is the decisions, and the record's words are written
unfoldable pub shrunk_said : ShrunkAnswer → Said
shrunk_said x = said (answer_number x.answer) (decisions x.alive x.small ∷ []) (counters_words x.counters ∷ [])

-- a length that was found
unfoldable pub length_found : Wrote → Said
length_found x = said (answer_number x.answer) (one_word x.len) []

-- a state that was made or read in: its record's words are written where it was taken, and its table
unfoldable pub read_said : List ℕ → Changed → Said
read_said w x = said (answer_number x.result.answer) [] (words_after w x.result.answer (counters_words x.result.counters) ∷ x.table ∷ [])

-- the same of one that was loaded: the value is the total that the snapshot has
unfoldable pub loaded_said : List ℕ → Loading → Said
loaded_said w x = said (answer_number x.result.answer) (one_word x.result.old_total) (words_after w x.result.answer (counters_words x.result.counters) ∷ x.table ∷ [])

-- ---- the calls, where w is the record's words and t the table of counts

-- fresh counters at a next index, under the settings of three numbers, whatever the words and the table were
unfoldable pub new_said : ℕ → ℕ → ℕ → ℕ → List ℕ → List ℕ → Said
new_said base max save next w t = read_said w (new_call (settings_of base max save) (record { 0 = next }) t)

-- the next index handed out
unfoldable pub alloc_said : List ℕ → Said
alloc_said w = allocated_said (alloc_call (counters_of w))

-- the count at index i
unfoldable pub get_said : List ℕ → List ℕ → ℕ → Said
get_said w t i = got_said (get_call (counters_of w) t (record { 0 = i }))

-- the batch of the words b
unfoldable pub batch_said : List ℕ → List ℕ → List ℕ → Said
batch_said w t b = changed_said (batch_call (counters_of w) t b)

-- maintenance by the record's settings, where the alive shrink saves so many bytes
unfoldable pub shrink_said : List ℕ → List ℕ → ℕ → Said
shrink_said w t saved = shrunk_said (shrink_call (counters_of w) t saved)

-- how many bytes the snapshot takes
unfoldable pub length_said : List ℕ → List ℕ → Said
length_said w t = length_found (length_call (counters_of w) t)

-- the snapshot into an output
unfoldable pub serialize_said : List ℕ → List ℕ → List ℕ → Said
serialize_said w t out = written_said (serialize_call (counters_of w) t out)

-- the counters of the snapshot bs, under the settings of three numbers, whatever the words and the table were
unfoldable pub deserialize_said : ℕ → ℕ → ℕ → List ℕ → List ℕ → List ℕ → Said
deserialize_said base max save bs w t = read_said w (deserialize_call (settings_of base max save) bs t)

-- the same, with a live total that may be raised
unfoldable pub load_said : ℕ → ℕ → ℕ → List ℕ → List ℕ → List ℕ → Said
load_said base max save bs w t = loaded_said w (load_call (settings_of base max save) bs t)
