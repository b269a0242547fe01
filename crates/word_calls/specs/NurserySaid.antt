-- What the nursery's calls give over words, as include/selvaigo.h declares them.
-- Assumes nothing.
use Rattle.std.specs.Prelude.{ℕ, Bool, not, List, [], ◌∷◌, eqb}
use Rattle.base.specs.Bytes.{unbe}
use Rattle.base.specs.Answers.{answer_number}
use Rattle.cell_nursery.specs.Returned.{Found, Data}
use Rattle.cell_nursery.specs.Calls.{Changed, new_call, delta_call, DrainedOut, drain_call, lookup_call, data_call, listing_call}
use Rattle.state_words.specs.Words.{nursery_of, nursery_words, Said, said, bit, one_word, written_said, words_after}

-- a flag over the C boundary: any number but 0 says yes
abbrev pub flag : ℕ → Bool
flag n = not (eqb n 0)

-- a state that follows another: its record's words, and its tables
unfoldable pub committed_said : Changed → Said
committed_said x =
    said (answer_number x.result.answer) [] (nursery_words x.result.nursery ∷ x.entries ∷ x.waiting ∷ x.cells ∷ [])

-- a state that was made: its record's words where it was taken, and its tables
unfoldable pub made_said : List ℕ → Changed → Said
made_said w x =
    let r = x.result in
    said (answer_number r.answer) [] (words_after w r.answer (nursery_words r.nursery) ∷ x.entries ∷ x.waiting ∷ x.cells ∷ [])

-- an empty nursery with a delay, whatever the words w of its record and the tables were
unfoldable pub empty_said : ℕ → List ℕ → List ℕ → List ℕ → List ℕ → Said
empty_said delay w es ws cs = made_said w (new_call delay es ws cs)

-- a delta
unfoldable pub commit_said : List ℕ → List ℕ → List ℕ → List ℕ → ℕ → ℕ → ℕ → List ℕ → Said
commit_said w es ws cs wide inserts removes items =
    committed_said (delta_call (nursery_of w) es ws cs (flag wide) inserts removes items)

-- what draining hands out: how many bytes of the output it is; the record's words, the waiting rows and the output after it
unfoldable pub drained_said : DrainedOut → Said
drained_said x =
    said (answer_number x.result.answer) (one_word x.result.len) (nursery_words x.result.nursery ∷ x.waiting ∷ x.out ∷ [])

-- draining at a round, by the record's delay
unfoldable pub drain_said : List ℕ → List ℕ → List ℕ → List ℕ → ℕ → List ℕ → Said
drain_said w es ws cs round out = drained_said (drain_call (nursery_of w) es ws cs round out)

-- whether a hash is there, and its index
unfoldable pub found_said : Found → Said
found_said f = said (answer_number f.answer) ((bit f.found ∷ f.idx.0 ∷ []) ∷ []) []

-- a lookup by a hash's 32 bytes
unfoldable pub idx_said : List ℕ → List ℕ → List ℕ → Said
idx_said w es hash = found_said (lookup_call (nursery_of w) es (unbe hash))

-- whether a hash is there, and the place and the length of its cell
unfoldable pub placed_said : Data → Said
placed_said d = said (answer_number d.answer) ((bit d.found ∷ d.place ∷ d.len ∷ []) ∷ []) []

-- the cell of a hash
unfoldable pub data_said : List ℕ → List ℕ → List ℕ → List ℕ → Said
data_said w es cs hash = placed_said (data_call (nursery_of w) es cs (unbe hash))

-- the listing
unfoldable pub listing_said : List ℕ → List ℕ → List ℕ → List ℕ → Said
listing_said w es cs out = written_said (listing_call (nursery_of w) es cs out)
