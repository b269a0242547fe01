-- The words of a call, and how an answer is written.
-- Assumes nothing.
use Rattle.std.specs.Prelude.{ℕ, ◌+◌, List, [], ◌∷◌, length, take, drop, nat_le, slice_index_or, Option, Some, None}
use Rattle.std.proofs.Math.Seq.{paste}
use Rattle.base.specs.Logic.{pick, fold}
use Rattle.base.specs.Bytes.{le64, unle}

-- the word at a place, and 0 where it isn't all there
unfoldable pub word_at : List ℕ → ℕ → ℕ
word_at call at = pick (nat_le (at + 8) (length call)) (unle (take 8 (drop at call))) 0

-- where the key ends of a call that begins with whether there is one, its length and the key, if it is all there
unfoldable pub key_end : List ℕ → Option ℕ
key_end call = let end = 2 + slice_index_or call 1 0 in pick (nat_le 2 (length call)) (pick (nat_le end (length call)) (Some end) None) None

-- an output, and the place up to which an answer stands in it, if it has found room
pub record Answer : Type 0 where
  pub at : Option ℕ
  pub out : List ℕ

-- the record of a place and an output, for contracts
abbrev pub up_to : Option ℕ → List ℕ → Answer
up_to at out = record { at = at; out = out }

-- bytes go to a place of an output; where there is no room for them, the output stays as it is and the answer has no length
abbrev pub bytes_at : List ℕ → List ℕ → Option ℕ → Answer
bytes_at bs out (Some at) = pick (nat_le (at + length bs) (length out)) (up_to (Some (at + length bs)) (paste out at bs (length bs))) (up_to None out)
bytes_at bs out None = up_to None out

-- the answer goes on with bytes
unfoldable pub with_bytes : List ℕ → Answer → Answer
with_bytes bs a = bytes_at bs a.out a.at

-- the answer goes on with a word
unfoldable pub with_word : ℕ → Answer → Answer
with_word w a = with_bytes (le64 w) a

-- the answer goes on with words, one after the other
unfoldable pub with_words : List ℕ → Answer → Answer
with_words ws a = fold with_word ws a

-- the answer of a number and words, from the start of an output
unfoldable pub answer_of : ℕ → List ℕ → List ℕ → Answer
answer_of number ws out = with_words ws (with_bytes (number ∷ []) (up_to (Some 0) out))
