-- The eight payloads of a snapshot as the code goes through them: whether they are there, their members, and what is left.
-- Assumes nothing.
use Rattle.std.specs.Prelude.{Bool, true, false, List, [], ◌∷◌, ℕ, zero, suc, take, drop}
use Rattle.base.specs.Bytes.{unle, cut, read_le}
use Rattle.base.specs.Answers.{Outcome, refused, taken, ◌>>=◌, or_refuse}
use Rattle.base.specs.declared.Refusal.TheVariants.{TornSnapshot, BadBitmap}
use Rattle.roaring.specs.Read.{parse64}
use Rattle.roaring_cursor.specs.Cursor.{members_of}
use Rattle.counters.specs.Counts.{Entry}
use Rattle.snapshot.specs.Read.{lay_bit}

-- the length that stands before a payload, the payload, and what follows it
abbrev pub size_of : List ℕ → ℕ
size_of bs = unle (take 8 bs)

abbrev pub payload_of : List ℕ → List ℕ
payload_of bs = take (size_of bs) (drop 8 bs)

abbrev pub after_of : List ℕ → List ℕ
after_of bs = drop (size_of bs) (drop 8 bs)

-- the members of n payloads
unfoldable pub sets_of : ℕ → List ℕ → List (List ℕ)
sets_of zero bs = []
sets_of (suc n) bs = members_of (payload_of bs) ∷ sets_of n (after_of bs)

-- sets laid over es, from bit k on
unfoldable pub lay_all : ℕ → List (List ℕ) → List Entry → List Entry
lay_all k [] es = es
lay_all k (xs ∷ xss) es = lay_all (suc k) xss (lay_bit k xs es)

abbrev pub is_taken : {A : Type 0} → Outcome A → Bool
is_taken (refused q) = false
is_taken (taken a) = true

-- what follows n payloads, or the first refusal
unfoldable pub rest_after : ℕ → List ℕ → Outcome (List ℕ)
rest_after zero bs = taken bs
rest_after (suc n) bs = do
  (len, r) ← or_refuse TornSnapshot (read_le 8 bs)
  (payload, r') ← or_refuse TornSnapshot (cut len r)
  xs ← or_refuse BadBitmap (parse64 payload)
  rest_after n r'
