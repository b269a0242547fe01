-- Conversions of a journal, fixed by evaluation.
-- In the place of the hash stands one that is quick to evaluate: the first 32 bytes of what it covers.
-- Assumes nothing.
use Rattle.std.specs.Prelude.{◌≡◌, refl, ℕ, List, [], ◌∷◌, ◌++◌, length, take, drop, replicate}
use Rattle.base.specs.Logic.{zeros}
use Rattle.base.specs.Bytes.{le32, le64}
use Rattle.base.specs.Answers.{Taken, Refused}
use Rattle.base.specs.declared.Refusal.TheVariants.{OutputFull}
use Rattle.journal.specs.Convert.{Dropped, ConvertedOut, unchanged, convert, convert_call}
use Rattle.journal.specs.Open.{evaluation}

-- the stand-in for the hash, and the record of a payload
abbrev first_bytes : List ℕ → List ℕ
first_bytes b = take 32 (b ++ zeros 32)

abbrev record_of : List ℕ → List ℕ
record_of p = let b = le64 (length p) ++ p in first_bytes b ++ b

-- a record that removes one hash (88 bytes), and the same with three bytes after it (91)
abbrev one : List ℕ
one = record_of (zeros 8 ++ le32 0 ++ le32 1 ++ zeros 31 ++ 5 ∷ [])

abbrev longer : List ℕ
longer = record_of (zeros 8 ++ le32 0 ++ le32 1 ++ zeros 31 ++ 5 ∷ 7 ∷ 8 ∷ 9 ∷ [])

-- a record of no item (56 bytes), and the same with a byte after it
abbrev idle : List ℕ
idle = record_of (zeros 16)

abbrev idle_longer : List ℕ
idle_longer = record_of (zeros 16 ++ 4 ∷ [])

-- an insert with a cell of two bytes (104 bytes), and the same with a whole remove after it that isn't counted
abbrev young : List ℕ
young = record_of (zeros 8 ++ le32 1 ++ le32 0 ++ zeros 44 ++ 2 ∷ 0 ∷ 6 ∷ 6 ∷ [])

abbrev young_longer : List ℕ
young_longer = record_of (zeros 8 ++ le32 1 ++ le32 0 ++ zeros 44 ++ 2 ∷ 0 ∷ 6 ∷ 6 ∷ zeros 32)

-- a record with another hash than its own, and one whose items run past its payload
abbrev spoiled : List ℕ
spoiled = 9 ∷ drop 1 one

abbrev misfit : List ℕ
misfit = record_of (zeros 15)

abbrev at : ℕ → ℕ → Dropped
at place count = record { place = place; count = count }

abbrev refused : List ℕ → List ℕ → ConvertedOut
refused out dropped = record { result = record { answer = Refused OutputFull; len = 0; dropped_len = 0 }; out = out; dropped = dropped }

pub record Conversions : Type 0 where
  -- no journal, and records that are as encoding writes them
  empty : convert first_bytes [] ≡ unchanged []
  same : convert first_bytes (one ++ young ++ one) ≡ unchanged (one ++ young ++ one)
  -- leftovers go: three at 88 + 40 + 48, one at 88 + 91 + 40 + 16; the record of no item stays a record
  gone : convert first_bytes (one ++ longer ++ idle_longer ++ one) ≡ record { bytes = one ++ one ++ idle ++ one; dropped = at 176 3 ∷ at 235 1 ∷ [] }
  behind_a_cell : convert first_bytes (young_longer ++ one) ≡ record { bytes = young ++ one; dropped = at 104 32 ∷ [] }
  -- from a record that is cut or damaged on all stays, leftovers behind it among it
  cut : convert first_bytes (longer ++ take 60 one) ≡ record { bytes = one ++ take 60 one; dropped = at 88 3 ∷ [] }
  cut_longer : convert first_bytes (take 90 longer) ≡ unchanged (take 90 longer)
  damaged : convert first_bytes (longer ++ spoiled ++ longer) ≡ record { bytes = one ++ spoiled ++ longer; dropped = at 88 3 ∷ [] }
  misfits : convert first_bytes (longer ++ misfit ++ longer) ≡ record { bytes = one ++ misfit ++ longer; dropped = at 88 3 ∷ [] }
  -- the call: both lengths, each pair as two u64, and what lies beyond the answers
  call : convert_call first_bytes longer (replicate 89 9) (replicate 17 9)
      ≡ record { result = record { answer = Taken; len = 88; dropped_len = 16 }; out = one ++ 9 ∷ []; dropped = 88 ∷ zeros 7 ++ 3 ∷ zeros 7 ++ 9 ∷ [] }
  nothing : convert_call first_bytes [] [] [] ≡ record { result = record { answer = Taken; len = 0; dropped_len = 0 }; out = []; dropped = [] }
  -- outputs that are just long enough, and a byte too few in either
  just : convert_call first_bytes longer (zeros 88) (zeros 16)
      ≡ record { result = record { answer = Taken; len = 88; dropped_len = 16 }; out = one; dropped = 88 ∷ zeros 7 ++ 3 ∷ zeros 7 }
  short_out : convert_call first_bytes longer (replicate 87 9) (replicate 16 9) ≡ refused (replicate 87 9) (replicate 16 9)
  short_list : convert_call first_bytes longer (replicate 88 9) (replicate 15 9) ≡ refused (replicate 88 9) (replicate 15 9)

pub conversions : Conversions
unfolding evaluation
conversions =
    record {
      empty = refl;
      same = refl;
      gone = refl;
      behind_a_cell = refl;
      cut = refl;
      cut_longer = refl;
      damaged = refl;
      misfits = refl;
      call = refl;
      nothing = refl;
      just = refl;
      short_out = refl;
      short_list = refl;
    }
