-- Bytes laid over an output, and what stands beside a refusal.
-- Assumes nothing.
use Rattle.std.specs.Prelude.{ℕ, List, ◌++◌, length}
use Rattle.std.proofs.Math.Seq.{paste}
use Rattle.base.specs.Bytes.{le32, le64}
use Rattle.base.specs.Answers.{Refused}
use Rattle.base.specs.declared.Refusal.{Refusal}
use Rattle.format.specs.Returned.{Encoded, no_stats}

-- the output with bytes from a place on
abbrev pub laid_at : List ℕ → ℕ → List ℕ → List ℕ
laid_at t at xs = paste t at xs (length xs)

-- a record's bytes between its hash and its items
abbrev pub head_bytes : ℕ → ℕ → ℕ → ℕ → List ℕ
head_bytes payload id inserts removes = le64 payload ++ (le64 id ++ (le32 inserts ++ le32 removes))

abbrev pub refused_with : Refusal → Encoded
refused_with r = record { answer = Refused r; len = 0; stats = no_stats }
