-- What the passes over a journal measure and write.
-- Assumes nothing.
use Rattle.std.specs.Prelude.{ℕ, zero, suc, ◌+◌, ◌≤◌, ◌≡◌, List, [], ◌∷◌, length, take, drop, eqb}
use Rattle.base.specs.Logic.{pick, flat}
use Rattle.base.specs.Answers.{either}
use Rattle.format.specs.Record.{sealed, parse}
use Rattle.journal.specs.Convert.{dropped_bytes, Conversion, convert}
use Rattle.journal_convert.specs.declared.Sizes.{Sizes}

-- ---- the first pass

-- the byte place of the first record that is refused, or of the end: from a place on, with the bytes from there on, and fuel as for `convert_from`
unfoldable pub stop_from : (List ℕ → List ℕ) → ℕ → ℕ → List ℕ → ℕ
stop_from hash zero place bs = place
stop_from hash (suc fuel) place bs =
    either (λ r. place) (λ d.
    let n = 40 + d.stats.payload_bytes in
    stop_from hash fuel (place + n) (drop n bs)) (parse hash bs)

-- the list of what was dropped
abbrev pub list_bytes : Conversion → List ℕ
list_bytes c = flat dropped_bytes c.dropped

-- what the first pass gives: where it ended, and how many bytes the new journal and the list have
unfoldable pub sizes_of : (List ℕ → List ℕ) → List ℕ → Sizes
sizes_of hash bs =
    let c = convert hash bs in
    record { stop = stop_from hash (length bs) 0 bs; len = length c.bytes; dropped_len = length (list_bytes c) }

-- ---- the second

-- a record of whose payload the first bytes are kept: where those are all, it is their record
pub record Kept (hash : List ℕ → List ℕ) (r : List ℕ) (used : ℕ) : Type 0 where
  pub inside : 40 + used ≤ length r
  pub whole : 40 + used ≡ length r → r ≡ sealed hash (take used (drop 40 r))

-- the record that bytes start with, when only the first bytes of its n bytes of payload are kept
abbrev pub kept_of : (List ℕ → List ℕ) → ℕ → ℕ → List ℕ → List ℕ
kept_of hash n used bs = sealed hash (take used (drop 40 (take (40 + n) bs)))

-- leftovers as they are listed, where there are any
unfoldable pub listed : ℕ → ℕ → List ℕ
listed place count = flat dropped_bytes (pick (eqb count 0) [] (record { place = place; count = count } ∷ []))
