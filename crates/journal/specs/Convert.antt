-- Rewriting a journal whose payloads may run on after the last item: each record is written anew without such leftovers, up to the first
-- that is refused with 16 to 19. From there on the bytes stay as they are.
-- Assumes nothing.
use Rattle.std.specs.Prelude.{ℕ, zero, suc, ◌+◌, List, [], ◌∷◌, ◌++◌, length, drop, ltb, eqb}
use Rattle.base.specs.Logic.{pick, flat, overlay}
use Rattle.base.specs.Bytes.{le64}
use Rattle.base.specs.Answers.{Outcome, refused, taken, either, ◌>>=◌, ◌>>◌, refuse_if, Taken, Refused}
use Rattle.base.specs.declared.Refusal.TheVariants.{OutputFull, Damaged, BadSetting}
use Rattle.cell_nursery.specs.Entries.{empty}
use Rattle.cell_nursery.specs.Items.{Delta}
use Rattle.cell_nursery.specs.Delta.{apply_delta}
use Rattle.cell_nursery.specs.Layout.{room_of, delay_in_range}
use Rattle.format.specs.declared.RecordStats.{RecordStats}
use Rattle.format.specs.Record.{Decoding, record_bytes, used_bytes, leftover, parse}
use Rattle.journal.specs.Returned.{ConvertedAnswer}
use Rattle.journal.specs.Journal.{Step, records_from, damages, ReadIn, not_read, read_out}

-- ---- the new journal

-- leftovers that were dropped: the byte place in the old journal where they start, and how many they are
pub record Dropped : Type 0 where
  pub place : ℕ
  pub count : ℕ

-- as they are listed
unfoldable pub dropped_bytes : Dropped → List ℕ
dropped_bytes x = le64 x.place ++ le64 x.count

-- the new journal, and what was dropped, in the journal's order
pub record Conversion : Type 0 where
  pub bytes : List ℕ
  pub dropped : List Dropped

-- bytes that stay as they are
abbrev pub unchanged : List ℕ → Conversion
unchanged bs = record { bytes = bs; dropped = [] }

-- what is dropped of the record at a place
unfoldable pub dropped_at : ℕ → RecordStats → List Dropped
dropped_at place t = pick (eqb (leftover t) 0) [] (record { place = place + (40 + used_bytes t); count = leftover t } ∷ [])

-- the record at a place written anew, before what comes after it
unfoldable pub anew : (List ℕ → List ℕ) → ℕ → Decoding → Conversion → Conversion
anew hash place d c =
    record { bytes = record_bytes hash d.id d.delta ++ c.bytes; dropped = dropped_at place d.stats ++ c.dropped }

-- records from a byte place on, with the bytes from there on. A record has 40 bytes at least, so that as much fuel as there are bytes is enough
unfoldable pub convert_from : (List ℕ → List ℕ) → ℕ → ℕ → List ℕ → Conversion
convert_from hash zero place bs = unchanged bs
convert_from hash (suc fuel) place bs =
    either (λ r. unchanged bs) (λ d.
    let n = 40 + d.stats.payload_bytes in
    anew hash place d (convert_from hash fuel (place + n) (drop n bs))) (parse hash bs)

unfoldable pub convert : (List ℕ → List ℕ) → List ℕ → Conversion
convert hash bs = convert_from hash (length bs) 0 bs

-- ---- the call

-- what converting returns, and its two outputs after it
pub record ConvertedOut : Type 0 where
  pub result : ConvertedAnswer
  pub out : List ℕ
  pub dropped : List ℕ

-- converting's effect, for its contract: what it returned, and the outputs as it left them
abbrev pub effect : ConvertedAnswer → List ℕ → List ℕ → ConvertedOut
effect r out dropped = record { result = r; out = out; dropped = dropped }

-- the new journal goes into one output, the list of what was dropped into the other; a refusal touches neither
unfoldable pub converted_out : List ℕ → List ℕ → Outcome Conversion → ConvertedOut
converted_out out dropped (refused r) = effect (record { answer = Refused r; len = 0; dropped_len = 0 }) out dropped
converted_out out dropped (taken c) =
    let list = flat dropped_bytes c.dropped in
    effect (record { answer = Taken; len = length c.bytes; dropped_len = length list }) (overlay c.bytes out) (overlay list dropped)

-- 15 where either output is too short
unfoldable pub convert_call : (List ℕ → List ℕ) → List ℕ → List ℕ → List ℕ → ConvertedOut
convert_call hash bs out dropped =
    let c = convert hash bs in
    converted_out out dropped (do
      refuse_if (ltb (length out) (length c.bytes)) OutputFull
      refuse_if (ltb (length dropped) (length (flat dropped_bytes c.dropped))) OutputFull
      taken c)

-- ---- reading by the rule before, that of `parse`: what a journal meant that is to be converted

-- a record by that rule, and what its delta does
unfoldable pub parsed_step : {S : Type 0} → (List ℕ → List ℕ) → (S → Delta → Outcome S) → Step S
parsed_step hash f s bs = do
  d ← parse hash bs
  t ← f s d.delta
  taken (t, d.stats.payload_bytes)

-- `Journal.read_call`, but that leftovers are passed over
unfoldable pub read_before : (List ℕ → List ℕ) → ℕ → List ℕ → List ℕ → List ℕ → List ℕ → ReadIn
read_before hash delay bs es ws cs =
    pick (delay_in_range delay)
    (pick (damages (records_from (length bs) (parsed_step {S = Unit {0}} hash (λ u d. taken u)) tt 0 0 bs).ended)
    (not_read Damaged es ws cs)
    (read_out delay es ws cs (records_from (length bs) (parsed_step hash (apply_delta (room_of es ws cs))) empty 0 0 bs)))
    (not_read BadSetting es ws cs)
