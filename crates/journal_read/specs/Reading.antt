-- One record, and a journal's records, read into a nursery that lent tables hold.
-- Assumes nothing.
use Rattle.std.specs.Prelude.{ℕ, ◌+◌, List, length, Result, Ok, Err}
use Rattle.base.specs.Answers.{Outcome, refused, taken, Answer, Taken, Refused}
use Rattle.base.specs.declared.Refusal.{Refusal}
use Rattle.cell_nursery.specs.declared.Nursery.{Nursery}
use Rattle.cell_nursery.specs.Entries.{State}
use Rattle.cell_nursery.specs.Delta.{Room, apply_delta}
use Rattle.cell_nursery.specs.Layout.{room_of, state_of}
use Rattle.cell_nursery.specs.Calls.{Changed, laid_out}
use Rattle.format.specs.Record.{Decoding, decode}
use Rattle.format.specs.Record.{stated_hash}
use Rattle.journal.specs.Journal as journal
use Rattle.journal.specs.Journal.{records_from, apply_record, ReadIn, read_out}
use Rattle.journal_read.specs.declared.Step.{Step}

-- what a record did: the nursery after it, and how many bytes it has, 0 where it is refused
pub record StepAnswer : Type 0 where
  pub answer : Answer
  pub nursery : Nursery
  pub len : ℕ

-- that, of what a function returns: beside a refusal, the delta's too, the nursery is the one that was lent, and no length is told
abbrev pub as_step : Nursery → Result Step Refusal → StepAnswer
as_step r (Ok q) = record { answer = Taken; nursery = q.nursery; len = q.len }
as_step r (Err x) = record { answer = Refused x; nursery = r; len = 0 }

-- that, and the tables after it
pub record Stepped : Type 0 where
  pub result : StepAnswer
  pub entries : List ℕ
  pub waiting : List ℕ
  pub cells : List ℕ

abbrev pub stepped : StepAnswer → List ℕ → List ℕ → List ℕ → Stepped
stepped q es ws cs = record { result = q; entries = es; waiting = ws; cells = cs }

-- what a delta did, beside the length of its record
abbrev pub beside : ℕ → Changed → Stepped
beside n c =
    stepped (record { answer = c.result.answer; nursery = c.result.nursery; len = n }) c.entries c.waiting c.cells

unfoldable pub record_on : Nursery → List ℕ → List ℕ → List ℕ → Outcome Decoding → Stepped
record_on r es ws cs (refused x) = beside 0 (laid_out r.delay r es ws cs (refused x))
record_on r es ws cs (taken d) =
    beside (40 + d.stats.payload_bytes) (laid_out r.delay r es ws cs (apply_delta (room_of es ws cs) (state_of r es ws cs) d.delta))

-- the record that bytes start with, its hash taken on trust, on the state that the tables hold
unfoldable pub record_call : Nursery → List ℕ → List ℕ → List ℕ → List ℕ → Stepped
record_call r es ws cs bs = record_on r es ws cs (decode (stated_hash bs) bs)

-- the length of a record, where its delta is taken
abbrev pub len_beside : Answer → ℕ → ℕ
len_beside Taken n = n
len_beside (Refused x) n = 0

-- what a function tells of what a record did: no length beside a refusal
abbrev pub told : Stepped → Stepped
told z =
    stepped (record { answer = z.result.answer; nursery = z.result.nursery; len = len_beside z.result.answer z.result.len }) z.entries z.waiting z.cells

-- a record is applied, its hash taken on trust
abbrev pub apply_held : Room → journal.Step State
apply_held m s bs = apply_record (stated_hash bs) m s bs

-- a journal's records read on so from the state that the tables hold
unfoldable pub read_on : Nursery → List ℕ → List ℕ → List ℕ → List ℕ → ReadIn
read_on r es ws cs bs = read_out r.delay es ws cs (records_from (length bs) (apply_held (room_of es ws cs)) (state_of r es ws cs) 0 0 bs)
