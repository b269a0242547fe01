-- What reading, scanning and converting a journal answer, and the values beside the answer, also beside a refusal; and how what a function returns reads
-- as that.
-- Assumes nothing.
use Rattle.std.specs.Prelude.{ℕ, Result, Ok, Err}
use Rattle.base.specs.Answers.{Answer, Taken, Refused, answered}
use Rattle.base.specs.declared.Refusal.{Refusal}
use Rattle.cell_nursery.specs.Entries.{empty}
use Rattle.cell_nursery.specs.Layout.{record_of}
use Rattle.cell_nursery.specs.declared.Nursery.{Nursery}
use Rattle.journal.specs.declared.JournalRead.{JournalRead}
use Rattle.journal.specs.declared.JournalScan.{JournalScan}
use Rattle.journal.specs.declared.Converted.{Converted}

-- reading: what it did and how it ended; where the reading itself is refused, all else is zeros
pub record ReadAnswer : Type 0 where
  pub answer : Answer
  pub nursery : Nursery
  pub applied : ℕ
  pub place : ℕ
  pub ended : Answer

abbrev pub as_read : Result JournalRead Refusal → ReadAnswer
as_read (Ok j) = record { answer = Taken; nursery = j.nursery; applied = j.applied; place = j.place; ended = answered j.ended }
as_read (Err r) = record { answer = Refused r; nursery = record_of 0 empty; applied = 0; place = 0; ended = Taken }

-- scanning: how far records are taken, and what ended it; where the scan itself is refused, all else is zeros
pub record ScanAnswer : Type 0 where
  pub answer : Answer
  pub records : ℕ
  pub place : ℕ
  pub ended : Answer

abbrev pub as_scanned : Result JournalScan Refusal → ScanAnswer
as_scanned (Ok j) = record { answer = Taken; records = j.records; place = j.place; ended = answered j.ended }
as_scanned (Err r) = record { answer = Refused r; records = 0; place = 0; ended = Taken }

-- converting: how much of the two outputs is written, 0 beside a refusal
pub record ConvertedAnswer : Type 0 where
  pub answer : Answer
  pub len : ℕ
  pub dropped_len : ℕ

abbrev pub as_converted : Result Converted Refusal → ConvertedAnswer
as_converted (Ok c) = record { answer = Taken; len = c.len; dropped_len = c.dropped_len }
as_converted (Err r) = record { answer = Refused r; len = 0; dropped_len = 0 }
