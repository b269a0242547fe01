-- What encoding and decoding answer, and the values beside the answer, also beside a refusal; and how what a function returns reads as that.
-- Assumes nothing.
use Rattle.std.specs.Prelude.{ℕ, List, Result, Ok, Err}
use Rattle.base.specs.Logic.{zeros}
use Rattle.base.specs.Answers.{Answer, Taken, Refused}
use Rattle.base.specs.declared.Refusal.{Refusal}
use Rattle.format.specs.declared.RecordStats.{RecordStats}
use Rattle.format.specs.declared.EncodedRecord.{EncodedRecord}
use Rattle.format.specs.declared.DecodedRecord.{DecodedRecord}

-- the figures beside a refusal
unfoldable pub no_stats : RecordStats
no_stats = record { payload_bytes = 0; metadata_bytes = 0; cell_bytes = 0; insert_ops = 0; remove_ops = 0 }

-- encoding: how many bytes at the output's start are the record, and its figures
pub record Encoded : Type 0 where
  pub answer : Answer
  pub len : ℕ
  pub stats : RecordStats

abbrev pub as_encoded : Result EncodedRecord Refusal → Encoded
as_encoded (Ok e) = record { answer = Taken; len = e.len; stats = e.stats }
as_encoded (Err r) = record { answer = Refused r; len = 0; stats = no_stats }

-- decoding: the record's id, its hash, where its items lie, and its figures
pub record Decoded : Type 0 where
  pub answer : Answer
  pub id : ℕ
  pub hash : List ℕ
  pub items_at : ℕ
  pub items_len : ℕ
  pub stats : RecordStats

abbrev pub as_decoded : Result DecodedRecord Refusal → Decoded
as_decoded (Ok d) = record { answer = Taken; id = d.id; hash = d.hash; items_at = d.items_at; items_len = d.items_len; stats = d.stats }
as_decoded (Err r) = record { answer = Refused r; id = 0; hash = zeros 32; items_at = 0; items_len = 0; stats = no_stats }
