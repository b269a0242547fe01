-- Beside a refusal every figure of a record is 0.
-- Assumes nothing.
use Rattle.std.specs.Prelude.{◌≡◌, refl, List, ℕ}
use Rattle.base.specs.Answers.{Outcome, refused, taken, Refused}
use Rattle.base.specs.AnswerLaws.{not-refused}
use Rattle.base.specs.declared.Refusal.{Refusal}
use Rattle.format.specs.declared.RecordStats.{RecordStats}
use Rattle.format.specs.Record.{Encoding, Decoding}
use Rattle.format.specs.Returned.{no_stats}
use Rattle.format.specs.Calls.{encoded_out, decoded_of}

abbrev pub zeros : RecordStats
zeros = record { payload_bytes = 0; metadata_bytes = 0; cell_bytes = 0; insert_ops = 0; remove_ops = 0 }

pub encoded-zeros : (out : List ℕ) (o : Outcome Encoding) (r : Refusal) → (encoded_out out o).result.answer ≡ Refused r → (encoded_out out o).result.stats ≡ zeros
unfolding encoded_out no_stats
encoded-zeros out (refused q) r e = refl
encoded-zeros out (taken x) r e = absurd (not-refused e)

pub decoded-zeros : (o : Outcome Decoding) (r : Refusal) → (decoded_of o).answer ≡ Refused r → (decoded_of o).stats ≡ zeros
unfolding decoded_of no_stats
decoded-zeros (refused q) r e = refl
decoded-zeros (taken x) r e = absurd (not-refused e)
