-- `Rewriting`: what the passes over a journal measure and write. `PutLaws`: how a record and leftovers are put into an output. `StopLaws`: where the passes end.
-- `RecordLaws`: a record that is taken. `PassLaws`: records in turn, and how each pass ends. `CallLaws`: what the call answers.
pub mod Rewriting
pub mod PutLaws
pub mod StopLaws
pub mod RecordLaws
pub mod PassLaws
pub mod CallLaws
