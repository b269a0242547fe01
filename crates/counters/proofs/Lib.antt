-- `CodingLaws`: rows and their words.
-- `EachLaws`: a figure for each set.
-- `LayoutLaws`: the table holds exactly the states.
-- `CountLaws`: the count at each index.
-- `BatchLaws`: what a batch leaves, in any order.
-- `BoundLaws`: 25 behind the other steps.
-- `RefusalLaws`: each refusal exactly under its condition.
-- `CallLaws`: 20 never follows a call on a table that holds a state.
-- `WordLaws`: a batch of records and the words that spell it are one batch.
-- `RowLaws`, `SetLaws`, `StepLaws`, `MaintenanceLaws`: rows, a count set, transitions and the sets, as the code goes through them.
pub mod ApplyLaws
pub mod BatchLaws
pub mod BoundLaws
pub mod CallLaws
pub mod CodingLaws
pub mod CountLaws
pub mod EachLaws
pub mod JudgeLaws
pub mod LayoutLaws
pub mod MaintenanceLaws
pub mod ReadLaws
pub mod RefusalLaws
pub mod RowLaws
pub mod SetLaws
pub mod StepLaws
pub mod WordLaws
