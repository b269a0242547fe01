-- `Held`: what a walk over records holds; `Returned`: how what the code holds reads as that. `Walk`: what each record does to it. `TurnLaws`:
-- the same, one law for each way out of a function. `SomeLaws`: some records applied one after the other. `WalkLaws`: the walk's invariant, its
-- measure and its end; `SumsWalkLaws`, `InvWalkLaws`, `JudgeWalkLaws`, `LookWalkLaws`, `ApplyWalkLaws`: the sums, the invariant by phase, the
-- tests, the looks and the passes behind it.
pub mod Held
pub mod Returned
pub mod SomeLaws
pub mod Walk
pub mod SumsWalkLaws
pub mod InvWalkLaws
pub mod JudgeWalkLaws
pub mod LookWalkLaws
pub mod ApplyWalkLaws
pub mod WalkLaws
pub mod TurnLaws
