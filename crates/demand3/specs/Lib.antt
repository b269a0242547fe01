-- `Proof`: demand 3. It rests, in this order, on:
-- `States`: what an accepted call makes of the two states that a box holds.
-- `CountersHeld`, `NurseryHeld`: the calls on a record and tables that are those of a state.
-- `Holding`: a box that started fresh always holds two states. `Agreement`: they are in step with the plain box.
-- `Outputs`: what the snapshot and the listing of a box are. `Snapshots`, `Listings`: claims 1 and 2.
-- `Trace`: the journal that a box's calls leave. `Waiting`: every entry waits. `Rebuilding`: claim 3.
-- Beside it, `Kept`: what is kept of a box that started fresh, by `TableWords`.
-- `Refusals`: the table of refusals over such a box, by `Answered`. `DrainRoom`: how much output a drain can take.
pub mod States
pub mod CountersHeld
pub mod NurseryHeld
pub mod Holding
pub mod Agreement
pub mod Outputs
pub mod Listings
pub mod Snapshots
pub mod Trace
pub mod Waiting
pub mod Rebuilding
pub mod Proof
pub mod Answered
pub mod Refusals
pub mod DrainRoom
pub mod TableWords
pub mod Kept
