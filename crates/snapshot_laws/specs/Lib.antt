-- `SetLaws`: counts set one after the other. `SmallLaws`: the eight sets laid over one another. `ByteLaws`: the bytes of the sets and of the large tier.
-- `RoundTrip`: reading what was written, and what the bytes determine. `CallLaws`: the two calls.
-- `WellFormedLaws`: every call on the counters leaves a state that can be written and read back.
-- `Parts`: the parts of a snapshot by their places, and what can be wrong with them. `StoredLaws`: which indices have a stored count.
-- `RefusalLaws`: each refusal exactly under its condition. `ReadLaws`: the count that is read at each index. `LoadLaws`: loading, beside reading.
pub mod SetLaws
pub mod SmallLaws
pub mod ByteLaws
pub mod RoundTrip
pub mod CallLaws
pub mod WellFormedLaws
pub mod Parts
pub mod StoredLaws
pub mod RefusalLaws
pub mod ReadLaws
pub mod LoadLaws
