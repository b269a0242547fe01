-- `ItemLaws`: items are read back.
-- `SpellLaws`: bytes spell the items that are read of them.
-- `HashLaws`: a hash, its words and its bytes.
-- `CodingLaws`: rows and their words.
-- `PutLaws`: a waiting row in its place.
-- `WaitLaws`: the waiting rows are entries' rows.
-- `LayoutLaws`: the tables hold exactly the states.
-- `EntryLaws`: what an insert and a remove leave.
-- `StepLaws`: the same in the tables.
-- `PlaceLaws`: rows whose cells come to lie elsewhere.
-- `KeepLaws`: waiting rows that a test keeps.
-- `DrainLaws`: what draining hands out.
-- `CheckLaws`: the checks of the tables, row after row.
-- `SearchLaws`: a hash looked up in the tables.
-- `OutputLaws`: entries written as bytes.
-- `PrefixLaws`: the waiting rows that draining hands out and drops.
-- `SettingLaws`: the delay, in range or not, and that it stays.
-- `RefusalLaws`: each refusal of a delta, exactly when.
-- `CallLaws`: each refusal of a call on any tables.
-- `Order`: the order and the bounds of the refusals.
pub mod CallLaws
pub mod CheckLaws
pub mod CodingLaws
pub mod DrainLaws
pub mod EntryLaws
pub mod HashLaws
pub mod ItemLaws
pub mod KeepLaws
pub mod LayoutLaws
pub mod OutputLaws
pub mod PlaceLaws
pub mod PrefixLaws
pub mod PutLaws
pub mod RefusalLaws
pub mod SearchLaws
pub mod SettingLaws
pub mod SpellLaws
pub mod StepLaws
pub mod WaitLaws
pub mod Order
