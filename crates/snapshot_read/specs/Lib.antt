-- `Fresh`: what there is to lay under settings, the counters that are read, and their record. `LayLaws`: counts laid into a table one behind the other, and the ways of both calls.
pub mod Fresh
pub mod LayLaws
