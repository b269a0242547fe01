-- `Parts`: the parts of a snapshot. `PartLaws`: they stand one after the other. `BoundLaws`: its length fits.
pub mod Parts
pub mod PartLaws
pub mod BoundLaws
