-- `Spec`: the compression function. `FillLaws`: arrays that a loop fills.
pub mod Spec
pub mod FillLaws
pub mod Open
