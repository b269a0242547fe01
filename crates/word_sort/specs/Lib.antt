-- `Sort`: numbers in order. `SortLaws`: a sorted list is one in order with the same numbers, and no other is. `OrderLaws`: so a list that the library
-- has sorted is the sorted one. `Halves`, `MergeLaws` and `PartLaws`: laws of sorting by halves, of two parts in order that become one.
pub mod Sort
pub mod SortLaws
pub mod OrderLaws
pub mod Halves
pub mod MergeLaws
pub mod PartLaws
