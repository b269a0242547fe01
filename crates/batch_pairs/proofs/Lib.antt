-- `InverseLaws`: a batch taken back.
-- `OrderLaws`: two batches in either order.
-- `PairLaws`: both, on a box.
-- `Worked`: evaluated lines.
pub mod InverseLaws
pub mod OrderLaws
pub mod PairLaws
pub mod Worked
