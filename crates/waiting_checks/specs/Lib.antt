-- `Marks`: the entries of a window, marked one after the other. `MarkLaws`: one more mark leaves the others. `WindowLaws`: the rows of a
-- window, and of all windows. `TiedLaws`: places in place of hashes. `RowLaws`: what the code finds out of one row.
pub mod Marks
pub mod MarkLaws
pub mod WindowLaws
pub mod TiedLaws
pub mod RowLaws
