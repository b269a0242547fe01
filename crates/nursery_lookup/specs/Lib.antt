-- `Rows`: a row that a search may not find. `RowLaws`: its laws.
pub mod Rows
pub mod RowLaws
