-- `Rows`: the rows that an insert writes, and the test by which a remove keeps waiting rows. `CellLaws`: a cell put among the cells.
pub mod Rows
pub mod CellLaws
