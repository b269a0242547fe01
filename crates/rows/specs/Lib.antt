-- `Table`: rows in a table of words.
-- `Keys`: the order of the rows.
-- `Wide`: keys of four words. The laws hold for any width, coding and key.
pub mod Table
pub mod Keys
pub mod Wide
pub mod Open
