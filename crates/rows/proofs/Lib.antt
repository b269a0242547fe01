-- `TableLaws`: rows as parts of words.
-- `KeyLaws`: the place of a key.
-- `SearchLaws`: rows as a search meets them.
-- `MoveLaws`: rows that move.
-- `PutLaws`: a table with a row more or less.
-- `OrderLaws`: rows put twice or at two places.
-- `WideLaws`: words order as keys do.
pub mod KeyLaws
pub mod MoveLaws
pub mod OrderLaws
pub mod PutLaws
pub mod RowLaws
pub mod SearchLaws
pub mod TableLaws
pub mod WideLaws
