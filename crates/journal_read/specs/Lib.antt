-- `Reading`: one record, and a journal, read into a nursery that tables hold. `RecordLaws`: a record that is taken or refused.
-- `ReadLaws`: records read in turn, and how the reading ends.
pub mod Reading
pub mod RecordLaws
pub mod ReadLaws
