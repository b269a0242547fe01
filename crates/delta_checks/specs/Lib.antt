-- `ChecksLaws`: a turn of each loop over the inserts that looks at their hashes.
pub mod ChecksLaws
