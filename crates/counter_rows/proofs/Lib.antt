-- `ChunkLaws`: the rows of lent words, taken as many words at a time as a row has.
pub mod ChunkLaws
