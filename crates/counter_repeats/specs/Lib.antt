-- `GatherLaws`: the indices that a batch names, taken out of its words one after the other. `SpaceLaws`: the words that they are sorted in
-- are 0 before and afterwards.
pub mod GatherLaws
pub mod SpaceLaws
