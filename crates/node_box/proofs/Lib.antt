-- `OutputLaws`: an output counts by its length alone.
pub mod OutputLaws
