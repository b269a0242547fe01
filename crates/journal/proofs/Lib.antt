-- `ReadLaws`: records read in turn, and how a reading ends.
-- `ModeLaws`: scanning and reading in a mode.
-- `ConvertLaws`: records converted in turn, and how many bytes come of them.
pub mod ConvertLaws
pub mod ModeLaws
pub mod ReadLaws
