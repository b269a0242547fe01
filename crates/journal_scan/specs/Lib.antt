-- `ScanLaws`: records passed in turn, and how the pass ends.
pub mod ScanLaws
