-- `CommitLaws`: each way out of a delta's call.
pub mod CommitLaws
