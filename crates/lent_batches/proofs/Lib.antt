-- `LentLaws`: a batch as a loop meets it, one transition after the other.
pub mod LentLaws
