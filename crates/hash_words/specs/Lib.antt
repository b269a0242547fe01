-- `WideLaws`: a key of four words and the 32 bytes of its hash.
pub mod WideLaws
