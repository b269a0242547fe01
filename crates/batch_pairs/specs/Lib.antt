-- `Pairs`: what is claimed.
pub mod Pairs
