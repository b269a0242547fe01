-- `Promotion`: what is claimed.
pub mod Promotion
