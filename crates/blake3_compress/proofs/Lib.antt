-- `Laws`: what the proofs cite.
pub mod Laws
