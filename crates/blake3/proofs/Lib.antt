-- `Laws`: what the proofs cite. `Vector`: a published hash, by evaluation.
pub mod Laws
pub mod Vector
