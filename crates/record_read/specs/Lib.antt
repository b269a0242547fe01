-- `Judged`: a record by its payload alone. `DecodeLaws`: what decoding answers at each test.
pub mod Judged
pub mod DecodeLaws
