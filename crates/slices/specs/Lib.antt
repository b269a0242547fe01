-- `Places`: a list put into another. `Laws`: pastes, parts and comparisons. `Turns`: a turn of a loop over a slice. `NumberLaws`: numbers in bytes.
-- `ByteLaws`: lists of bytes. `PlaceLaws`: lists put into a list at places.
pub mod Places
pub mod Laws
pub mod Turns
pub mod NumberLaws
pub mod ByteLaws
pub mod PlaceLaws
