-- `Walk`: a delta's items read by places. `WalkLaws`: what a loop over them knows, and that they are the delta.
pub mod Walk
pub mod WalkLaws
