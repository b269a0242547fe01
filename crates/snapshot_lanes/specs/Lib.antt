-- `Lanes`: the eight sets side by side, as the code holds them. `LaneLaws`: what their functions find and leave.
-- `Ends`: where the payloads end. `EndLaws`: the same, one payload after the other.
pub mod Lanes
pub mod LaneLaws
pub mod Ends
pub mod EndLaws
