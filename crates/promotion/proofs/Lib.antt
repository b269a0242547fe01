-- `Lines`: evaluated lines.
-- `TrackLaws`: one entry in a nursery.
-- `PromotionLaws`: the claim, on a box.
pub mod PromotionLaws
pub mod TrackLaws
pub mod Lines
