-- `Payloads`: the eight payloads. `Heads`: the two tiers, and the first index of sets, of large counts, and of both.
-- `PayloadLaws`: reading the sets. `TierLaws`: sets laid over each other, an index at a time. `JoinLaws`: the two tiers as one, an index at a time.
-- `LargeLaws`: the large counts, in the order of the bytes and by index. `SortedLaws`: where they come by ascending index.
-- `StayLaws`: the lowest large index, used until it is passed.
pub mod Payloads
pub mod Heads
pub mod PayloadLaws
pub mod TierLaws
pub mod JoinLaws
pub mod LargeLaws
pub mod SortedLaws
pub mod StayLaws
