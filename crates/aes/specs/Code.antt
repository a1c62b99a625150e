-- How the code represents a key, the columns of a state and several blocks that are encrypted at once, the position of a
-- stream, and facts about counters that its proofs need. The cipher and the streams are defined without it.
pub mod ExpandedKey
pub mod InverseKey
pub mod InverseLanes
pub mod InverseSteps
pub mod Lanes
pub mod Nibbles
pub mod Planes
pub mod Wraps
pub mod Columns
pub mod FirstRound
pub mod ReadyKeys
pub mod Streams
