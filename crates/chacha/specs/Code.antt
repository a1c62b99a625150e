-- Where a state of the key stream is, and how the code computes several blocks at once. The key stream is defined without it.
pub mod States
pub mod Halves
pub mod Lanes
pub mod Rows
