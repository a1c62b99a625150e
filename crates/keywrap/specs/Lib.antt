pub mod Wrapping
pub mod Padded
pub mod Blocks
pub mod Refusals
pub mod Code
