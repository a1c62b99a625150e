pub mod Block
pub mod Stream
pub mod Code
