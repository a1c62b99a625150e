pub mod Field
pub mod Schedule
pub mod Cipher
pub mod Counters
pub mod Code
