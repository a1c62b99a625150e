-- How the code represents the register. Wrapping is defined without it.
pub mod Places
pub mod Padded
