pub mod Poly1305
pub mod Code
