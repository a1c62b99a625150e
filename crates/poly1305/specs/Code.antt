-- How the code represents numbers modulo 2^130 - 5, and the text that a state in pieces holds. The tag is defined without it.
pub mod Residue
pub mod PartialSums
pub mod States
