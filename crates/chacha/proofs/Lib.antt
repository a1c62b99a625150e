mod Vectors
mod Words
pub mod Masking
mod SideBySide
pub mod Lengths
mod ByRows
mod Halves
mod InterleavedRuns
mod Applied
