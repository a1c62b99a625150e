mod Tested
mod FieldFacts
mod Sums
mod Multiples
mod Tables
mod Grids
mod Rows
mod Words
mod Schedules
mod Expanded
mod Linear
pub mod Steps
mod ColumnWords
mod InverseRounds
mod InverseLanes
mod InverseBytes
mod FourBlocks
mod Substitution
mod FourRounds
mod MadeKeys
pub mod Permutation
mod Counting
pub mod StreamSteps
pub mod Computed
pub mod Small
pub mod Vectors
mod Circuit
mod BitPlanes
mod Exchanges
mod CountedBlocks
mod Nibbles
mod SixteenBlocks
mod KeyPlanes
mod Loads
mod FirstRounds
