-- How the code represents a text that comes in pieces. The definitions of the standards do without it.
pub mod Pieces
