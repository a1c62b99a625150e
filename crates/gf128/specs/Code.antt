-- How the code represents polynomials as words and sums their products, how a caller stores the multiples of a key, and the
-- text that a state in pieces holds. GHASH and POLYVAL are defined without it.
pub mod Words
pub mod States
pub mod PlainMultiples
