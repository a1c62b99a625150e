-- How the least significant byte of a 32-bit counter, and its low half, count.
use Rattle.std.specs.Prelude.{◌≡◌, ◌⊎◌, ℕ, ◌+◌, ◌%◌, ◌<◌, ◌==◌, if◌then◌else◌, List, slice_index, bit_xor}
use Rattle.octets.specs.Bytes.{IsBlock}

-- blocks stay blocks; the low half of the byte at `place` counts modulo 16; and while it is 0, fewer than 16 steps change
-- nothing else
pub record CountsInNibble (up : List ℕ → ℕ → List ℕ) (place : ℕ) : Type 0 where
  pub within : place < 16
  pub blocks : (b : List ℕ) (j : ℕ) → IsBlock b → IsBlock (up b j)
  pub nibble : (b : List ℕ) (j : ℕ) → IsBlock b → slice_index (up b j) place % 16 ≡ (slice_index b place + j) % 16
  pub near : (b : List ℕ) (j s i : ℕ) → IsBlock b → slice_index (up b j) place % 16 ≡ 0 → s < 16 → i < 16
      → slice_index (up b (j + s)) i ≡ bit_xor (slice_index (up b j) i) (if i == place then s else 0)

-- blocks stay blocks; the byte at `place` is the first or the last of a block; and while it does not pass 255, steps are added to
-- it and change nothing else
pub record CountsInByte (up : List ℕ → ℕ → List ℕ) (place : ℕ) : Type 0 where
  pub within : place < 16
  pub end : (place ≡ 0) ⊎ (place ≡ 15)
  pub blocks : (b : List ℕ) (j : ℕ) → IsBlock b → IsBlock (up b j)
  pub near : (b : List ℕ) (j s i : ℕ) → IsBlock b → slice_index (up b j) place + s < 256 → i < 16
      → slice_index (up b (j + s)) i ≡ slice_index (up b j) i + (if i == place then s else 0)
