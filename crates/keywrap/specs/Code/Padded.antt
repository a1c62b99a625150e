-- The register with which a wrapping with padding begins.
use Rattle.std.specs.Prelude.{◌≡◌, ℕ, ◌+◌, ◌-◌, ◌<◌, ◌≤◌, List, length, take, drop, replicate}
use Rattle.std.specs.Int.{w32, from_be_bytes}
use Rattle.keywrap.specs.Padded.{HasPaddableLength, constant, alternative_value, padded}

-- A and the blocks are the register with which the wrapping of the text begins
pub record IsStartOf (text first blocks : List ℕ) : Type 0 where
  pub length_is : HasPaddableLength text
  pub first_is : first ≡ alternative_value (length text)
  pub blocks_are : blocks ≡ padded text

-- the length that A states: its last four bytes
abbrev pub stated : List ℕ → ℕ
stated first = from_be_bytes w32 (drop 4 first)

-- A begins with the constant and states a length n, the blocks have n bytes and fewer than eight after them, and these are zeros
pub record IsPaddedStart (first blocks : List ℕ) : Type 0 where
  pub constant_is : take 4 first ≡ constant
  pub least : stated first ≤ length blocks
  pub few : length blocks < stated first + 8
  pub zeros : drop (stated first) blocks ≡ replicate (length blocks - stated first) 0
