-- The round keys of a key in the form in which the rounds take them, for a caller that stores them.
use Rattle.std.specs.Prelude.{◌≡◌, ℕ, ◌<◌, List, [], length, slice_index, slice_index_or}
use Rattle.std.specs.Prelude.{bit_xor}
use Rattle.aes.specs.Code.Lanes.{in_basis, row_source}
use Rattle.aes.specs.Code.Planes.{word_byte, masked_byte}
use Rattle.aes.specs.Schedule.{round_count, schedule}

-- byte i of round key n, in the basis of `in_basis`, plus the constant of the S-box
abbrev pub ready_byte : List (List ℕ) → ℕ → ℕ → ℕ
ready_byte ws n i = bit_xor (in_basis (word_byte ws n i)) 0x7c

-- the fifteen lists of 16 bytes are the round keys of the key, and zeros after them. The first is as the standard has it; the
-- last has the constant of the S-box added; those between are in the basis, with that constant, and have their rows shifted
pub record KeepsReadyKeys (keys : List (List ℕ)) (key : List ℕ) : Type 0 where
  pub long : length keys ≡ 15
  pub each_long : (n : ℕ) → n < 15 → length (slice_index_or keys n []) ≡ 16
  pub first : (i : ℕ) → i < 16 → slice_index (slice_index_or keys 0 []) i ≡ word_byte (schedule key) 0 i
  pub middle : (n i : ℕ) → 0 < n → n < round_count key → i < 16
      → slice_index (slice_index_or keys n []) i ≡ ready_byte (schedule key) n (row_source i)
  pub last : (i : ℕ) → i < 16
      → slice_index (slice_index_or keys (round_count key) []) i ≡ masked_byte (schedule key) (round_count key) i
  pub after : (n i : ℕ) → round_count key < n → n < 15 → i < 16 → slice_index (slice_index_or keys n []) i ≡ 0
