-- One block in a vector of 16 bytes, as the inverse S-box takes it.
use Rattle.std.specs.Prelude.{ℕ, ◌+◌, ◌*◌, ◌/◌, ◌%◌, List, slice_index, bit_xor}
use Rattle.aes.specs.Code.Lanes.{HasLanes, row_target}
use Rattle.aes.specs.declared.inverse_lanes.TheConstants.{UNDONE_LOW, UNDONE_HIGH}

-- the index m rows down in the same column; row 0 is below row 3
abbrev pub row_below : ℕ → ℕ → ℕ
row_below m i = i / 4 * 4 + (i + m) % 4

-- the sum of four terms
abbrev pub mix_of : ℕ → ℕ → ℕ → ℕ → ℕ
mix_of a b c d = bit_xor a (bit_xor b (bit_xor c d))

-- a byte with the matrix of the affine map undone, in the basis
unfoldable pub matrix_undone : ℕ → ℕ
matrix_undone x = bit_xor (slice_index UNDONE_LOW (x % 16)) (slice_index UNDONE_HIGH (x / 16))

-- a byte with the affine map undone, in the basis
abbrev pub affine_undone : ℕ → ℕ
affine_undone x = bit_xor (matrix_undone x) 0x12

-- v holds the block b after InvShiftRows, with the affine map undone at each byte, in the basis
abbrev pub HoldsUndone : List ℕ → List ℕ → Type 0
HoldsUndone v b = HasLanes 16 v (λ i. affine_undone (slice_index b (row_target i)))
