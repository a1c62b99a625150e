-- Blocks in a vector of bytes: one in 16 lanes, two in 32, four in 64; and the bytes of the field in another basis.
use Rattle.std.specs.Prelude.{◌≡◌, ℕ, ◌+◌, ◌*◌, ◌/◌, ◌%◌, ◌<◌, true, ◌||◌, nat_le, nat_lt, List, []}
use Rattle.std.specs.Prelude.{length, slice_index, slice_index_or, if◌then◌else◌, bit_xor}
use Rattle.aes.specs.Field.{sbox}
use Rattle.aes.specs.declared.lanes.TheConstants.{TO_LOW, TO_HIGH, FROM_LOW, FROM_HIGH, INVERSE, SCALED}

-- v has n lanes, and lane k holds f k
pub record HasLanes (n : ℕ) (v : List ℕ) (f : ℕ → ℕ) : Type 0 where
  pub long : length v ≡ n
  pub each : (k : ℕ) → k < n → slice_index v k ≡ f k

-- an index below 16 into a table of sixteen bytes, or one from 128 on, which reads 0
abbrev pub IsPlace : ℕ → Type 0
IsPlace j = (nat_le 128 j || nat_lt j 16) ≡ true

-- the entry of the table, or 0 past its end
abbrev pub entry : List ℕ → ℕ → ℕ
entry t j = if nat_le 128 j then 0 else slice_index t j

-- byte i of some blocks
abbrev pub byte_of : (ℕ → List ℕ) → ℕ → ℕ
byte_of f i = slice_index (f (i / 16)) (i % 16)

-- byte i of copies of the columns ws
abbrev pub key_byte : List (List ℕ) → ℕ → ℕ
key_byte ws i = slice_index (slice_index_or ws (i % 16 / 4) []) (i % 16 % 4)

-- the index of the byte that ShiftRows moves to index i, in each block
abbrev pub row_source : ℕ → ℕ
row_source i = i / 16 * 16 + (i % 4 + 4 * ((i % 16 / 4 + i % 4) % 4))

-- the index to which ShiftRows moves byte i of a block
abbrev pub row_target : ℕ → ℕ
row_target i = i % 4 + 4 * ((i / 4 + 3 * (i % 4)) % 4)

-- the index one row down in the same column; row 0 is below row 3
abbrev pub row_below : ℕ → ℕ
row_below i = i / 4 * 4 + (i + 1) % 4

-- the index one row up in the same column
abbrev pub row_above : ℕ → ℕ
row_above i = i / 4 * 4 + (i + 3) % 4

-- the coordinates of a byte in a basis in which an inverse is found from the two nibbles
unfoldable pub in_basis : ℕ → ℕ
in_basis x = bit_xor (slice_index TO_LOW (x % 16)) (slice_index TO_HIGH (x / 16))

-- the byte with these coordinates in that basis
unfoldable pub from_basis : ℕ → ℕ
from_basis y = bit_xor (slice_index FROM_LOW (y % 16)) (slice_index FROM_HIGH (y / 16))

-- ---- an inverse, from the nibbles of a byte in the basis
-- the scaled inverse of the low nibble
abbrev pub scaled_at : ℕ → ℕ
scaled_at y = entry SCALED (y % 16)

-- the sum of the nibbles
abbrev pub both_at : ℕ → ℕ
both_at y = bit_xor (y % 16) (y / 16)

-- the inverse of the high nibble plus the scaled inverse of the low one, which the first nibble inverts
abbrev pub first_at : ℕ → ℕ
first_at y = bit_xor (entry INVERSE (y / 16)) (scaled_at y)

-- the inverse of the sum of the nibbles plus the scaled inverse of the low one, which the second nibble inverts
abbrev pub second_at : ℕ → ℕ
second_at y = bit_xor (entry INVERSE (both_at y)) (scaled_at y)

-- the first nibble of the inverse
unfoldable pub u_at : ℕ → ℕ
u_at y = bit_xor (entry INVERSE (first_at y)) (both_at y)

-- the second nibble of the inverse
unfoldable pub t_at : ℕ → ℕ
t_at y = bit_xor (entry INVERSE (second_at y)) (y / 16)

-- the XOR of two tables' entries at the nibbles of the inverse
abbrev pub by_inverse : List ℕ → List ℕ → ℕ → ℕ
by_inverse p q y = bit_xor (entry p (u_at y)) (entry q (t_at y))

-- ---- the S-box, and blocks
-- the S-box without its constant
unfoldable pub linear_sbox : ℕ → ℕ
linear_sbox x = bit_xor (sbox x) 0x63

-- n lanes of v hold the blocks f 0, f 1 ..
abbrev pub HoldsBlocks : ℕ → List ℕ → (ℕ → List ℕ) → Type 0
HoldsBlocks n v f = HasLanes n v (byte_of f)

-- n lanes of v hold them in that basis, after ShiftRows
abbrev pub HoldsShifted : ℕ → List ℕ → (ℕ → List ℕ) → Type 0
HoldsShifted n v f = HasLanes n v (λ i. in_basis (byte_of f (row_source i)))

-- byte i of the words from word m on
abbrev pub byte_from : List (List ℕ) → ℕ → ℕ → ℕ
byte_from ws m i = slice_index (slice_index_or ws (m + i / 4) []) (i % 4)

-- the first lanes of v hold the words m to m + count - 1 in that basis
pub record HoldsWords (count : ℕ) (v : List ℕ) (ws : List (List ℕ)) (m : ℕ) : Type 0 where
  pub each : (i : ℕ) → i < 4 * count → slice_index v i ≡ in_basis (byte_from ws m i)

-- the four words of v are sums of the words of x, each the sum of a word and all words before it
pub record HasSums (v x : List ℕ) : Type 0 where
  pub first : (r : ℕ) → r < 4 → slice_index v r ≡ slice_index x r
  pub second : (r : ℕ) → r < 4 → slice_index v (4 + r) ≡ bit_xor (slice_index x (4 + r)) (slice_index x r)
  pub third : (r : ℕ) → r < 4 → slice_index v (8 + r)
      ≡ bit_xor (bit_xor (slice_index x (8 + r)) (slice_index x (4 + r))) (slice_index x r)
  pub fourth : (r : ℕ) → r < 4 → slice_index v (12 + r)
      ≡ bit_xor (bit_xor (slice_index x (12 + r)) (slice_index x (8 + r)))
      (bit_xor (slice_index x (4 + r)) (slice_index x r))

-- from word n on, `count` words are the sums of the words from m on and the word before them, and the first of these sums is
-- with the bytes t
pub record Follows (count : ℕ) (ws : List (List ℕ)) (m n : ℕ) (t : ℕ → ℕ) : Type 0 where
  pub first : (r : ℕ) → r < 4 → byte_from ws n r ≡ bit_xor (byte_from ws m r) (t r)
  pub rest : (i : ℕ) → 4 + i < 4 * count → byte_from ws n (4 + i) ≡ bit_xor (byte_from ws m (4 + i)) (byte_from ws n i)

-- the bytes of words are bytes
abbrev pub AreBytes : List (List ℕ) → Type 0
AreBytes ws = (k r : ℕ) → slice_index (slice_index_or ws k []) r < 256
