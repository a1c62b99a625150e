-- Sixteen blocks in eight planes of bits, and the words of a key in planes.
use Rattle.std.specs.Prelude.{◌≡◌, ◌⊎◌, ℕ, ◌+◌, ◌*◌, ◌/◌, ◌%◌, ◌^◌, ◌<◌, List, [], length, slice_index, slice_index_or}
use Rattle.std.specs.Prelude.{bit_xor}
use Rattle.std.specs.Int.{bit_at, to_le_bytes, w128}
use Rattle.octets.specs.Bytes.{block_at}
use Rattle.aes.specs.Cipher.{cipher}

-- p has eight planes of n lanes, and bit k of lane l of plane j is bit j of g l k
pub record HoldsLanes (n : ℕ) (p : List (List ℕ)) (g : ℕ → ℕ → ℕ) : Type 0 where
  pub count : length p ≡ 8
  pub long : (j : ℕ) → j < 8 → length (slice_index_or p j []) ≡ n
  pub each : (j l k : ℕ) → j < 8 → l < n → k < 8
      → bit_at (slice_index (slice_index_or p j []) l) k ≡ bit_at (g l k) j

-- p has eight planes of 32 lanes, and bit k of lane l of plane j is bit j of g l k
abbrev pub HoldsBits : List (List ℕ) → (ℕ → ℕ → ℕ) → Type 0
HoldsBits p g = HoldsLanes 32 p g

-- the words are eight planes of 16 lanes, written as numbers with the first lane least significant: bit k of lane l of
-- plane j is bit j of g l k
pub record HoldsWords (words : List ℕ) (g : ℕ → ℕ → ℕ) : Type 0 where
  pub each : (j l k : ℕ) → j < 8 → l < 16 → k < 8
      → bit_at (slice_index (to_le_bytes w128 (slice_index words j)) l) k ≡ bit_at (g l k) j

-- the index in its block of the byte in lane l
abbrev pub spot : ℕ → ℕ
spot l = l % 4 * 4 + l % 16 / 4

-- of sixteen blocks, the byte whose bits are those at bit k of lane l
abbrev pub block_byte : (ℕ → List ℕ) → ℕ → ℕ → ℕ
block_byte f l k = slice_index (f (l / 16 * 8 + k)) (spot l)

-- p holds the blocks f 0 to f 15
abbrev pub HoldsSixteen : List (List ℕ) → (ℕ → List ℕ) → Type 0
HoldsSixteen p f = HoldsBits p (block_byte f)

-- p holds the blocks f 0 to f 7
abbrev pub HoldsEight : List (List ℕ) → (ℕ → List ℕ) → Type 0
HoldsEight p f = HoldsLanes 16 p (block_byte f)

-- byte i of round key n
abbrev pub word_byte : List (List ℕ) → ℕ → ℕ → ℕ
word_byte ws n i = slice_index (slice_index_or ws (4 * n + i / 4) []) (i % 4)

-- byte i of round key n, plus the constant of the S-box
abbrev pub masked_byte : List (List ℕ) → ℕ → ℕ → ℕ
masked_byte ws n i = bit_xor (word_byte ws n i) 0x63

-- the keys are the round keys up to the last one, in planes of eight blocks
pub record AreReady (keys : List (List ℕ)) (ws : List (List ℕ)) (last : ℕ) : Type 0 where
  pub first : HoldsWords (slice_index_or keys 0 []) (λ l k. word_byte ws 0 (spot l))
  pub middle : (n : ℕ) → 0 < n → n < last → HoldsWords (slice_index_or keys n []) (λ l k. masked_byte ws n (spot l))
  pub final : HoldsWords (slice_index_or keys last []) (λ l k. masked_byte ws last l)

-- lane l of v has the bits of byte l mod 16 of block 8 (l / 16) + q of f
abbrev pub HasByteBits : List ℕ → (ℕ → List ℕ) → ℕ → Type 0
HasByteBits v f q = (l k : ℕ) → l < 32 → k < 8
    → bit_at (slice_index v l) k ≡ bit_at (slice_index (f (l / 16 * 8 + q)) (l % 16)) k

-- the bits of m are those at the places below 8 whose binary digit of weight n is 0
abbrev pub IsMask : ℕ → ℕ → Type 0
IsMask n m = (n ≡ 1) × (m ≡ 0x55) ⊎ ((n ≡ 2) × (m ≡ 0x33) ⊎ (n ≡ 4) × (m ≡ 0x0f))

-- the masks are the ciphers of the blocks that `up` counts, from this number on, modulo 2^32
abbrev pub AreMasks : (List ℕ → ℕ → List ℕ) → List ℕ → List ℕ → ℕ → List ℕ → Type 0
AreMasks up key first number masks = (q : ℕ) → q * 16 < length masks
    → block_at masks q ≡ cipher key (up first ((number + q) % 2 ^ 32))
