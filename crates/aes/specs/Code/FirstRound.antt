-- The first round of blocks that differ in one byte alone.
use Rattle.std.specs.Prelude.{◌≡◌, ℕ, ◌+◌, ◌*◌, ◌/◌, ◌%◌, ◌<◌, ◌≤◌, ◌==◌, if◌then◌else◌, List, [], slice_index, slice_index_or}
use Rattle.std.specs.Prelude.{bit_xor}
use Rattle.std.specs.Int.{bit_at}
use Rattle.aes.specs.Field.{times}
use Rattle.aes.specs.Cipher.{matrix}
use Rattle.aes.specs.Code.Planes.{HoldsEight}

-- what MixColumns adds to row r of a column for the value s of the byte in the row of the byte at `place`
abbrev pub share : ℕ → ℕ → ℕ → ℕ
share place r s = times (slice_index (slice_index_or matrix r []) (place % 4)) s

-- bit k of byte 4 (p mod 4) + r of list p / 4 of lists j is bit j of h r (8 p + k)
pub record HoldsColumns (lists : List (List (List ℕ))) (h : ℕ → ℕ → ℕ) : Type 0 where
  pub each : (j p r k : ℕ) → j < 8 → p < 16 → r < 4 → k < 8
      → bit_at (slice_index (slice_index_or (slice_index_or lists j []) (p / 4) []) (4 * (p % 4) + r)) k
      ≡ bit_at (h r (8 * p + k)) j

-- the first `count` of the states f 0, f 1 .. are one base, with one column of each added to its first column
pub record Shares (planes : List (List ℕ)) (lists : List (List (List ℕ))) (f : ℕ → List ℕ) (count : ℕ) : Type 0 where
  pub base : List ℕ
  pub column : ℕ → ℕ → ℕ
  pub base_is : HoldsEight planes (λ q. base)
  pub columns_are : HoldsColumns lists column
  pub sums : (n i : ℕ) → n < count → i < 16
      → slice_index (f n) i ≡ bit_xor (slice_index base i) (if i / 4 == 0 then column (i % 4) n else 0)

-- n bytes are whole runs of sixteen blocks, eight at most, and from the block of this number on, the counter's byte at `place` does
-- not pass 255 in them
abbrev pub CanShare : (List ℕ → ℕ → List ℕ) → ℕ → List ℕ → ℕ → ℕ → Type 0
CanShare up place first number n = (n % 256 ≡ 0) × (n ≤ 2048) × (slice_index (up first number) place + n / 16 ≤ 256)
