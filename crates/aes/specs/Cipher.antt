-- The cipher (FIPS 197, 5.1). The state is a grid of 4 by 4 bytes, filled column by column from a block.
use Rattle.std.specs.Prelude.{◌≡◌, ℕ, zero, suc, ◌+◌, ◌-◌, ◌*◌, ◌/◌, ◌%◌, ◌<◌, List, [], ◌∷◌, map, get_or}
use Rattle.std.specs.Prelude.{length, ◌⊎◌, bit_xor}
use Rattle.std.specs.List.{range_with_len}
use Rattle.octets.specs.Bytes.{IsBlock}
use Rattle.aes.specs.Field.{times, sbox}
use Rattle.aes.specs.Schedule.{round_count, schedule}

-- the byte in row r of column c
abbrev pub at : List ℕ → ℕ → ℕ → ℕ
at s r c = get_or s (r + 4 * c) 0

-- the grid whose byte in row r of column c is f r c
abbrev pub grid : (ℕ → ℕ → ℕ) → List ℕ
grid f = map (λ i. f (i % 4) (i / 4)) (range_with_len 0 16)

-- the S-box at each byte (5.1.1)
unfoldable pub sub_bytes : List ℕ → List ℕ
sub_bytes s = grid (λ r c. sbox (at s r c))

-- each row r rotated left by r places (5.1.2)
unfoldable pub shift_rows : List ℕ → List ℕ
shift_rows s = grid (λ r c. at s r ((c + r) % 4))

-- the circulant matrix of MixColumns (5.1.3)
abbrev pub matrix : List (List ℕ)
matrix =
    (2 ∷ 3 ∷ 1 ∷ 1 ∷ []) ∷
    (1 ∷ 2 ∷ 3 ∷ 1 ∷ []) ∷
    (1 ∷ 1 ∷ 2 ∷ 3 ∷ []) ∷
    (3 ∷ 1 ∷ 1 ∷ 2 ∷ []) ∷ []

-- the sum of the products of the bytes of a row and of a column
abbrev pub dot : List ℕ → List ℕ → ℕ
dot [] v = 0
dot (x ∷ u) [] = 0
dot (x ∷ u) (y ∷ v) = bit_xor (times x y) (dot u v)

-- column c of the grid
abbrev pub column : List ℕ → ℕ → List ℕ
column s c = at s 0 c ∷ at s 1 c ∷ at s 2 c ∷ at s 3 c ∷ []

-- the product of the matrix and a column
unfoldable pub mix_column : List ℕ → List ℕ
mix_column v = map (λ u. dot u v) matrix

-- each column times the matrix (5.1.3)
unfoldable pub mix_columns : List ℕ → List ℕ
mix_columns s = grid (λ r c. get_or (mix_column (column s c)) r 0)

-- the sum with round key n, which is the words 4n to 4n + 3 of the schedule ws, each of them a column (5.1.4)
unfoldable pub add_round_key : List (List ℕ) → ℕ → List ℕ → List ℕ
add_round_key ws n s = grid (λ r c. bit_xor (at s r c) (get_or (get_or ws (4 * n + c) []) r 0))

-- the state after n rounds
unfoldable pub rounds : List (List ℕ) → ℕ → List ℕ → List ℕ
rounds ws zero s = add_round_key ws 0 s
rounds ws (suc n) s = add_round_key ws (suc n) (mix_columns (shift_rows (sub_bytes (rounds ws n s))))

-- the cipher: the last round has no MixColumns (5.1)
unfoldable pub cipher : List ℕ → List ℕ → List ℕ
cipher key block =
    add_round_key (schedule key) (round_count key)
    (shift_rows (sub_bytes (rounds (schedule key) (round_count key - 1) block)))

-- the length of a key in bytes is 16, 24 or 32 (5)
abbrev pub IsKeyLength : ℕ → Type 0
IsKeyLength n = (n ≡ 16) ⊎ ((n ≡ 24) ⊎ (n ≡ 32))

-- a key is 16, 24 or 32 bytes (5)
pub record IsKey (k : List ℕ) : Type 0 where
  pub length_is : IsKeyLength (length k)
  pub bytes : (i : ℕ) → get_or k i 0 < 256

-- b is the only block that the cipher takes to c
pub record IsPreimage (key : List ℕ) (c : List ℕ) (b : List ℕ) : Type 0 where
  pub taken : cipher key b ≡ c
  pub only : (d : List ℕ) → IsBlock d → cipher key d ≡ c → d ≡ b

-- under every key the cipher takes blocks to blocks, one to one and onto
abbrev pub IsPermutation : Type 0
IsPermutation = (key : List ℕ) → IsKey key
    → ((b : List ℕ) → IsBlock b → IsBlock (cipher key b))
    × ((b d : List ℕ) → IsBlock b → IsBlock d → cipher key b ≡ cipher key d → b ≡ d)
    × ((c : List ℕ) → IsBlock c → (b : List ℕ) × IsBlock b × (cipher key b ≡ c))
