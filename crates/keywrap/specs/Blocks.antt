-- The register as RFC 3394 writes it (2.2.1): A, and the list of the blocks R[1] to R[n].
use Rattle.std.specs.Prelude.{◌≡◌, ℕ, zero, suc, ◌*◌, ◌≤◌, List, [], ◌∷◌, ◌++◌, take, drop, length}
use Rattle.std.specs.Int.{bytes_high_first}
use Rattle.octets.specs.Bytes.{xor_bytes}
use Rattle.aes.specs.Cipher.{cipher}
use Rattle.keywrap.specs.Wrapping.{initial_value, wrapping}

pub record Register : Type 0 where
  pub first : List ℕ
  pub blocks : List (List ℕ)

-- step t: with B the cipher of A and R[1], A becomes the first half of B XOR t, each other block moves down one place, and R[n]
-- becomes the second half of B
abbrev pub block_step : List ℕ → ℕ → List ℕ → List (List ℕ) → Register
block_step key t a [] = record { first = a; blocks = [] }
block_step key t a (r ∷ rs) =
    let b = cipher key (a ++ r) in
    record { first = xor_bytes (take 8 b) (bytes_high_first 8 t); blocks = rs ++ drop 8 b ∷ [] }

-- the steps 1 to t
unfoldable pub block_steps : List ℕ → ℕ → Register → Register
block_steps key zero s = s
block_steps key (suc t) s = let u = block_steps key t s in block_step key (suc t) u.first u.blocks

-- the concatenation of the blocks
abbrev pub joined_blocks : List (List ℕ) → List ℕ
joined_blocks [] = []
joined_blocks (r ∷ rs) = r ++ joined_blocks rs

-- each block is eight bytes long
abbrev pub AreBlocks : List (List ℕ) → Type 0
AreBlocks [] = Unit {0}
AreBlocks (r ∷ rs) = (length r ≡ 8) × AreBlocks rs

-- the wrapping of blocks R[1] to R[n] is A and the blocks after 6n steps
abbrev pub WrapsByBlocks : Type 0
WrapsByBlocks = (key : List ℕ) (blocks : List (List ℕ)) → AreBlocks blocks → 1 ≤ length blocks
    → let last = block_steps key (6 * length blocks) (record { first = initial_value; blocks = blocks }) in
    wrapping key (joined_blocks blocks) ≡ last.first ++ joined_blocks last.blocks
