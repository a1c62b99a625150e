-- States side by side: vector k has word k of each, a lane for each state.
use Rattle.std.specs.Prelude.{◌≡◌, ℕ, ◌+◌, ◌%◌, ◌^◌, ◌<◌, ◌≤◌, List, map, slice_index}
use Rattle.std.proofs.Common.{arith}
use Rattle.chacha.specs.Block.{initial_state, serialized, block}

-- the state in lane j
unfoldable pub lane : ℕ → List (List ℕ) → List ℕ
lane j x = map (λ v. slice_index v j) x

-- lane j of the first n has the words of the block with the counter `counter + j`
abbrev pub HasBlocks : ℕ → List (List ℕ) → List ℕ → ℕ → List ℕ → Type 0
HasBlocks n x key counter nonce = (j : ℕ) → j < n → serialized (lane j x) ≡ block key (counter + j) nonce

-- lane j of the first n has the state from which the block with the counter `counter + j` modulo 2^32 starts
abbrev pub HasStarts : ℕ → List (List ℕ) → List ℕ → ℕ → List ℕ → Type 0
HasStarts n x key counter nonce =
    (j : ℕ) → j < n → lane j x ≡ initial_state key ((counter + j) % 2 ^ 32) nonce

-- the first n lanes have the states from which blocks of some key and nonce start, and the last counter is below 2^32
abbrev pub AreStarts : ℕ → List (List ℕ) → Type 0
AreStarts n x = (key : List ℕ) × ((nonce : List ℕ) × ((counter : ℕ)
    × ((counter + n ≤ 2 ^ 32) × HasStarts n x key counter nonce)))

-- 256 bytes are whole blocks, and 512 are
pub four_size : (0 < 256) × (256 % 64 ≡ 0)
four_size = (omega arith, omega arith)

pub eight_size : (0 < 512) × (512 % 64 ≡ 0)
eight_size = (omega arith, omega arith)
