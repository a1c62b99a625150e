-- States whose rows are vectors of words: a state has four neighbouring words of each row.
use Rattle.std.specs.Prelude.{◌≡◌, ℕ, ◌+◌, ◌*◌, ◌<◌, List, [], ◌∷◌, ◌++◌, length, slice_index, slice_index_or}
use Rattle.std.proofs.Common.{refl, arith}
use Rattle.chacha.specs.Stream.{key_stream_byte}

-- the four words of a row from place m on
abbrev pub four_from : ℕ → List ℕ → List ℕ
four_from m row =
    slice_index row m ∷ slice_index row (m + 1) ∷ slice_index row (m + 2) ∷ slice_index row (m + 3) ∷ []

-- the words of four rows from place m on, one row after the other
unfoldable pub read_by_rows : ℕ → List (List ℕ) → List ℕ
read_by_rows m x =
    four_from m (slice_index_or x 0 [])
    ++ (four_from m (slice_index_or x 1 [])
    ++ (four_from m (slice_index_or x 2 []) ++ four_from m (slice_index_or x 3 [])))

-- state n of the states that stand side by side in four rows
abbrev pub state_in : List (List ℕ) → ℕ → List ℕ
state_in x n = read_by_rows (4 * n) x

-- the bytes are the key stream from the block with this counter on
abbrev pub IsKeyStream : List ℕ → List ℕ → ℕ → List ℕ → Type 0
IsKeyStream bytes key counter nonce =
    (i : ℕ) → i < length bytes → slice_index bytes i ≡ key_stream_byte key nonce counter i

-- one state is some, and two are
pub one_some : 0 < 1
one_some = omega arith

pub two_some : 0 < 2
two_some = omega arith

-- a state has sixteen words
pub state_long : (x : List (List ℕ)) (n : ℕ) → length (state_in x n) ≡ 16
unfolding read_by_rows
state_long x n = refl
