-- The steps of the equivalent inverse cipher (FIPS 197, 5.3) that the code has: InvMixColumns, and a round key as a block.
use Rattle.std.specs.Prelude.{ℕ, ◌+◌, ◌*◌, List, [], ◌∷◌, map, get_or, slice_index, slice_index_or}
use Rattle.aes.specs.Cipher.{dot, column, grid}

-- the circulant matrix of InvMixColumns (5.3.3)
abbrev pub inverse_matrix : List (List ℕ)
inverse_matrix =
    (14 ∷ 11 ∷ 13 ∷ 9 ∷ []) ∷
    (9 ∷ 14 ∷ 11 ∷ 13 ∷ []) ∷
    (13 ∷ 9 ∷ 14 ∷ 11 ∷ []) ∷
    (11 ∷ 13 ∷ 9 ∷ 14 ∷ []) ∷ []

-- the product of the inverse matrix and a column
unfoldable pub unmix_column : List ℕ → List ℕ
unmix_column v = map (λ u. dot u v) inverse_matrix

-- each column times the inverse matrix (5.3.3)
unfoldable pub inverse_mix_columns : List ℕ → List ℕ
inverse_mix_columns s = grid (λ r c. get_or (unmix_column (column s c)) r 0)

-- round key n, which is the words 4n to 4n + 3 of the schedule ws, as a block
unfoldable pub round_key : List (List ℕ) → ℕ → List ℕ
round_key ws n = grid (λ r c. slice_index (slice_index_or ws (4 * n + c) []) r)
