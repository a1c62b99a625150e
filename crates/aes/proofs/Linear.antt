-- The inverse of the matrix of MixColumns.
use Rattle.std.proofs.Common.{◌≡◌, ℕ, ◌<◌, List, [], ◌∷◌, map, get_or, refl, sym, ap, ap₂, ◌∙◌, bit_xor}
use Rattle.std.specs.Int.Bits.{xor_zero_r, xor_zero_l, xor_self}
use Rattle.octets.specs.Polynomial.{product, residue}
use Rattle.aes.specs.Field.{times}
use Rattle.aes.specs.Cipher.{dot, matrix, mix_column}
use Rattle.aes.specs.Code.InverseSteps.{inverse_matrix, unmix_column}
use Rattle.aes.proofs.Sums.{times_xor, times_zero, zero_times, xor_times, times_assoc, xor_exchange}
use Rattle.aes.proofs.Multiples.{single_is}
use Rattle.aes.proofs.Rows.{four}

-- ---- rows
abbrev add_rows : List ℕ → List ℕ → List ℕ
add_rows [] w = w
add_rows (x ∷ u) [] = x ∷ u
add_rows (x ∷ u) (y ∷ w) = bit_xor x y ∷ add_rows u w

-- the dot product of a sum of rows is the sum of the dot products
dot_add : (u w v : List ℕ) → dot (add_rows u w) v ≡ bit_xor (dot u v) (dot w v)
dot_add [] w v = sym (xor_zero_l (dot w v))
dot_add (x ∷ u) [] v = sym (xor_zero_r (dot (x ∷ u) v))
dot_add (x ∷ u) (y ∷ w) [] = sym (xor_self 0)
dot_add (x ∷ u) (y ∷ w) (z ∷ v) =
    ap₂ bit_xor (xor_times x y z) (dot_add u w v) ∙ xor_exchange (times x z) (times y z) (dot u v) (dot w v)

-- a multiple of a dot product is the dot product of the row times that number
dot_times : (x : ℕ) (w v : List ℕ) → times x (dot w v) ≡ dot (map (times x) w) v
dot_times x [] v = times_zero x
dot_times x (y ∷ w) [] = times_zero x
dot_times x (y ∷ w) (z ∷ v) =
    times_xor x (times y z) (dot w v) ∙ ap₂ bit_xor (times_assoc x y z) (dot_times x w v)

-- a row times a matrix
abbrev combined : List ℕ → List (List ℕ) → List ℕ
combined [] ws = []
combined (x ∷ u) [] = []
combined (x ∷ u) (w ∷ ws) = add_rows (map (times x) w) (combined u ws)

-- a row times a product of a matrix and a column is the combined row times the column
dot_map : (u : List ℕ) (ws : List (List ℕ)) (v : List ℕ)
    → dot u (map (λ w. dot w v) ws) ≡ dot (combined u ws) v
dot_map [] ws v = refl
dot_map (x ∷ u) [] v = refl
dot_map (x ∷ u) (w ∷ ws) v =
    ap₂ bit_xor (dot_times x w v) (dot_map u ws v) ∙ sym (dot_add (map (times x) w) (combined u ws) v)

-- ---- the inverse matrix
-- the identity matrix
abbrev identity : List (List ℕ)
identity = (1 ∷ 0 ∷ 0 ∷ 0 ∷ []) ∷ (0 ∷ 1 ∷ 0 ∷ 0 ∷ []) ∷ (0 ∷ 0 ∷ 1 ∷ 0 ∷ []) ∷ (0 ∷ 0 ∷ 0 ∷ 1 ∷ []) ∷ []

-- the matrix times its inverse is the identity matrix
inverse_right : map (λ u. combined u inverse_matrix) matrix ≡ identity
unfolding times product residue
inverse_right = refl

-- the inverse times the matrix is the identity matrix
inverse_left : map (λ u. combined u matrix) inverse_matrix ≡ identity
unfolding times product residue
inverse_left = refl

-- the first row of the identity matrix picks the first byte of a column
row_first : (a b c d : ℕ) → a < 256 → dot (1 ∷ 0 ∷ 0 ∷ 0 ∷ []) (a ∷ b ∷ c ∷ d ∷ []) ≡ a
row_first a b c d h =
    ap₂ bit_xor (single_is a h)
    (ap₂ bit_xor (zero_times b) (ap₂ bit_xor (zero_times c) (ap (λ x. bit_xor x 0) (zero_times d))))
    ∙ xor_zero_r a

-- the second row of the identity matrix picks the second byte
row_second : (a b c d : ℕ) → b < 256 → dot (0 ∷ 1 ∷ 0 ∷ 0 ∷ []) (a ∷ b ∷ c ∷ d ∷ []) ≡ b
row_second a b c d h =
    ap₂ bit_xor (zero_times a)
    (ap₂ bit_xor (single_is b h) (ap₂ bit_xor (zero_times c) (ap (λ x. bit_xor x 0) (zero_times d))))
    ∙ xor_zero_l (bit_xor b 0) ∙ xor_zero_r b

-- the third row of the identity matrix picks the third byte
row_third : (a b c d : ℕ) → c < 256 → dot (0 ∷ 0 ∷ 1 ∷ 0 ∷ []) (a ∷ b ∷ c ∷ d ∷ []) ≡ c
row_third a b c d h =
    ap₂ bit_xor (zero_times a)
    (ap₂ bit_xor (zero_times b) (ap₂ bit_xor (single_is c h) (ap (λ x. bit_xor x 0) (zero_times d))))
    ∙ xor_zero_l (bit_xor 0 (bit_xor c 0)) ∙ xor_zero_l (bit_xor c 0) ∙ xor_zero_r c

-- the fourth row of the identity matrix picks the fourth byte
row_fourth : (a b c d : ℕ) → d < 256 → dot (0 ∷ 0 ∷ 0 ∷ 1 ∷ []) (a ∷ b ∷ c ∷ d ∷ []) ≡ d
row_fourth a b c d h =
    ap₂ bit_xor (zero_times a)
    (ap₂ bit_xor (zero_times b) (ap₂ bit_xor (zero_times c) (ap (λ x. bit_xor x 0) (single_is d h))))
    ∙ xor_zero_l (bit_xor 0 (bit_xor 0 (bit_xor d 0))) ∙ xor_zero_l (bit_xor 0 (bit_xor d 0))
    ∙ xor_zero_l (bit_xor d 0) ∙ xor_zero_r d

-- the identity matrix leaves a column as it is
identity_is : (a b c d : ℕ) → a < 256 → b < 256 → c < 256 → d < 256
    → map (λ u. dot u (a ∷ b ∷ c ∷ d ∷ [])) identity ≡ a ∷ b ∷ c ∷ d ∷ []
identity_is a b c d ha hb hc hd =
    four (row_first a b c d ha) (row_second a b c d hb) (row_third a b c d hc) (row_fourth a b c d hd)

-- applying two matrices one after the other is applying their product
rows_of : (us ws : List (List ℕ)) (v : List ℕ)
    → map (λ u. dot u (map (λ w. dot w v) ws)) us ≡ map (λ u. dot u v) (map (λ u. combined u ws) us)
rows_of [] ws v = refl
rows_of (u ∷ us) ws v = ap₂ (λ x y. x ∷ y) (dot_map u ws v) (rows_of us ws v)

-- the matrix undoes its inverse
pub mix_unmix : (a b c d : ℕ) → a < 256 → b < 256 → c < 256 → d < 256
    → mix_column (unmix_column (a ∷ b ∷ c ∷ d ∷ [])) ≡ a ∷ b ∷ c ∷ d ∷ []
unfolding mix_column unmix_column
mix_unmix a b c d ha hb hc hd =
    rows_of matrix inverse_matrix (a ∷ b ∷ c ∷ d ∷ [])
    ∙ ap (map (λ u. dot u (a ∷ b ∷ c ∷ d ∷ []))) inverse_right ∙ identity_is a b c d ha hb hc hd

-- the inverse undoes the matrix
pub unmix_mix : (a b c d : ℕ) → a < 256 → b < 256 → c < 256 → d < 256
    → unmix_column (mix_column (a ∷ b ∷ c ∷ d ∷ [])) ≡ a ∷ b ∷ c ∷ d ∷ []
unfolding mix_column unmix_column
unmix_mix a b c d ha hb hc hd =
    rows_of inverse_matrix matrix (a ∷ b ∷ c ∷ d ∷ [])
    ∙ ap (map (λ u. dot u (a ∷ b ∷ c ∷ d ∷ []))) inverse_left ∙ identity_is a b c d ha hb hc hd

-- `unmix_column` is the dot product with each row of the inverse matrix
pub unmix_column_is : (v : List ℕ) → unmix_column v ≡ map (λ u. dot u v) inverse_matrix
unfolding unmix_column
unmix_column_is v = refl

-- the four items of `unmix_column` are all of it
pub unmix_column_whole : (v : List ℕ)
    → get_or (unmix_column v) 0 0 ∷ get_or (unmix_column v) 1 0 ∷ get_or (unmix_column v) 2 0
    ∷ get_or (unmix_column v) 3 0 ∷ [] ≡ unmix_column v
unfolding unmix_column
unmix_column_whole v = refl
