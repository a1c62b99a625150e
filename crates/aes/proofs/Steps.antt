-- Each step of a round takes blocks to blocks and has an inverse.
use Rattle.std.proofs.Common.{◌≡◌, ℕ, zero, suc, ◌+◌, ◌-◌, ◌*◌, ◌/◌, ◌%◌, ◌<◌, ◌≤◌, Bool, true, ◌&&◌, ◌==◌}
use Rattle.std.proofs.Common.{List, [], ◌∷◌, map, get_or, length, inl, inr, refl, sym, ap, ap₂, ◌∙◌, arith}
use Rattle.std.proofs.Common.{bit_xor, ltb, ltb-true, zero-add, pow_mono, lt_of_lt_of_le}
use Rattle.std.specs.Int.Bits.{xor_zero_r, xor_assoc, xor_self}
use Rattle.std.proofs.lemmas.Bool.{cases_lt, and_parts, eqb-true}
use Rattle.std.proofs.lemmas.Nat.{xor_of_8}
use Rattle.std.proofs.lemmas.List.{get_or_past}
use Rattle.std.proofs.lemmas.List.FromFn.{get_or-map-range_with_len}
use Rattle.octets.specs.Bits.{bits}
use Rattle.octets.specs.Polynomial.{product, residue}
use Rattle.octets.proofs.Residue.{length_residue}
use Rattle.octets.proofs.BitFacts.{number_lt}
use Rattle.aes.proofs.Tables.{sbox_table}
use Rattle.aes.specs.declared.inverse_lanes.TheConstants.{PLAIN_BY_FIRST, PLAIN_BY_SECOND}
use Rattle.aes.specs.Code.Lanes.{by_inverse, u_at, t_at}
use Rattle.aes.specs.Code.InverseLanes.{matrix_undone, affine_undone}
use Rattle.aes.specs.Field.{modulus, times, sbox}
use Rattle.octets.specs.Bytes.{IsBlock}
use Rattle.aes.specs.Cipher.{at, grid, dot, matrix, column, mix_column, sub_bytes, shift_rows, mix_columns}
use Rattle.aes.specs.Cipher.{add_round_key}
use Rattle.aes.proofs.Tested.{all_below, all_below_at}
use Rattle.aes.proofs.Tables.{sbox_at}
use Rattle.aes.proofs.Grids.{grid_is}
use Rattle.aes.proofs.Rows.{four}
use Rattle.aes.specs.Code.InverseSteps.{inverse_matrix, unmix_column, inverse_mix_columns}
use Rattle.aes.proofs.Linear.{mix_unmix, unmix_mix, unmix_column_is, unmix_column_whole}

-- ---- grids
pub at_grid : (f : ℕ → ℕ → ℕ) (r c : ℕ) → r < 4 → c < 4 → at (grid f) r c ≡ f r c
at_grid f r c hr hc =
    let row : (r + 4 * c) % 4 ≡ r = omega arith in
    let col : (r + 4 * c) / 4 ≡ c = omega arith in
    get_or-map-range_with_len (λ i. f (i % 4) (i / 4)) 0 16 (r + 4 * c) (r + 4 * c) 0 (omega arith)
    (zero-add (r + 4 * c))
    ∙ ap₂ f row col

-- a grid of bytes is a block
pub grid_block : (f : ℕ → ℕ → ℕ) → ((r c : ℕ) → r < 4 → c < 4 → f r c < 256) → IsBlock (grid f)
grid_block f small = record {
  length_is = refl;
  bytes = λ i. elim (cases_lt i 16) [
    | inl h ↦
        rw (get_or-map-range_with_len (λ i. f (i % 4) (i / 4)) 0 16 i i 0 h (zero-add i))
        (small (i % 4) (i / 4) (omega arith) (omega arith))
    | inr h ↦ rw (get_or_past (grid f) i 0 h) (omega arith)
  ];
}

-- a block is the grid with its bytes
pub grid_of : (f : ℕ → ℕ → ℕ) (s : List ℕ) → length s ≡ 16 → ((r c : ℕ) → r < 4 → c < 4 → f r c ≡ at s r c)
    → grid f ≡ s
grid_of f s long same =
    sym (grid_is f s long (λ k h.
    let place : k ≡ k % 4 + 4 * (k / 4) = omega arith in
    ap (λ i. get_or s i 0) place ∙ sym (same (k % 4) (k / 4) (omega arith) (omega arith))))

-- ---- the S-box
-- the inverse of the S-box, by the tables of the inverse cipher
unfoldable pub unsbox : ℕ → ℕ
unsbox y = by_inverse PLAIN_BY_FIRST PLAIN_BY_SECOND (affine_undone y)

-- the table of the S-box undoes `unsbox`, whose values are bytes, tested at each byte
onto_computed : all_below (λ y. (get_or sbox_table (unsbox y) 0 == y) && ltb (unsbox y) 256) 256 ≡ true
unfolding unsbox u_at t_at matrix_undone
onto_computed = refl

-- `unsbox` undoes the table of the S-box, whose entries are bytes, tested at each byte
back_computed : all_below (λ x. (unsbox (get_or sbox_table x 0) == x) && ltb (get_or sbox_table x 0) 256) 256 ≡ true
unfolding unsbox u_at t_at matrix_undone
back_computed = refl

-- the table of the S-box undoes `unsbox`, whose values are bytes
onto_parts : (y : ℕ) → y < 256 → (get_or sbox_table (unsbox y) 0 ≡ y) × (unsbox y < 256)
onto_parts y h =
    let both = and_parts (get_or sbox_table (unsbox y) 0 == y) (ltb (unsbox y) 256)
    (all_below_at (λ y. (get_or sbox_table (unsbox y) 0 == y) && ltb (unsbox y) 256) 256 y onto_computed h) in
    (eqb-true (get_or sbox_table (unsbox y) 0) y both.0, ltb-true (unsbox y) 256 both.1)

-- `unsbox` undoes the table of the S-box, whose entries are bytes
back_parts : (x : ℕ) → x < 256 → (unsbox (get_or sbox_table x 0) ≡ x) × (get_or sbox_table x 0 < 256)
back_parts x h =
    let both = and_parts (unsbox (get_or sbox_table x 0) == x) (ltb (get_or sbox_table x 0) 256)
    (all_below_at (λ x. (unsbox (get_or sbox_table x 0) == x) && ltb (get_or sbox_table x 0) 256) 256 x back_computed h) in
    (eqb-true (unsbox (get_or sbox_table x 0)) x both.0, ltb-true (get_or sbox_table x 0) 256 both.1)

-- `unsbox` of a byte is a byte
pub unsbox_small : (y : ℕ) → y < 256 → unsbox y < 256
unsbox_small y h = (onto_parts y h).1

-- the S-box undoes `unsbox`
pub sbox_unsbox : (y : ℕ) → y < 256 → sbox (unsbox y) ≡ y
sbox_unsbox y h = sym (sbox_at (unsbox y) (unsbox_small y h)) ∙ (onto_parts y h).0

-- the S-box of a byte is a byte
pub sbox_small : (x : ℕ) → x < 256 → sbox x < 256
sbox_small x h = rw (← (sbox_at x h)) (back_parts x h).1

-- `unsbox` undoes the S-box
pub unsbox_sbox : (x : ℕ) → x < 256 → unsbox (sbox x) ≡ x
unsbox_sbox x h = ap unsbox (sym (sbox_at x h)) ∙ (back_parts x h).0

-- ---- SubBytes
pub unsub : List ℕ → List ℕ
unsub s = grid (λ r c. unsbox (at s r c))

-- SubBytes gives a block
pub sub_block : (s : List ℕ) → IsBlock s → IsBlock (sub_bytes s)
unfolding sub_bytes
sub_block s b = grid_block (λ r c. sbox (at s r c)) (λ r c hr hc. sbox_small (at s r c) (b.bytes (r + 4 * c)))

-- `unsub` gives a block
pub unsub_block : (s : List ℕ) → IsBlock s → IsBlock (unsub s)
unfolding unsub
unsub_block s b = grid_block (λ r c. unsbox (at s r c))
    (λ r c hr hc. unsbox_small (at s r c) (b.bytes (r + 4 * c)))

-- SubBytes undoes `unsub`
pub sub_unsub : (s : List ℕ) → IsBlock s → sub_bytes (unsub s) ≡ s
unfolding sub_bytes unsub
sub_unsub s b =
    grid_of (λ r c. sbox (at (unsub s) r c)) s b.length_is
    (λ r c hr hc. ap sbox (at_grid (λ r c. unsbox (at s r c)) r c hr hc)
    ∙ sbox_unsbox (at s r c) (b.bytes (r + 4 * c)))

-- `unsub` undoes SubBytes
pub unsub_sub : (s : List ℕ) → IsBlock s → unsub (sub_bytes s) ≡ s
unfolding sub_bytes unsub
unsub_sub s b =
    grid_of (λ r c. unsbox (at (sub_bytes s) r c)) s b.length_is
    (λ r c hr hc. ap unsbox (at_grid (λ r c. sbox (at s r c)) r c hr hc)
    ∙ unsbox_sbox (at s r c) (b.bytes (r + 4 * c)))

-- ---- ShiftRows
pub unshift : List ℕ → List ℕ
unshift s = grid (λ r c. at s r ((c + (4 - r)) % 4))

-- ShiftRows gives a block
pub shift_block : (s : List ℕ) → IsBlock s → IsBlock (shift_rows s)
unfolding shift_rows
shift_block s b = grid_block (λ r c. at s r ((c + r) % 4)) (λ r c hr hc. b.bytes (r + 4 * ((c + r) % 4)))

-- `unshift` gives a block
pub unshift_block : (s : List ℕ) → IsBlock s → IsBlock (unshift s)
unfolding unshift
unshift_block s b = grid_block (λ r c. at s r ((c + (4 - r)) % 4))
    (λ r c hr hc. b.bytes (r + 4 * ((c + (4 - r)) % 4)))

-- ShiftRows undoes `unshift`
pub shift_unshift : (s : List ℕ) → IsBlock s → shift_rows (unshift s) ≡ s
unfolding shift_rows unshift
shift_unshift s b =
    grid_of (λ r c. at (unshift s) r ((c + r) % 4)) s b.length_is
    (λ r c hr hc.
    let back : ((c + r) % 4 + (4 - r)) % 4 ≡ c = omega arith in
    at_grid (λ r c. at s r ((c + (4 - r)) % 4)) r ((c + r) % 4) hr (omega arith) ∙ ap (at s r) back)

-- `unshift` undoes ShiftRows
pub unshift_shift : (s : List ℕ) → IsBlock s → unshift (shift_rows s) ≡ s
unfolding shift_rows unshift
unshift_shift s b =
    grid_of (λ r c. at (shift_rows s) r ((c + (4 - r)) % 4)) s b.length_is
    (λ r c hr hc.
    let back : ((c + (4 - r)) % 4 + r) % 4 ≡ c = omega arith in
    at_grid (λ r c. at s r ((c + r) % 4)) r ((c + (4 - r)) % 4) hr (omega arith) ∙ ap (at s r) back)

-- ---- MixColumns
pub times_small : (x y : ℕ) → times x y < 256
unfolding times
times_small x y =
    let p : List Bool = residue modulus (product (bits x) (bits y)) in
    let short : length p ≤ 8 = length_residue modulus (product (bits x) (bits y)) in
    lt_of_lt_of_le (number_lt p) (pow_mono short)

-- a dot product of bytes is a byte
pub dot_small : (u v : List ℕ) → dot u v < 256
dot_small [] v = omega arith
dot_small (x ∷ u) [] = omega arith
dot_small (x ∷ u) (y ∷ v) = xor_of_8 (times x y) (dot u v) (times_small x y) (dot_small u v)

-- every item of the product of a matrix and a column is a byte
row_small : (us : List (List ℕ)) (v : List ℕ) (r : ℕ) → get_or (map (λ u. dot u v) us) r 0 < 256
row_small [] v r = omega arith
row_small (u ∷ us) v zero = dot_small u v
row_small (u ∷ us) v (suc r) = row_small us v r

-- item r of a column is the byte in row r
column_at : (s : List ℕ) (r c : ℕ) → r < 4 → get_or (column s c) r 0 ≡ at s r c
column_at s zero c h = refl
column_at s (suc zero) c h = refl
column_at s (suc (suc zero)) c h = refl
column_at s (suc (suc (suc zero))) c h = refl
column_at s (suc (suc (suc (suc r)))) c h = absurd (omega arith)

-- MixColumns gives a block
pub mix_block : (s : List ℕ) → IsBlock (mix_columns s)
unfolding mix_columns mix_column
mix_block s = grid_block (λ r c. get_or (mix_column (column s c)) r 0)
    (λ r c hr hc. row_small matrix (column s c) r)

-- every item of `unmix_column` is a byte
inverse_row_small : (v : List ℕ) (r : ℕ) → get_or (unmix_column v) r 0 < 256
inverse_row_small v r = rw (unmix_column_is v) (row_small inverse_matrix v r)

-- `inverse_mix_columns` gives a block
pub unmix_block : (s : List ℕ) → IsBlock (inverse_mix_columns s)
unfolding inverse_mix_columns
unmix_block s = grid_block (λ r c. get_or (unmix_column (column s c)) r 0)
    (λ r c hr hc. inverse_row_small (column s c) r)

-- a column of a grid has the grid's values
column_grid : (f : ℕ → ℕ → ℕ) (c : ℕ) → c < 4 → column (grid f) c ≡ f 0 c ∷ f 1 c ∷ f 2 c ∷ f 3 c ∷ []
column_grid f c h =
    four (at_grid f 0 c (omega arith) h) (at_grid f 1 c (omega arith) h) (at_grid f 2 c (omega arith) h)
    (at_grid f 3 c (omega arith) h)

-- a column after MixColumns is the product of the matrix and the column
column_mix : (s : List ℕ) (c : ℕ) → c < 4 → column (mix_columns s) c ≡ mix_column (column s c)
unfolding mix_columns mix_column
column_mix s c h = column_grid (λ r c. get_or (mix_column (column s c)) r 0) c h

-- a column after `inverse_mix_columns` is the product of the inverse matrix and the column
column_unmix : (s : List ℕ) (c : ℕ) → c < 4 → column (inverse_mix_columns s) c ≡ unmix_column (column s c)
unfolding inverse_mix_columns
column_unmix s c h =
    column_grid (λ r c. get_or (unmix_column (column s c)) r 0) c h ∙ unmix_column_whole (column s c)

-- MixColumns undoes `inverse_mix_columns`
pub mix_unmix_block : (s : List ℕ) → IsBlock s → mix_columns (inverse_mix_columns s) ≡ s
unfolding mix_columns
mix_unmix_block s b =
    grid_of (λ r c. get_or (mix_column (column (inverse_mix_columns s) c)) r 0) s b.length_is
    (λ r c hr hc.
    ap (λ v. get_or (mix_column v) r 0) (column_unmix s c hc)
    ∙ ap (λ v. get_or v r 0)
    (mix_unmix (at s 0 c) (at s 1 c) (at s 2 c) (at s 3 c) (b.bytes (0 + 4 * c)) (b.bytes (1 + 4 * c))
    (b.bytes (2 + 4 * c)) (b.bytes (3 + 4 * c)))
    ∙ column_at s r c hr)

-- `inverse_mix_columns` undoes MixColumns
pub unmix_mix_block : (s : List ℕ) → IsBlock s → inverse_mix_columns (mix_columns s) ≡ s
unfolding inverse_mix_columns
unmix_mix_block s b =
    grid_of (λ r c. get_or (unmix_column (column (mix_columns s) c)) r 0) s b.length_is
    (λ r c hr hc.
    ap (λ v. get_or (unmix_column v) r 0) (column_mix s c hc)
    ∙ ap (λ v. get_or v r 0)
    (unmix_mix (at s 0 c) (at s 1 c) (at s 2 c) (at s 3 c) (b.bytes (0 + 4 * c)) (b.bytes (1 + 4 * c))
    (b.bytes (2 + 4 * c)) (b.bytes (3 + 4 * c)))
    ∙ column_at s r c hr)

-- ---- AddRoundKey
pub add_twice : (ws : List (List ℕ)) (n : ℕ) (s : List ℕ) → length s ≡ 16
    → add_round_key ws n (add_round_key ws n s) ≡ s
unfolding add_round_key
add_twice ws n s long =
    let w : ℕ → ℕ → ℕ = λ r c. get_or (get_or ws (4 * n + c) []) r 0 in
    grid_of (λ r c. bit_xor (at (add_round_key ws n s) r c) (w r c)) s long
    (λ r c hr hc.
    ap (λ x. bit_xor x (w r c)) (at_grid (λ r c. bit_xor (at s r c) (w r c)) r c hr hc)
    ∙ xor_assoc (at s r c) (w r c) (w r c) ∙ ap (bit_xor (at s r c)) (xor_self (w r c))
    ∙ xor_zero_r (at s r c))

-- every byte of the words is below 256
abbrev pub AreWords : List (List ℕ) → Type 0
AreWords ws = (k r : ℕ) → get_or (get_or ws k []) r 0 < 256

-- AddRoundKey gives a block
pub add_block : (ws : List (List ℕ)) (n : ℕ) (s : List ℕ) → AreWords ws → IsBlock s
    → IsBlock (add_round_key ws n s)
unfolding add_round_key
add_block ws n s small b =
    grid_block (λ r c. bit_xor (at s r c) (get_or (get_or ws (4 * n + c) []) r 0))
    (λ r c hr hc. xor_of_8 (at s r c) (get_or (get_or ws (4 * n + c) []) r 0) (b.bytes (r + 4 * c))
    (small (4 * n + c) r))

-- the grid of the sixteen bytes of a block is the block
pub sixteen : (s : List ℕ) → length s ≡ 16 → grid (at s) ≡ s
sixteen s long = grid_of (at s) s long (λ r c hr hc. refl)

-- a list of four items is the list of its items 0 to 3
pub quad : (a : List ℕ) → length a ≡ 4 → get_or a 0 0 ∷ get_or a 1 0 ∷ get_or a 2 0 ∷ get_or a 3 0 ∷ [] ≡ a
quad [] h = absurd (omega arith)
quad (a ∷ []) h = absurd (omega arith)
quad (a ∷ b ∷ []) h = absurd (omega arith)
quad (a ∷ b ∷ c ∷ []) h = absurd (omega arith)
quad (a ∷ b ∷ c ∷ d ∷ []) h = refl
quad (a ∷ b ∷ c ∷ d ∷ e ∷ l) h = absurd (omega arith)
