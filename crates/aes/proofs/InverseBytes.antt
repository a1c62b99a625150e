-- The inverse S-box and InvMixColumns at each byte, in the form in which the inverse cipher keeps its state.
use Rattle.std.proofs.Common.{◌≡◌, ℕ, zero, suc, ◌+◌, ◌*◌, ◌/◌, ◌%◌, ◌<◌, Bool, true, ◌==◌, List, []}
use Rattle.std.proofs.Common.{◌∷◌, get_or, length, refl, sym, ap, ap₂, ◌∙◌, arith, bit_xor}
use Rattle.std.specs.Int.Bits.{xor_comm, xor_assoc}
use Rattle.std.proofs.lemmas.Nat.{xor_shr, xor_mod, xor_of_8}
use Rattle.std.proofs.lemmas.Bool.{eqb-true}
use Rattle.std.proofs.lemmas.List.{ext_get_or}
use Rattle.aes.specs.Field.{times, sbox}
use Rattle.aes.specs.Cipher.{at, grid, column, sub_bytes, shift_rows, add_round_key}
use Rattle.aes.specs.Code.InverseSteps.{unmix_column, inverse_mix_columns, round_key}
use Rattle.aes.specs.Code.Lanes.{HasLanes, entry, row_target, u_at, t_at, by_inverse}
use Rattle.aes.specs.Code.InverseLanes.{row_below, mix_of, matrix_undone, affine_undone, HoldsUndone}
use Rattle.aes.proofs.Tables.{sbox_table}
use Rattle.aes.specs.declared.inverse_lanes.TheConstants.{UNDONE_LOW, UNDONE_HIGH, PLAIN_BY_FIRST}
use Rattle.aes.specs.declared.inverse_lanes.TheConstants.{PLAIN_BY_SECOND, FOURTEEN_BY_FIRST, FOURTEEN_BY_SECOND}
use Rattle.aes.specs.declared.inverse_lanes.TheConstants.{FOURTEEN_LOW, FOURTEEN_HIGH, ELEVEN_BY_FIRST}
use Rattle.aes.specs.declared.inverse_lanes.TheConstants.{ELEVEN_BY_SECOND, ELEVEN_LOW, ELEVEN_HIGH, THIRTEEN_BY_FIRST}
use Rattle.aes.specs.declared.inverse_lanes.TheConstants.{THIRTEEN_BY_SECOND, THIRTEEN_LOW, THIRTEEN_HIGH}
use Rattle.aes.specs.declared.inverse_lanes.TheConstants.{NINE_BY_FIRST, NINE_BY_SECOND, NINE_LOW, NINE_HIGH}
use Rattle.aes.proofs.Tested.{all_below, all_below_at}
use Rattle.aes.proofs.Tables.{sbox_at}
use Rattle.aes.proofs.FieldFacts.{times_comm}
use Rattle.aes.proofs.Sums.{times_xor, xor_exchange}
use Rattle.aes.proofs.Multiples.{product_of, times_is}
use Rattle.aes.proofs.Rows.{dot_is}
use Rattle.aes.proofs.Steps.{at_grid, times_small, unsbox, unsbox_sbox}
use Rattle.aes.proofs.Grids.{byte_grid, at_byte}
use Rattle.aes.proofs.FourBlocks.{same_lanes, linear_at}
use Rattle.aes.proofs.Substitution.{both_looked}

-- two functions that are tested to agree at each byte do
tested : (g h : ℕ → ℕ) → all_below (λ y. g y == h y) 256 ≡ true → (y : ℕ) → y < 256 → g y ≡ h y
tested g h test y l = eqb-true (g y) (h y) (all_below_at (λ y. g y == h y) 256 y test l)

-- ---- sums in the basis
-- the low table takes sums to sums, tested at each pair of nibbles
low_linear : all_below (λ k.
    get_or UNDONE_LOW (bit_xor (k / 16) (k % 16)) 0 == bit_xor (get_or UNDONE_LOW (k / 16) 0)
    (get_or UNDONE_LOW (k % 16) 0)) 256 ≡ true
low_linear = refl

-- the high table takes sums to sums, tested at each pair of nibbles
high_linear : all_below (λ k.
    get_or UNDONE_HIGH (bit_xor (k / 16) (k % 16)) 0 == bit_xor (get_or UNDONE_HIGH (k / 16) 0)
    (get_or UNDONE_HIGH (k % 16) 0)) 256 ≡ true
high_linear = refl

-- `matrix_undone` takes sums to sums
pub undone_xor : (x y : ℕ) → x < 256 → y < 256
    → bit_xor (matrix_undone x) (matrix_undone y) ≡ matrix_undone (bit_xor x y)
unfolding matrix_undone
undone_xor x y hx hy =
    xor_exchange (get_or UNDONE_LOW (x % 16) 0) (get_or UNDONE_HIGH (x / 16) 0) (get_or UNDONE_LOW (y % 16) 0)
    (get_or UNDONE_HIGH (y / 16) 0)
    ∙ ap₂ bit_xor
    (sym (linear_at UNDONE_LOW (x % 16) (y % 16) (omega arith) (omega arith) low_linear)
    ∙ ap (λ i. get_or UNDONE_LOW i 0) (sym (xor_mod x y 4)))
    (sym (linear_at UNDONE_HIGH (x / 16) (y / 16) (omega arith) (omega arith) high_linear)
    ∙ ap (λ i. get_or UNDONE_HIGH i 0) (sym (xor_shr x y 4)))

-- `matrix_undone` takes sums of four terms to such sums
mix_undone : (a b c d : ℕ) → a < 256 → b < 256 → c < 256 → d < 256
    → mix_of (matrix_undone a) (matrix_undone b) (matrix_undone c) (matrix_undone d) ≡ matrix_undone (mix_of a b c d)
mix_undone a b c d ha hb hc hd =
    let cd : bit_xor c d < 256 = xor_of_8 c d hc hd in
    let bcd : bit_xor b (bit_xor c d) < 256 = xor_of_8 b (bit_xor c d) hb cd in
    ap (bit_xor (matrix_undone a))
    (ap (bit_xor (matrix_undone b)) (undone_xor c d hc hd) ∙ undone_xor b (bit_xor c d) hb cd)
    ∙ undone_xor a (bit_xor b (bit_xor c d)) ha bcd

-- the sum of two sums of four terms
mix_exchange : (a b c d p q r s : ℕ)
    → mix_of (bit_xor a p) (bit_xor b q) (bit_xor c r) (bit_xor d s) ≡ bit_xor (mix_of a b c d) (mix_of p q r s)
mix_exchange a b c d p q r s =
    ap (bit_xor (bit_xor a p))
    (ap (bit_xor (bit_xor b q)) (xor_exchange c r d s) ∙ xor_exchange b q (bit_xor c d) (bit_xor r s))
    ∙ xor_exchange a p (bit_xor b (bit_xor c d)) (bit_xor q (bit_xor r s))

-- ---- two tables, tested at each byte
-- the XOR of two tables' entries at the nibbles of a byte
abbrev by_nibbles : List ℕ → List ℕ → ℕ → ℕ
by_nibbles p q y = bit_xor (entry p (y % 16)) (entry q (y / 16))

-- whether two tables of nibbles give n times the byte
abbrev gives_multiple : ℕ → List ℕ → List ℕ → ℕ → Bool
gives_multiple n p q y = by_nibbles p q y == matrix_undone (product_of 4 y n)

-- whether two tables of an inverse give n times the byte that the S-box takes to this one
abbrev gives_inverse : ℕ → List ℕ → List ℕ → ℕ → Bool
gives_inverse n p q y = by_inverse p q (affine_undone (get_or sbox_table y 0)) == matrix_undone (product_of 4 y n)

plain_key : all_below (λ y. by_nibbles UNDONE_LOW UNDONE_HIGH y == matrix_undone y) 256 ≡ true
unfolding matrix_undone
plain_key = refl

pub fourteen_key : all_below (gives_multiple 14 FOURTEEN_LOW FOURTEEN_HIGH) 256 ≡ true
unfolding matrix_undone product_of
fourteen_key = refl

pub eleven_key : all_below (gives_multiple 11 ELEVEN_LOW ELEVEN_HIGH) 256 ≡ true
unfolding matrix_undone product_of
eleven_key = refl

pub thirteen_key : all_below (gives_multiple 13 THIRTEEN_LOW THIRTEEN_HIGH) 256 ≡ true
unfolding matrix_undone product_of
thirteen_key = refl

pub nine_key : all_below (gives_multiple 9 NINE_LOW NINE_HIGH) 256 ≡ true
unfolding matrix_undone product_of
nine_key = refl

pub fourteen_state : all_below (gives_inverse 14 FOURTEEN_BY_FIRST FOURTEEN_BY_SECOND) 256 ≡ true
unfolding u_at t_at matrix_undone product_of
fourteen_state = refl

pub eleven_state : all_below (gives_inverse 11 ELEVEN_BY_FIRST ELEVEN_BY_SECOND) 256 ≡ true
unfolding u_at t_at matrix_undone product_of
eleven_state = refl

pub thirteen_state : all_below (gives_inverse 13 THIRTEEN_BY_FIRST THIRTEEN_BY_SECOND) 256 ≡ true
unfolding u_at t_at matrix_undone product_of
thirteen_state = refl

pub nine_state : all_below (gives_inverse 9 NINE_BY_FIRST NINE_BY_SECOND) 256 ≡ true
unfolding u_at t_at matrix_undone product_of
nine_state = refl

-- n times a byte, computed by doubling the byte
multiple_is : (n y : ℕ) → n < 16 → y < 256 → product_of 4 y n ≡ times n y
multiple_is n y h l = sym (times_comm n y ∙ times_is 4 y n l (omega arith) h)

-- ---- lanes
-- if the lanes are two tables' entries at the nibbles of bytes, and the tables were tested for n, they are n times the bytes
pub key_lanes : (n : ℕ) (p q v low high x : List ℕ) → n < 16
    → HasLanes 16 v (λ k. bit_xor (entry p (get_or low k 0)) (entry q (get_or high k 0)))
    → HasLanes 16 low (λ k. get_or x k 0 % 16) → HasLanes 16 high (λ k. get_or x k 0 / 16)
    → ((k : ℕ) → get_or x k 0 < 256) → all_below (gives_multiple n p q) 256 ≡ true
    → HasLanes 16 v (λ k. matrix_undone (times n (get_or x k 0)))
key_lanes n p q v low high x h made l u small test =
    same_lanes v (both_looked p q made l u) (λ k within.
    tested (by_nibbles p q) (λ y. matrix_undone (product_of 4 y n)) test (get_or x k 0) (small k)
    ∙ ap matrix_undone (multiple_is n (get_or x k 0) h (small k)))

-- if the lanes are the UNDONE tables' entries at the nibbles of bytes, they are the bytes with the matrix undone
pub plain_key_lanes : (v low high x : List ℕ)
    → HasLanes 16 v (λ k. bit_xor (entry UNDONE_LOW (get_or low k 0)) (entry UNDONE_HIGH (get_or high k 0)))
    → HasLanes 16 low (λ k. get_or x k 0 % 16) → HasLanes 16 high (λ k. get_or x k 0 / 16)
    → ((k : ℕ) → get_or x k 0 < 256) → HasLanes 16 v (λ k. matrix_undone (get_or x k 0))
plain_key_lanes v low high x made l u small =
    same_lanes v (both_looked UNDONE_LOW UNDONE_HIGH made l u) (λ k within.
    tested (by_nibbles UNDONE_LOW UNDONE_HIGH) (λ y. matrix_undone y) plain_key (get_or x k 0) (small k))

-- the nibbles of the inverses of lanes x that hold S-box values with the affine map undone
inverse_lanes : (p q v u t x : List ℕ) (s : ℕ → ℕ)
    → HasLanes 16 v (λ k. bit_xor (entry p (get_or u k 0)) (entry q (get_or t k 0)))
    → HasLanes 16 u (λ k. u_at (get_or x k 0)) → HasLanes 16 t (λ k. t_at (get_or x k 0))
    → HasLanes 16 x (λ k. affine_undone (sbox (s k))) → HasLanes 16 v (λ k. by_inverse p q (affine_undone (sbox (s k))))
inverse_lanes p q v u t x s made hu ht held =
    same_lanes v (both_looked p q made hu ht) (λ k l. ap (by_inverse p q) (held.each k l))

-- if the lanes are two tables' entries at the nibbles of inverses, and the tables were tested for n, they are n times the bytes
-- that the S-box takes to the lanes
pub state_lanes : (n : ℕ) (p q v u t x : List ℕ) (s : ℕ → ℕ) → n < 16
    → HasLanes 16 v (λ k. bit_xor (entry p (get_or u k 0)) (entry q (get_or t k 0)))
    → HasLanes 16 u (λ k. u_at (get_or x k 0)) → HasLanes 16 t (λ k. t_at (get_or x k 0))
    → HasLanes 16 x (λ k. affine_undone (sbox (s k))) → ((k : ℕ) → s k < 256)
    → all_below (gives_inverse n p q) 256 ≡ true → HasLanes 16 v (λ k. matrix_undone (times n (s k)))
state_lanes n p q v u t x s h made hu ht held small test =
    same_lanes v (inverse_lanes p q v u t x s made hu ht held) (λ k l.
    ap (λ (z : ℕ). by_inverse p q (affine_undone z)) (sym (sbox_at (s k) (small k)))
    ∙ tested (λ y. by_inverse p q (affine_undone (get_or sbox_table y 0))) (λ y. matrix_undone (product_of 4 y n)) test (s k)
    (small k)
    ∙ ap matrix_undone (multiple_is n (s k) h (small k)))

-- if the lanes are the entries of the PLAIN tables at the nibbles of inverses, they are the bytes that the S-box takes to the lanes
pub plain_state_lanes : (v u t x : List ℕ) (s : ℕ → ℕ)
    → HasLanes 16 v (λ k. bit_xor (entry PLAIN_BY_FIRST (get_or u k 0)) (entry PLAIN_BY_SECOND (get_or t k 0)))
    → HasLanes 16 u (λ k. u_at (get_or x k 0)) → HasLanes 16 t (λ k. t_at (get_or x k 0))
    → HasLanes 16 x (λ k. affine_undone (sbox (s k))) → ((k : ℕ) → s k < 256) → HasLanes 16 v s
unfolding unsbox
plain_state_lanes v u t x s made hu ht held small =
    same_lanes v (inverse_lanes PLAIN_BY_FIRST PLAIN_BY_SECOND v u t x s made hu ht held)
    (λ k l. unsbox_sbox (s k) (small k))

-- ---- bytes of the steps
-- byte p after AddRoundKey is byte p, XORed with that of the round key
pub added_byte : (ws : List (List ℕ)) (n : ℕ) (s : List ℕ) (p : ℕ) → p < 16
    → get_or (add_round_key ws n s) p 0 ≡ bit_xor (get_or s p 0) (get_or (round_key ws n) p 0)
unfolding add_round_key round_key
added_byte ws n s p h =
    byte_grid (λ r c. bit_xor (at s r c) (get_or (get_or ws (4 * n + c) []) r 0)) p h
    ∙ ap₂ bit_xor (at_byte s p) (sym (byte_grid (λ r c. get_or (get_or ws (4 * n + c) []) r 0) p h))

-- InvShiftRows takes SubBytes and ShiftRows back to SubBytes
back_byte : (s : List ℕ) (i : ℕ) → i < 16
    → get_or (shift_rows (sub_bytes s)) (row_target i) 0 ≡ sbox (get_or s i 0)
unfolding shift_rows sub_bytes
back_byte s i l =
    let sub : List ℕ = grid (λ r c. sbox (at s r c)) in
    let back : ((i / 4 + 3 * (i % 4)) % 4 + i % 4) % 4 ≡ i / 4 = omega arith in
    at_grid (λ r c. at sub r ((c + r) % 4)) (i % 4) ((i / 4 + 3 * (i % 4)) % 4) (omega arith) (omega arith)
    ∙ ap (at sub (i % 4)) back ∙ at_grid (λ r c. sbox (at s r c)) (i % 4) (i / 4) (omega arith) (omega arith)
    ∙ ap sbox (at_byte s i)

-- the sum of four terms does not change if the first becomes the last
turned : (a b c d : ℕ) → mix_of a b c d ≡ mix_of b c d a
turned a b c d =
    xor_comm a (bit_xor b (bit_xor c d)) ∙ xor_assoc b (bit_xor c d) a ∙ ap (bit_xor b) (xor_assoc c d a)

-- InvShiftRows moves bytes from places below 16
pub unshifted_small : (i : ℕ) → row_target i < 16
unshifted_small i = omega arith

-- row r of a column after InvMixColumns, from that row and the rows below it
unmixed_row : (g : ℕ → ℕ) (r : ℕ) → r < 4
    → get_or (unmix_column (g 0 ∷ g 1 ∷ g 2 ∷ g 3 ∷ [])) r 0
    ≡ mix_of (times 14 (g r)) (times 11 (g ((r + 1) % 4))) (times 13 (g ((r + 2) % 4))) (times 9 (g ((r + 3) % 4)))
unfolding unmix_column
unmixed_row g zero h =
    sym (dot_is 14 11 13 9 (g 0) (g 1) (g 2) (g 3) (times 14 (g 0)) (times 11 (g 1)) (times 13 (g 2)) (times 9 (g 3)) refl
    refl refl refl)
unmixed_row g (suc zero) h =
    sym (dot_is 9 14 11 13 (g 0) (g 1) (g 2) (g 3) (times 9 (g 0)) (times 14 (g 1)) (times 11 (g 2)) (times 13 (g 3)) refl
    refl refl refl)
    ∙ turned (times 9 (g 0)) (times 14 (g 1)) (times 11 (g 2)) (times 13 (g 3))
unmixed_row g (suc (suc zero)) h =
    sym (dot_is 13 9 14 11 (g 0) (g 1) (g 2) (g 3) (times 13 (g 0)) (times 9 (g 1)) (times 14 (g 2)) (times 11 (g 3)) refl
    refl refl refl)
    ∙ turned (times 13 (g 0)) (times 9 (g 1)) (times 14 (g 2)) (times 11 (g 3))
    ∙ turned (times 9 (g 1)) (times 14 (g 2)) (times 11 (g 3)) (times 13 (g 0))
unmixed_row g (suc (suc (suc zero))) h =
    sym (dot_is 11 13 9 14 (g 0) (g 1) (g 2) (g 3) (times 11 (g 0)) (times 13 (g 1)) (times 9 (g 2)) (times 14 (g 3)) refl
    refl refl refl)
    ∙ turned (times 11 (g 0)) (times 13 (g 1)) (times 9 (g 2)) (times 14 (g 3))
    ∙ turned (times 13 (g 1)) (times 9 (g 2)) (times 14 (g 3)) (times 11 (g 0))
    ∙ turned (times 9 (g 2)) (times 14 (g 3)) (times 11 (g 0)) (times 13 (g 1))
unmixed_row g (suc (suc (suc (suc r)))) h = absurd (omega arith)

-- the sum of the four multiples that InvMixColumns adds at place i
unfoldable pub unmixed : (ℕ → ℕ) → ℕ → ℕ
unmixed s i = mix_of (times 14 (s i)) (times 11 (s (row_below 1 i))) (times 13 (s (row_below 2 i)))
    (times 9 (s (row_below 3 i)))

-- byte i after InvMixColumns is that sum
unmixed_byte : (s : List ℕ) (i : ℕ) → i < 16 → get_or (inverse_mix_columns s) i 0 ≡ unmixed (λ k. get_or s k 0) i
unfolding inverse_mix_columns unmixed
unmixed_byte s i l =
    let own : i % 4 + 4 * (i / 4) ≡ i = omega arith in
    let one : (i % 4 + 1) % 4 + 4 * (i / 4) ≡ row_below 1 i = omega arith in
    let two : (i % 4 + 2) % 4 + 4 * (i / 4) ≡ row_below 2 i = omega arith in
    let three : (i % 4 + 3) % 4 + 4 * (i / 4) ≡ row_below 3 i = omega arith in
    let b : ℕ → ℕ = λ k. get_or s k 0 in
    byte_grid (λ r c. get_or (unmix_column (column s c)) r 0) i l
    ∙ unmixed_row (λ r. at s r (i / 4)) (i % 4) (omega arith)
    ∙ ap₂ bit_xor (ap (λ (k : ℕ). times 14 (b k)) own)
    (ap₂ bit_xor (ap (λ (k : ℕ). times 11 (b k)) one)
    (ap₂ bit_xor (ap (λ (k : ℕ). times 13 (b k)) two) (ap (λ (k : ℕ). times 9 (b k)) three)))

-- lanes that are the sums of the multiples in the basis, and a key, are `unmixed` in the basis, and the key
pub mixed_lanes : (v a b c d k : List ℕ) (s key : ℕ → ℕ)
    → HasLanes 16 v (λ i. bit_xor (mix_of (get_or a (row_target i) 0) (get_or b (row_below 1 (row_target i)) 0)
    (get_or c (row_below 2 (row_target i)) 0) (get_or d (row_below 3 (row_target i)) 0)) (get_or k i 0))
    → HasLanes 16 a (λ i. matrix_undone (times 14 (s i))) → HasLanes 16 b (λ i. matrix_undone (times 11 (s i)))
    → HasLanes 16 c (λ i. matrix_undone (times 13 (s i))) → HasLanes 16 d (λ i. matrix_undone (times 9 (s i)))
    → HasLanes 16 k key → HasLanes 16 v (λ i. bit_xor (matrix_undone (unmixed s (row_target i))) (key i))
unfolding unmixed
mixed_lanes v a b c d k s key made ha hb hc hd hk =
    let at : (j : ℕ) → j < 16
    → mix_of (get_or a j 0) (get_or b (row_below 1 j) 0) (get_or c (row_below 2 j) 0) (get_or d (row_below 3 j) 0)
    ≡ matrix_undone (unmixed s j) = λ j l.
    ap₂ bit_xor (ha.each j l)
    (ap₂ bit_xor (hb.each (row_below 1 j) (omega arith))
    (ap₂ bit_xor (hc.each (row_below 2 j) (omega arith)) (hd.each (row_below 3 j) (omega arith))))
    ∙ mix_undone (times 14 (s j)) (times 11 (s (row_below 1 j))) (times 13 (s (row_below 2 j)))
    (times 9 (s (row_below 3 j))) (times_small 14 (s j)) (times_small 11 (s (row_below 1 j)))
    (times_small 13 (s (row_below 2 j))) (times_small 9 (s (row_below 3 j))) in
    same_lanes v made (λ i l. ap₂ bit_xor (at (row_target i) (unshifted_small i)) (hk.each i l))

-- ---- whole blocks
-- a vector is a block if its lanes are the bytes
pub is_block : (v b : List ℕ) → length b ≡ 16 → HasLanes 16 v (λ i. get_or b i 0) → v ≡ b
is_block v b long held =
    ext_get_or 0 v b (held.long ∙ sym long) (λ i l. held.each i (omega (arith, held.long)))

-- a state after SubBytes and ShiftRows holds S-box values with the affine map undone
pub back_lanes : (x s : List ℕ) → HoldsUndone x (shift_rows (sub_bytes s))
    → HasLanes 16 x (λ i. affine_undone (sbox (get_or s i 0)))
back_lanes x s held = same_lanes x held (λ i l. ap (λ (y : ℕ). affine_undone y) (back_byte s i l))

-- a round key after InvMixColumns, in the form in which the state is kept
pub middle_is : (v x : List ℕ)
    → HasLanes 16 v (λ i. bit_xor (matrix_undone (unmixed (λ k. get_or x k 0) (row_target i))) 0x12)
    → HoldsUndone v (inverse_mix_columns x)
middle_is v x held =
    same_lanes v held (λ i l.
    ap (λ (y : ℕ). affine_undone y) (sym (unmixed_byte x (row_target i) (unshifted_small i))))

-- the sum of the multiples of a state and of a round key is the sum of the multiples of both
unmixed_sum : (s : List ℕ) (ws : List (List ℕ)) (n i : ℕ) → i < 16
    → bit_xor (unmixed (λ k. get_or s k 0) i) (unmixed (λ k. get_or (round_key ws n) k 0) i)
    ≡ unmixed (λ k. get_or (add_round_key ws n s) k 0) i
unfolding unmixed
unmixed_sum s ws n i l =
    let x : ℕ → ℕ = λ k. get_or s k 0 in
    let y : ℕ → ℕ = λ k. get_or (round_key ws n) k 0 in
    let both : (m k : ℕ) → k < 16 → bit_xor (times m (x k)) (times m (y k)) ≡ times m (get_or (add_round_key ws n s) k 0) =
    λ m k h. sym (ap (times m) (added_byte ws n s k h) ∙ times_xor m (x k) (y k)) in
    sym (mix_exchange (times 14 (x i)) (times 11 (x (row_below 1 i))) (times 13 (x (row_below 2 i)))
    (times 9 (x (row_below 3 i))) (times 14 (y i)) (times 11 (y (row_below 1 i))) (times 13 (y (row_below 2 i)))
    (times 9 (y (row_below 3 i))))
    ∙ ap₂ bit_xor (both 14 i l)
    (ap₂ bit_xor (both 11 (row_below 1 i) (omega arith))
    (ap₂ bit_xor (both 13 (row_below 2 i) (omega arith)) (both 9 (row_below 3 i) (omega arith))))

-- the sum of multiples is a byte
unmixed_small : (s : ℕ → ℕ) (i : ℕ) → unmixed s i < 256
unfolding unmixed
unmixed_small s i =
    xor_of_8 (times 14 (s i)) _ (times_small 14 (s i))
    (xor_of_8 (times 11 (s (row_below 1 i))) _ (times_small 11 (s (row_below 1 i)))
    (xor_of_8 (times 13 (s (row_below 2 i))) (times 9 (s (row_below 3 i))) (times_small 13 (s (row_below 2 i)))
    (times_small 9 (s (row_below 3 i)))))

-- the sum of the multiples of a state and a round key after InvMixColumns is AddRoundKey and then InvMixColumns
pub round_is : (v k s : List ℕ) (ws : List (List ℕ)) (n : ℕ) → HoldsUndone k (inverse_mix_columns (round_key ws n))
    → HasLanes 16 v (λ i. bit_xor (matrix_undone (unmixed (λ k. get_or s k 0) (row_target i))) (get_or k i 0))
    → HoldsUndone v (inverse_mix_columns (add_round_key ws n s))
round_is v k s ws n e held =
    let key : List ℕ = round_key ws n in
    let x : ℕ → ℕ = λ i. unmixed (λ k. get_or s k 0) i in
    let y : ℕ → ℕ = λ i. unmixed (λ k. get_or key k 0) i in
    let sums : (j : ℕ) → j < 16 → bit_xor (matrix_undone (x j)) (affine_undone (y j))
    ≡ affine_undone (unmixed (λ k. get_or (add_round_key ws n s) k 0) j) = λ j l.
    sym (xor_assoc (matrix_undone (x j)) (matrix_undone (y j)) 0x12)
    ∙ ap (λ (z : ℕ). bit_xor z 0x12)
    (undone_xor (x j) (y j) (unmixed_small (λ k. get_or s k 0) j) (unmixed_small (λ k. get_or key k 0) j)
    ∙ ap matrix_undone (unmixed_sum s ws n j l)) in
    middle_is v (add_round_key ws n s) (same_lanes v held (λ i l.
    ap (bit_xor (matrix_undone (x (row_target i))))
    (e.each i l ∙ ap (λ (z : ℕ). affine_undone z) (unmixed_byte key (row_target i) (unshifted_small i)))
    ∙ sums (row_target i) (unshifted_small i)))
