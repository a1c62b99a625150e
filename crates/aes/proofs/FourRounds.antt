-- Rounds of one, two or four blocks, byte by byte.
use Rattle.std.proofs.Common.{◌≡◌, ℕ, zero, suc, ◌+◌, ◌*◌, ◌/◌, ◌%◌, ◌^◌, ◌<◌, true, ◌&&◌, ◌==◌, List}
use Rattle.std.proofs.Common.{[], ◌∷◌, get_or, length, refl, sym, ap, ap₂, ◌∙◌, arith, bit_xor}
use Rattle.std.proofs.Common.{take, drop, inl, inr}
use Rattle.std.specs.Int.Bits.{xor_zero_r, xor_comm, xor_assoc}
use Rattle.std.proofs.lemmas.Nat.{xor_of_8}
use Rattle.std.proofs.lemmas.Bool.{and_parts, eqb-true, cases_lt}
use Rattle.std.proofs.lemmas.List.{get_or-take, get_or-drop}
use Rattle.std.proofs.lemmas.List.{get_or_past, length-take, length-take-le, length-drop, ext_get_or}
use Rattle.octets.specs.Bytes.{IsBlock, block_at}
use Rattle.octets.specs.Polynomial.{product, residue}
use Rattle.aes.specs.Field.{times, sbox}
use Rattle.aes.specs.Cipher.{at, grid, column, mix_column, sub_bytes, shift_rows, mix_columns, add_round_key}
use Rattle.aes.specs.Code.Columns.{column_of, columns_of}
use Rattle.aes.specs.Code.Lanes.{HasLanes, HoldsBlocks, HoldsShifted, byte_of, key_byte, AreBytes}
use Rattle.aes.specs.Code.Lanes.{row_source, row_below, row_above, in_basis, linear_sbox}
use Rattle.aes.specs.Code.Planes.{word_byte, masked_byte}
use Rattle.aes.specs.Code.ReadyKeys.{ready_byte}
use Rattle.aes.proofs.Tested.{all_below, all_below_at}
use Rattle.aes.proofs.Grids.{byte_grid, at_byte}
use Rattle.aes.proofs.Multiples.{single_is, triple_is}
use Rattle.aes.proofs.Rows.{dot_is}
use Rattle.aes.proofs.ColumnWords.{column_small}
use Rattle.aes.proofs.Sums.{times_xor, xor_exchange}
use Rattle.aes.proofs.Steps.{sbox_small, times_small, sub_block, shift_block}
use Rattle.aes.proofs.FourBlocks.{same_lanes, in_basis_xor, linear_small}

-- ---- bytes of the steps
-- byte p after AddRoundKey is byte p, XORed with its byte of the round key
pub added_byte : (ws : List (List ℕ)) (s : List ℕ) (p : ℕ) → p < 16
    → get_or (add_round_key ws 0 s) p 0 ≡ bit_xor (get_or s p 0) (get_or (get_or ws (p / 4) []) (p % 4) 0)
unfolding add_round_key
added_byte ws s p h =
    let first : 4 * 0 + p / 4 ≡ p / 4 = omega arith in
    byte_grid (λ r c. bit_xor (at s r c) (get_or (get_or ws (4 * 0 + c) []) r 0)) p h
    ∙ ap₂ bit_xor (at_byte s p) (ap (λ i. get_or (get_or ws i []) (p % 4) 0) first)

-- the place from which ShiftRows moves a byte to place p is `row_source p`
source_row : (p : ℕ) → p < 16 → p % 4 + 4 * ((p / 4 + p % 4) % 4) ≡ row_source p
source_row p h =
    eqb-true (p % 4 + 4 * ((p / 4 + p % 4) % 4)) (row_source p)
    (all_below_at (λ p. p % 4 + 4 * ((p / 4 + p % 4) % 4) == row_source p) 16 p refl h)

-- byte p after SubBytes and ShiftRows is the S-box value of the byte at `row_source p`
pub shifted_byte : (s : List ℕ) (p : ℕ) → p < 16
    → get_or (shift_rows (sub_bytes s)) p 0 ≡ sbox (get_or s (row_source p) 0)
unfolding shift_rows sub_bytes
shifted_byte s p h =
    let place : p % 4 + 4 * ((p / 4 + p % 4) % 4) < 16 = omega arith in
    let q : ℕ = p % 4 + 4 * ((p / 4 + p % 4) % 4) in
    byte_grid (λ r c. at (grid (λ r c. sbox (at s r c))) r ((c + r) % 4)) p h
    ∙ byte_grid (λ r c. sbox (at s r c)) q place
    ∙ ap sbox (at_byte s q ∙ ap (λ i. get_or s i 0) (source_row p h))

-- a row of MixColumns: 2a + 3b + c + d, where a is in this row, and b, c and d are below it, around the end
abbrev pub mixed : ℕ → ℕ → ℕ → ℕ → ℕ
mixed a b c d = bit_xor (times 2 a) (bit_xor (times 3 b) (bit_xor c d))

-- row r of a column after MixColumns is `mixed` of that row and the rows below it
mixed_row : (g : ℕ → ℕ) (r : ℕ) → r < 4 → ((i : ℕ) → g i < 256)
    → get_or (mix_column (g 0 ∷ g 1 ∷ g 2 ∷ g 3 ∷ [])) r 0
    ≡ mixed (g r) (g ((r + 1) % 4)) (g ((r + 2) % 4)) (g ((r + 3) % 4))
unfolding mix_column
mixed_row g zero h small =
    sym (dot_is 2 3 1 1 (g 0) (g 1) (g 2) (g 3) (times 2 (g 0)) (times 3 (g 1)) (g 2) (g 3) refl refl
    (sym (single_is (g 2) (small 2))) (sym (single_is (g 3) (small 3))))
mixed_row g (suc zero) h small =
    sym (dot_is 1 2 3 1 (g 0) (g 1) (g 2) (g 3) (g 0) (times 2 (g 1)) (times 3 (g 2)) (g 3)
    (sym (single_is (g 0) (small 0))) refl refl (sym (single_is (g 3) (small 3))))
    ∙ xor_comm (g 0) (bit_xor (times 2 (g 1)) (bit_xor (times 3 (g 2)) (g 3)))
    ∙ xor_assoc (times 2 (g 1)) (bit_xor (times 3 (g 2)) (g 3)) (g 0)
    ∙ ap (bit_xor (times 2 (g 1))) (xor_assoc (times 3 (g 2)) (g 3) (g 0))
mixed_row g (suc (suc zero)) h small =
    sym (dot_is 1 1 2 3 (g 0) (g 1) (g 2) (g 3) (g 0) (g 1) (times 2 (g 2)) (times 3 (g 3))
    (sym (single_is (g 0) (small 0))) (sym (single_is (g 1) (small 1))) refl refl)
    ∙ sym (xor_assoc (g 0) (g 1) (bit_xor (times 2 (g 2)) (times 3 (g 3))))
    ∙ xor_comm (bit_xor (g 0) (g 1)) (bit_xor (times 2 (g 2)) (times 3 (g 3)))
    ∙ xor_assoc (times 2 (g 2)) (times 3 (g 3)) (bit_xor (g 0) (g 1))
mixed_row g (suc (suc (suc zero))) h small =
    sym (dot_is 3 1 1 2 (g 0) (g 1) (g 2) (g 3) (times 3 (g 0)) (g 1) (g 2) (times 2 (g 3)) refl
    (sym (single_is (g 1) (small 1))) (sym (single_is (g 2) (small 2))) refl)
    ∙ ap (bit_xor (times 3 (g 0))) (sym (xor_assoc (g 1) (g 2) (times 2 (g 3))))
    ∙ sym (xor_assoc (times 3 (g 0)) (bit_xor (g 1) (g 2)) (times 2 (g 3)))
    ∙ xor_comm (bit_xor (times 3 (g 0)) (bit_xor (g 1) (g 2))) (times 2 (g 3))
mixed_row g (suc (suc (suc (suc r)))) h small = absurd (omega arith)

-- `row_below`, once, twice and three times, is the place of the rows below, tested at each place
rows_computed : all_below
    (λ p. ((p % 4 + 1) % 4 + 4 * (p / 4) == row_below p) &&
    (((p % 4 + 2) % 4 + 4 * (p / 4) == row_below (row_below p)) &&
    ((p % 4 + 3) % 4 + 4 * (p / 4) == row_below (row_below (row_below p))))) 16 ≡ true
rows_computed = refl

-- `row_below`, once, twice and three times, is the place of the rows below
rows_at : (p : ℕ) → p < 16
    → ((p % 4 + 1) % 4 + 4 * (p / 4) ≡ row_below p)
    × ((p % 4 + 2) % 4 + 4 * (p / 4) ≡ row_below (row_below p))
    × ((p % 4 + 3) % 4 + 4 * (p / 4) ≡ row_below (row_below (row_below p)))
rows_at p h =
    let a = and_parts ((p % 4 + 1) % 4 + 4 * (p / 4) == row_below p)
    (((p % 4 + 2) % 4 + 4 * (p / 4) == row_below (row_below p)) &&
    ((p % 4 + 3) % 4 + 4 * (p / 4) == row_below (row_below (row_below p))))
    (all_below_at (λ p. ((p % 4 + 1) % 4 + 4 * (p / 4) == row_below p) &&
    (((p % 4 + 2) % 4 + 4 * (p / 4) == row_below (row_below p)) &&
    ((p % 4 + 3) % 4 + 4 * (p / 4) == row_below (row_below (row_below p))))) 16 p rows_computed h) in
    let b = and_parts ((p % 4 + 2) % 4 + 4 * (p / 4) == row_below (row_below p))
    ((p % 4 + 3) % 4 + 4 * (p / 4) == row_below (row_below (row_below p))) a.1 in (
      eqb-true ((p % 4 + 1) % 4 + 4 * (p / 4)) (row_below p) a.0,
      eqb-true ((p % 4 + 2) % 4 + 4 * (p / 4)) (row_below (row_below p)) b.0,
      eqb-true ((p % 4 + 3) % 4 + 4 * (p / 4)) (row_below (row_below (row_below p))) b.1,
    )

-- byte p after MixColumns is `mixed` of that byte and the bytes below it
mixed_byte : (s : List ℕ) (p : ℕ) → ((i : ℕ) → get_or s i 0 < 256) → p < 16
    → get_or (mix_columns s) p 0
    ≡ mixed (get_or s p 0) (get_or s (row_below p) 0) (get_or s (row_below (row_below p)) 0)
    (get_or s (row_below (row_below (row_below p))) 0)
unfolding mix_columns
mixed_byte s p small h =
    let rows = rows_at p h in
    byte_grid (λ r c. get_or (mix_column (column s c)) r 0) p h
    ∙ mixed_row (λ r. at s r (p / 4)) (p % 4) (omega arith) (λ i. small (i + 4 * (p / 4)))
    ∙ ap₂ bit_xor (ap (times 2) (at_byte s p)) (
    ap₂ bit_xor (ap (λ i. times 3 (get_or s i 0)) rows.0)
    (ap₂ bit_xor (ap (λ i. get_or s i 0) rows.1) (ap (λ i. get_or s i 0) rows.2)))

-- ---- a lane of a round
-- the constants cancel: x and y are twice the first two rows, z, c and d the last three rows
constants_out : (x y z c d k : ℕ)
    → bit_xor (bit_xor (bit_xor (bit_xor x 0xc6) (bit_xor z 0x63))
    (bit_xor (bit_xor (bit_xor y 0xc6) (bit_xor c 0x63)) (bit_xor d 0x63))) (bit_xor k 0x63)
    ≡ bit_xor (bit_xor x (bit_xor (bit_xor y z) (bit_xor c d))) k
constants_out x y z c d k =
    ap (λ (m : ℕ). bit_xor m (bit_xor k 0x63)) (
    ap₂ bit_xor (xor_exchange x 0xc6 z 0x63)
    (ap (λ (m : ℕ). bit_xor m (bit_xor d 0x63)) (xor_exchange y 0xc6 c 0x63)
    ∙ xor_exchange (bit_xor y c) 0xa5 d 0x63)
    ∙ xor_exchange (bit_xor x z) 0xa5 (bit_xor (bit_xor y c) d) 0xc6)
    ∙ xor_exchange (bit_xor (bit_xor x z) (bit_xor (bit_xor y c) d)) 0x63 k 0x63
    ∙ xor_zero_r (bit_xor (bit_xor (bit_xor x z) (bit_xor (bit_xor y c) d)) k)
    ∙ ap (λ (m : ℕ). bit_xor m k) (
    xor_assoc x z (bit_xor (bit_xor y c) d)
    ∙ ap (bit_xor x) (ap (bit_xor z) (xor_assoc y c d) ∙ sym (xor_assoc z y (bit_xor c d))
    ∙ ap (λ (m : ℕ). bit_xor m (bit_xor c d)) (xor_comm z y)))

-- twice the constant of the S-box is 0xc6
twice_constant : times 2 0x63 ≡ 0xc6
unfolding times product residue
twice_constant = refl

-- twice the S-box without its constant is twice the S-box plus 0xc6
twice_linear : (x : ℕ) → times 2 (linear_sbox x) ≡ bit_xor (times 2 (sbox x)) 0xc6
unfolding linear_sbox
twice_linear x = times_xor 2 (sbox x) 0x63 ∙ ap (bit_xor (times 2 (sbox x))) twice_constant

-- the constant of the S-box in the basis is 0x7c
pub constant_in_basis : in_basis 0x63 ≡ 0x7c
unfolding in_basis
constant_in_basis = refl

-- the terms of a lane of a round sum to the mixed S-box values plus the key byte, all in the basis
lane_mixed : (a b c d k : ℕ) → a < 256 → b < 256 → c < 256 → d < 256 → k < 256
    → bit_xor
    (bit_xor (bit_xor (in_basis (times 2 (linear_sbox a))) (in_basis (linear_sbox b)))
    (bit_xor (bit_xor (in_basis (times 2 (linear_sbox b))) (in_basis (linear_sbox c)))
    (in_basis (linear_sbox d))))
    (bit_xor (in_basis k) 0x7c)
    ≡ in_basis (bit_xor (mixed (sbox a) (sbox b) (sbox c) (sbox d)) k)
unfolding linear_sbox
lane_mixed a b c d k ha hb hc hd hk =
    let x : ℕ = times 2 (linear_sbox a) in
    let y : ℕ = times 2 (linear_sbox b) in
    let p : ℕ = linear_sbox b in
    let q : ℕ = linear_sbox c in
    let r : ℕ = linear_sbox d in
    let hx : x < 256 = times_small 2 (linear_sbox a) in
    let hy : y < 256 = times_small 2 (linear_sbox b) in
    let hp : p < 256 = linear_small b hb in
    let hq : q < 256 = linear_small c hc in
    let hr : r < 256 = linear_small d hd in
    let upper : ℕ = bit_xor x p in
    let lower : ℕ = bit_xor (bit_xor y q) r in
    let h_upper : upper < 256 = xor_of_8 x p hx hp in
    let h_lower : lower < 256 = xor_of_8 (bit_xor y q) r (xor_of_8 y q hy hq) hr in
    ap₂ bit_xor
    (ap₂ bit_xor (in_basis_xor x p hx hp)
    (ap (λ (m : ℕ). bit_xor m (in_basis r)) (in_basis_xor y q hy hq)
    ∙ in_basis_xor (bit_xor y q) r (xor_of_8 y q hy hq) hr)
    ∙ in_basis_xor upper lower h_upper h_lower)
    (ap (bit_xor (in_basis k)) (sym constant_in_basis) ∙ in_basis_xor k 0x63 hk (omega arith))
    ∙ in_basis_xor (bit_xor upper lower) (bit_xor k 0x63) (xor_of_8 upper lower h_upper h_lower)
    (xor_of_8 k 0x63 hk (omega arith))
    ∙ ap in_basis (
    ap₂ (λ (u v : ℕ). bit_xor (bit_xor (bit_xor u p) (bit_xor (bit_xor v q) r)) (bit_xor k 0x63))
    (twice_linear a) (twice_linear b)
    ∙ constants_out (times 2 (sbox a)) (times 2 (sbox b)) (sbox b) (sbox c) (sbox d) k
    ∙ ap (λ (u : ℕ). bit_xor (bit_xor (times 2 (sbox a)) (bit_xor u (bit_xor (sbox c) (sbox d)))) k)
    (sym (triple_is (sbox b) (sbox_small b hb))))

-- in the last round, the S-box without its constant, plus the key byte with the constant, is the S-box plus the key byte
pub lane_last : (a k : ℕ) → bit_xor (linear_sbox a) (bit_xor k 0x63) ≡ bit_xor (sbox a) k
unfolding linear_sbox
lane_last a k = xor_exchange (sbox a) 0x63 k 0x63 ∙ xor_zero_r (bit_xor (sbox a) k)

-- ---- from a lane to its block
-- ShiftRows stays in the block of a lane, tested at each lane
own_computed : all_below (λ i. (row_source i / 16 == i / 16) && (row_source i % 16 == row_source (i % 16)))
    64 ≡ true
own_computed = refl

-- ShiftRows from one row below stays in the block, tested at each lane
one_computed : all_below
    (λ i. (row_source (row_below i) / 16 == i / 16) &&
    (row_source (row_below i) % 16 == row_source (row_below (i % 16)))) 64 ≡ true
one_computed = refl

-- ShiftRows from two rows below stays in the block, tested at each lane
two_computed : all_below
    (λ i. (row_source (row_below (row_below i)) / 16 == i / 16) &&
    (row_source (row_below (row_below i)) % 16 == row_source (row_below (row_below (i % 16))))) 64 ≡ true
two_computed = refl

-- ShiftRows from three rows below stays in the block, tested at each lane
three_computed : all_below
    (λ i. (row_source (row_below (row_below (row_below i))) / 16 == i / 16) &&
    (row_source (row_below (row_below (row_below i))) % 16 == row_source
    (row_below (row_below (row_below (i % 16)))))) 64 ≡ true
three_computed = refl

-- if g is tested to stay in the block of a lane, the byte of lane g i is a byte of that block
same_byte : (f : ℕ → List ℕ) (g h : ℕ → ℕ) (i : ℕ) → i < 64
    → all_below (λ i. (g i / 16 == i / 16) && (g i % 16 == h i)) 64 ≡ true
    → byte_of f (g i) ≡ get_or (f (i / 16)) (h i) 0
same_byte f g h i l test =
    let both = and_parts (g i / 16 == i / 16) (g i % 16 == h i)
    (all_below_at (λ i. (g i / 16 == i / 16) && (g i % 16 == h i)) 64 i test l) in
    ap₂ (λ (q p : ℕ). get_or (f q) p 0) (eqb-true (g i / 16) (i / 16) both.0)
    (eqb-true (g i % 16) (h i) both.1)

-- the row above is three rows below, tested at each lane
above_computed : all_below (λ i. row_above i == row_below (row_below (row_below i))) 64 ≡ true
above_computed = refl

-- the row above is three rows below
above_at : (i : ℕ) → i < 64 → row_above i ≡ row_below (row_below (row_below i))
above_at i l = eqb-true (row_above i) (row_below (row_below (row_below i)))
    (all_below_at (λ i. row_above i == row_below (row_below (row_below i))) 64 i above_computed l)

-- lanes that are picked at places of lanes have the values of those places
pub brought_lanes : {n : ℕ} (g p : ℕ → ℕ) (v a : List ℕ) → HasLanes n v (λ i. get_or a (p i) 0) → HasLanes n a g
    → ((i : ℕ) → i < n → p i < n) → HasLanes n v (λ i. g (p i))
brought_lanes g p v a h e within = same_lanes v h (λ i l. e.each (p i) (within i l))

-- the source of a lane in ShiftRows, and the rows below and above it, are lanes
pub source_in : (n i : ℕ) → n % 16 ≡ 0 → i < n → row_source i < n
source_in n i whole l = omega arith

pub below_in : (n i : ℕ) → n % 16 ≡ 0 → i < n → row_below i < n
below_in n i whole l = omega arith

pub above_in : (n i : ℕ) → n % 16 ≡ 0 → i < n → row_above i < n
above_in n i whole l = omega arith

-- the byte of lane i after a round, in terms of the bytes from which it comes
pub round_byte : (f : ℕ → List ℕ) (ws : List (List ℕ)) (i : ℕ) → ((q : ℕ) → IsBlock (f q)) → i < 64
    → byte_of (λ q. add_round_key ws 0 (mix_columns (shift_rows (sub_bytes (f q))))) i
    ≡ bit_xor (mixed (sbox (byte_of f (row_source i))) (sbox (byte_of f (row_source (row_below i))))
    (sbox (byte_of f (row_source (row_below (row_below i)))))
    (sbox (byte_of f (row_source (row_below (row_below (row_below i))))))) (key_byte ws i)
round_byte f ws i blocks l =
    let b : List ℕ = f (i / 16) in
    let p : ℕ = i % 16 in
    let s : List ℕ = shift_rows (sub_bytes b) in
    let hp : p < 16 = omega arith in
    let h1 : row_below p < 16 = omega arith in
    let h2 : row_below (row_below p) < 16 = omega arith in
    let h3 : row_below (row_below (row_below p)) < 16 = omega arith in
    let small : (k : ℕ) → get_or s k 0 < 256 =
    (shift_block (sub_bytes b) (sub_block b (blocks (i / 16)))).bytes in
    added_byte ws (mix_columns s) p hp
    ∙ ap (λ (x : ℕ). bit_xor x (key_byte ws i)) (
    mixed_byte s p small hp
    ∙ ap₂ bit_xor (ap (times 2)
    (shifted_byte b p hp ∙ ap sbox
    (sym (same_byte f row_source (λ i. row_source (i % 16)) i l own_computed)))) (
    ap₂ bit_xor (ap (times 3)
    (shifted_byte b (row_below p) h1
    ∙ ap sbox (sym (same_byte f (λ i. row_source (row_below i)) (λ i. row_source (row_below (i % 16))) i l
    one_computed))))
    (ap₂ bit_xor
    (shifted_byte b (row_below (row_below p)) h2
    ∙ ap sbox (sym (same_byte f (λ i. row_source (row_below (row_below i)))
    (λ i. row_source (row_below (row_below (i % 16)))) i l two_computed)))
    (shifted_byte b (row_below (row_below (row_below p))) h3
    ∙ ap sbox (sym (same_byte f (λ i. row_source (row_below (row_below (row_below i))))
    (λ i. row_source (row_below (row_below (row_below (i % 16))))) i l three_computed))))))

-- the sum of a round's terms in the basis is the byte after the round, in the basis
round_lane : (f : ℕ → List ℕ) (ws : List (List ℕ)) (i : ℕ) → ((q : ℕ) → IsBlock (f q)) → key_byte ws i < 256 → i < 64
    → bit_xor
    (bit_xor (bit_xor (in_basis (times 2 (linear_sbox (byte_of f (row_source i)))))
    (in_basis (linear_sbox (byte_of f (row_source (row_below i))))))
    (bit_xor (bit_xor (in_basis (times 2 (linear_sbox (byte_of f (row_source (row_below i))))))
    (in_basis (linear_sbox (byte_of f (row_source (row_below (row_below i)))))))
    (in_basis (linear_sbox (byte_of f (row_source (row_above i)))))))
    (bit_xor (in_basis (key_byte ws i)) 0x7c)
    ≡ in_basis (byte_of (λ q. add_round_key ws 0 (mix_columns (shift_rows (sub_bytes (f q))))) i)
round_lane f ws i blocks key l =
    let small : (i : ℕ) → byte_of f i < 256 = λ i. (blocks (i / 16)).bytes (i % 16) in
    lane_mixed (byte_of f (row_source i)) (byte_of f (row_source (row_below i)))
    (byte_of f (row_source (row_below (row_below i)))) (byte_of f (row_source (row_above i)))
    (key_byte ws i) (small (row_source i)) (small (row_source (row_below i)))
    (small (row_source (row_below (row_below i)))) (small (row_source (row_above i))) key
    ∙ ap in_basis (ap (λ (p : ℕ).
    bit_xor (mixed (sbox (byte_of f (row_source i))) (sbox (byte_of f (row_source (row_below i))))
    (sbox (byte_of f (row_source (row_below (row_below i))))) (sbox (byte_of f (row_source p))))
    (key_byte ws i)) (above_at i l)
    ∙ sym (round_byte f ws i blocks l))

-- the terms of a sum may be in another order
regrouped : (u d k l : ℕ) → bit_xor (bit_xor u (bit_xor d k)) l ≡ bit_xor (bit_xor u (bit_xor l d)) k
regrouped u d k l =
    ap (λ (m : ℕ). bit_xor m l) (sym (xor_assoc u d k)) ∙ xor_assoc (bit_xor u d) k l
    ∙ ap (bit_xor (bit_xor u d)) (xor_comm k l) ∙ sym (xor_assoc (bit_xor u d) l k)
    ∙ ap (λ (m : ℕ). bit_xor m k) (xor_assoc u d l ∙ ap (bit_xor u) (xor_comm d l))

-- byte p of round key 0 of ws
own_byte : (ws : List (List ℕ)) (p : ℕ) → word_byte ws 0 p ≡ get_or (get_or ws (p / 4) []) (p % 4) 0
own_byte ws p =
    let first : 4 * 0 + p / 4 ≡ p / 4 = omega arith in
    ap (λ (j : ℕ). get_or (get_or ws j []) (p % 4) 0) first

-- the byte of a round key at the source of a lane in its block is the byte for the source of the lane
key_at_source : (ws : List (List ℕ)) (i : ℕ) → i < 64 → word_byte ws 0 (row_source (i % 16)) ≡ key_byte ws (row_source i)
key_at_source ws i l =
    let both = and_parts (row_source i / 16 == i / 16) (row_source i % 16 == row_source (i % 16))
    (all_below_at (λ i. (row_source i / 16 == i / 16) && (row_source i % 16 == row_source (i % 16))) 64 i own_computed l)
    in
    own_byte ws (row_source (i % 16))
    ∙ ap (λ (p : ℕ). get_or (get_or ws (p / 4) []) (p % 4) 0)
    (sym (eqb-true (row_source i % 16) (row_source (i % 16)) both.1))

-- if the lanes are the sums of a round's terms at the sources of ShiftRows, the vector holds the blocks after a round, in the
-- basis, with their rows shifted
pub round_lanes : {n : ℕ} (v key : List ℕ) (f : ℕ → List ℕ) (ws : List (List ℕ)) → n < 65 → n % 16 ≡ 0
    → ((q : ℕ) → IsBlock (f q)) → AreBytes ws
    → ((i : ℕ) → i < 16 → get_or key i 0 ≡ ready_byte ws 0 (row_source i))
    → HasLanes n v (λ i.
    bit_xor
    (bit_xor (bit_xor (in_basis (times 2 (linear_sbox (byte_of f (row_source (row_source i))))))
    (in_basis (linear_sbox (byte_of f (row_source (row_below (row_source i)))))))
    (bit_xor (in_basis (linear_sbox (byte_of f (row_source (row_above (row_source i)))))) (get_or key (i % 16) 0)))
    (bit_xor (in_basis (times 2 (linear_sbox (byte_of f (row_source (row_below (row_source i)))))))
    (in_basis (linear_sbox (byte_of f (row_source (row_below (row_below (row_source i)))))))))
    → HoldsShifted n v (λ q. add_round_key ws 0 (mix_columns (shift_rows (sub_bytes (f q)))))
round_lanes {n = n} v key f ws few whole blocks bytes ready made =
    same_lanes v made (λ i l.
    let j : ℕ = row_source i in
    let small : i < 64 = omega arith in
    let within : j < 64 = omega (arith, source_in n i whole l) in
    let upper : ℕ = bit_xor (in_basis (times 2 (linear_sbox (byte_of f (row_source j)))))
    (in_basis (linear_sbox (byte_of f (row_source (row_below j))))) in
    let lower : ℕ = bit_xor (in_basis (times 2 (linear_sbox (byte_of f (row_source (row_below j))))))
    (in_basis (linear_sbox (byte_of f (row_source (row_below (row_below j)))))) in
    let down : ℕ = in_basis (linear_sbox (byte_of f (row_source (row_above j)))) in
    ap (λ (k : ℕ). bit_xor (bit_xor upper (bit_xor down k)) lower)
    (ready (i % 16) (omega arith) ∙ ap (λ (b : ℕ). bit_xor (in_basis b) 0x7c) (key_at_source ws i small))
    ∙ regrouped upper down (bit_xor (in_basis (key_byte ws j)) 0x7c) lower
    ∙ round_lane f ws j blocks (bytes (j % 16 / 4) (j % 16 % 4)) within)

-- if the lanes are the sums of the last round's terms, the vector holds the blocks after the last round
pub last_lanes : {n : ℕ} (v key : List ℕ) (f : ℕ → List ℕ) (ws : List (List ℕ)) → n < 65
    → ((i : ℕ) → i < 16 → get_or key i 0 ≡ masked_byte ws 0 i)
    → HasLanes n v (λ i. bit_xor (linear_sbox (byte_of f (row_source i))) (get_or key (i % 16) 0))
    → HoldsBlocks n v (λ q. add_round_key ws 0 (shift_rows (sub_bytes (f q))))
last_lanes v key f ws few masked made =
    same_lanes v made (λ i l.
    let hp : i % 16 < 16 = omega arith in
    let small : i < 64 = omega arith in
    ap (bit_xor (linear_sbox (byte_of f (row_source i))))
    (masked (i % 16) hp ∙ ap (λ (b : ℕ). bit_xor b 0x63) (own_byte ws (i % 16)))
    ∙ lane_last (byte_of f (row_source i)) (key_byte ws i)
    ∙ sym (added_byte ws (shift_rows (sub_bytes (f (i / 16)))) (i % 16) hp
    ∙ ap (λ (x : ℕ). bit_xor x (key_byte ws i))
    (shifted_byte (f (i / 16)) (i % 16) hp
    ∙ ap sbox (sym (same_byte f row_source (λ i. row_source (i % 16)) i small own_computed)))))

-- if the lanes are the sums of the blocks and the round key at the sources of ShiftRows, in the basis, the vector holds the blocks
-- after AddRoundKey, in the basis, with their rows shifted
pub first_lanes : {n : ℕ} (v key : List ℕ) (f : ℕ → List ℕ) (ws : List (List ℕ))
    → ((i : ℕ) → i < 16 → get_or key i 0 ≡ word_byte ws 0 i)
    → HasLanes n v (λ i. in_basis (bit_xor (byte_of f (row_source i)) (get_or key (row_source i % 16) 0)))
    → HoldsShifted n v (λ q. add_round_key ws 0 (f q))
first_lanes v key f ws plain made =
    same_lanes v made (λ i l.
    let j : ℕ = row_source i in
    let hp : j % 16 < 16 = omega arith in
    ap in_basis (ap (bit_xor (byte_of f j)) (plain (j % 16) hp ∙ own_byte ws (j % 16))
    ∙ sym (added_byte ws (f (j / 16)) (j % 16) hp)))

-- ---- the words of a round
-- byte i of a word is row i of its column
column_byte : (w i : ℕ) → i < 4 → w / 256 ^ i % 256 ≡ get_or (column_of w) i 0
unfolding column_of
column_byte w zero h = omega arith
column_byte w (suc zero) h = refl
column_byte w (suc (suc zero)) h = refl
column_byte w (suc (suc (suc zero))) h = refl
column_byte w (suc (suc (suc (suc i)))) h = absurd (omega arith)

-- ---- the blocks of a list
-- a list of b blocks holds them, with any block for a number from b on
pub holds_self : (b : ℕ) (p : ℕ → ℕ) (m : List ℕ) → length m ≡ 16 * b → ((q : ℕ) → q < b → p q ≡ q)
    → HoldsBlocks (16 * b) m (λ q. block_at m (p q))
holds_self b p m long own = record {
  long = long;
  each = λ k l.
      let place : k ≡ k / 16 * 16 + k % 16 = omega arith in
      ap (λ i. get_or m i 0) place ∙ sym (get_or-drop (k / 16 * 16) m (k % 16) 0)
      ∙ sym (get_or-take 16 (drop (k / 16 * 16) m) (k % 16) 0 (omega arith))
      ∙ ap (λ i. get_or (block_at m i) (k % 16) 0) (sym (own (k / 16) (omega arith)));
}

-- each block of a list of b blocks is a block
pub block_at_is : (b q : ℕ) (m : List ℕ) → length m ≡ 16 * b → ((i : ℕ) → get_or m i 0 < 256) → q < b
    → IsBlock (block_at m q)
block_at_is b q m long small h = record {
  length_is = length-take-le 16 (drop (q * 16) m) (omega (arith, length-drop (q * 16) m));
  bytes = λ i. elim (cases_lt i 16) [
    | inl l ↦ rw (get_or-take 16 (drop (q * 16) m) i 0 l, get_or-drop (q * 16) m i 0) (small (q * 16 + i))
    | inr g ↦ rw (get_or_past (take 16 (drop (q * 16) m)) i 0
        (omega (arith, length-take 16 (drop (q * 16) m)))) (omega arith)
  ];
}

-- block q of a vector that holds blocks is the block that it holds
pub block_held : (b : ℕ) (v : List ℕ) (f : ℕ → List ℕ) (q : ℕ) → HoldsBlocks (16 * b) v f → q < b → length (f q) ≡ 16
    → block_at v q ≡ f q
block_held b v f q held h long =
    let all : length v ≡ 16 * b = held.long in
    ext_get_or 0 (block_at v q) (f q)
    (length-take-le 16 (drop (q * 16) v) (omega (arith, length-drop (q * 16) v)) ∙ sym long) (λ k l.
    let within : k < 16 = omega (arith, length-take 16 (drop (q * 16) v)) in
    let block : (q * 16 + k) / 16 ≡ q = omega arith in
    let byte : (q * 16 + k) % 16 ≡ k = omega arith in
    get_or-take 16 (drop (q * 16) v) k 0 within ∙ get_or-drop (q * 16) v k 0
    ∙ held.each (q * 16 + k) (omega arith)
    ∙ ap₂ (λ (i j : ℕ). get_or (f i) j 0) block byte)

-- a vector that holds blocks in the basis holds equal blocks in the basis
pub basis_same : {n : ℕ} (v : List ℕ) (f g : ℕ → List ℕ) → ((q : ℕ) → f q ≡ g q) → HoldsShifted n v f → HoldsShifted n v g
basis_same v f g same held =
    same_lanes v held (λ k l. ap (λ b. in_basis (get_or b (row_source k % 16) 0)) (same (row_source k / 16)))

-- a vector that holds blocks holds equal blocks
pub blocks_same : {n : ℕ} (v : List ℕ) (f g : ℕ → List ℕ) → ((q : ℕ) → f q ≡ g q) → HoldsBlocks n v f → HoldsBlocks n v g
blocks_same v f g same held = same_lanes v held (λ k l. ap (λ b. get_or b (k % 16) 0) (same (k / 16)))

-- ---- ready round keys
-- a byte of round key n is that of the first round key after 4n words are dropped
pub word_first : (ws : List (List ℕ)) (n i : ℕ) → word_byte ws n i ≡ word_byte (drop (4 * n) ws) 0 i
word_first ws n i =
    let first : 4 * 0 + i / 4 ≡ i / 4 = omega arith in
    ap (λ w. get_or w (i % 4) 0)
    (sym (get_or-drop (4 * n) ws (i / 4) []) ∙ ap (λ (j : ℕ). get_or (drop (4 * n) ws) j []) (sym first))

-- so is a byte of round key n made ready
pub ready_first : (ws : List (List ℕ)) (n i : ℕ) → ready_byte ws n i ≡ ready_byte (drop (4 * n) ws) 0 i
ready_first ws n i = ap (λ (b : ℕ). bit_xor (in_basis b) 0x7c) (word_first ws n i)

-- one block in sixteen lanes
pub holds_one : (m : List ℕ) → length m ≡ 16 → HoldsBlocks 16 m (λ q. m)
holds_one m long = record {
  long = long;
  each = λ k l. let own : k % 16 ≡ k = omega arith in ap (λ (i : ℕ). get_or m i 0) (sym own);
}

-- sixteen lanes that hold one block are the block
pub one_held : (v b : List ℕ) → length b ≡ 16 → HoldsBlocks 16 v (λ q. b) → v ≡ b
one_held v b size held =
    let long : length v ≡ 16 = held.long in
    ext_get_or 0 v b (long ∙ sym size) (λ i l.
    let within : i < 16 = omega (arith, long) in
    let own : i % 16 ≡ i = omega arith in
    held.each i within ∙ ap (λ (k : ℕ). get_or b k 0) own)

-- the bytes of columns of words are bytes
pub word_small : (ws : List ℕ) (k r : ℕ) → get_or (get_or (columns_of ws) k []) r 0 < 256
word_small [] k r = omega arith
word_small (w ∷ ws) zero r = column_small w r
word_small (w ∷ ws) (suc k) r = word_small ws k r
