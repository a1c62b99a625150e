-- Rounds of sixteen blocks in planes of bits.
use Rattle.std.proofs.Common.{◌≡◌, ℕ, ◌+◌, ◌*◌, ◌/◌, ◌%◌, ◌<◌, true, ◌&&◌, ◌==◌, List, [], get_or, refl, sym, ap, ap₂}
use Rattle.std.proofs.Common.{◌∙◌, arith, bit_xor}
use Rattle.std.specs.Int.{bit_at}
use Rattle.std.specs.Int.Bits.{xor_zero_r, xor_comm, xor_assoc}
use Rattle.std.proofs.lemmas.Bool.{and_parts, eqb-true}
use Rattle.octets.specs.Bytes.{IsBlock}
use Rattle.aes.specs.Field.{times, sbox}
use Rattle.aes.specs.Cipher.{sub_bytes, shift_rows, mix_columns, add_round_key}
use Rattle.aes.specs.Code.Lanes.{linear_sbox, key_byte, row_source, row_below}
use Rattle.std.proofs.Common.{drop}
use Rattle.std.proofs.lemmas.List.{get_or-drop}
use Rattle.aes.specs.Code.Planes.{HoldsLanes, HoldsWords, block_byte, spot, word_byte, masked_byte}
use Rattle.aes.specs.declared.planes.TheConstants.{SHIFTED, SHIFTED_OUT, BELOW, TWO_BELOW}
use Rattle.aes.proofs.Tested.{all_below, all_below_at}
use Rattle.aes.proofs.Multiples.{triple_is}
use Rattle.aes.proofs.Sums.{times_xor, xor_exchange}
use Rattle.aes.proofs.Steps.{sbox_small}
use Rattle.aes.proofs.FourRounds.{round_byte, lane_last, mixed, added_byte, shifted_byte}

-- planes that hold bytes hold equal bytes
pub same_bytes : {n : ℕ} {g h : ℕ → ℕ → ℕ} (p : List (List ℕ)) → HoldsLanes n p g
    → ((l k : ℕ) → l < n → k < 8 → g l k ≡ h l k) → HoldsLanes n p h
same_bytes p held same = record {
  count = held.count;
  long = held.long;
  each = λ j l k hj hl hk. held.each j l k hj hl hk ∙ ap (λ n. bit_at n j) (same l k hl hk);
}

-- words that hold the planes of bytes hold those of equal bytes
pub same_words : {g h : ℕ → ℕ → ℕ} (words : List ℕ) → HoldsWords words g
    → ((l k : ℕ) → l < 16 → k < 8 → g l k ≡ h l k) → HoldsWords words h
same_words words held same = record {
  each = λ j l k hj hl hk. held.each j l k hj hl hk ∙ ap (λ n. bit_at n j) (same l k hl hk);
}

-- ---- places
shifted_computed : all_below
    (λ l. (get_or SHIFTED l 0 / 16 == l / 16) && (spot (get_or SHIFTED l 0) == row_source (spot l))) 32 ≡ true
shifted_computed = refl

below_computed : all_below
    (λ l. (get_or SHIFTED (get_or BELOW l 0) 0 / 16 == l / 16)
    && (spot (get_or SHIFTED (get_or BELOW l 0) 0) == row_source (row_below (spot l)))) 32 ≡ true
below_computed = refl

two_computed : all_below
    (λ l. (get_or SHIFTED (get_or TWO_BELOW l 0) 0 / 16 == l / 16)
    && (spot (get_or SHIFTED (get_or TWO_BELOW l 0) 0) == row_source (row_below (row_below (spot l))))) 32 ≡ true
two_computed = refl

three_computed : all_below
    (λ l. (get_or SHIFTED (get_or BELOW (get_or TWO_BELOW l 0) 0) 0 / 16 == l / 16)
    && (spot (get_or SHIFTED (get_or BELOW (get_or TWO_BELOW l 0) 0) 0)
    == row_source (row_below (row_below (row_below (spot l)))))) 32 ≡ true
three_computed = refl

out_computed : all_below
    (λ l. (get_or SHIFTED_OUT l 0 / 16 == l / 16) && (spot (get_or SHIFTED_OUT l 0) == row_source (l % 16))) 32 ≡ true
out_computed = refl

-- if lane `from l` is tested to be in the half of lane l, at the place `to l`, its bytes are those of the same blocks at that place
place : (f : ℕ → List ℕ) (from to : ℕ → ℕ) (l k : ℕ) → l < 32
    → all_below (λ l. (from l / 16 == l / 16) && (spot (from l) == to l)) 32 ≡ true
    → block_byte f (from l) k ≡ get_or (f (l / 16 * 8 + k)) (to l) 0
place f from to l k h test =
    let both = and_parts (from l / 16 == l / 16) (spot (from l) == to l)
    (all_below_at (λ l. (from l / 16 == l / 16) && (spot (from l) == to l)) 32 l test h) in
    ap₂ (λ (q p : ℕ). get_or (f (q * 8 + k)) p 0) (eqb-true (from l / 16) (l / 16) both.0)
    (eqb-true (spot (from l)) (to l) both.1)

-- ---- bytes
-- the constant of the S-box cancels in a sum of two values
constants_go : (a b : ℕ) → bit_xor (bit_xor a 0x63) (bit_xor b 0x63) ≡ bit_xor a b
constants_go a b = xor_exchange a 0x63 b 0x63 ∙ xor_zero_r (bit_xor a b)

-- the constant of the S-box may be moved out of a sum
constant_out : (a b : ℕ) → bit_xor (bit_xor a 0x63) b ≡ bit_xor (bit_xor a b) 0x63
constant_out a b = ap (bit_xor (bit_xor a 0x63)) (sym (xor_zero_r b)) ∙ xor_exchange a 0x63 b 0

-- the terms of a round's byte sum to the mixed S-box values of its four bytes plus the key byte
pub value : (a b c d k : ℕ) → b < 256
    → bit_xor (bit_xor (bit_xor (linear_sbox b) (bit_xor (linear_sbox c) (linear_sbox d)))
    (times 2 (bit_xor (linear_sbox a) (linear_sbox b)))) (bit_xor k 0x63)
    ≡ bit_xor (mixed (sbox a) (sbox b) (sbox c) (sbox d)) k
unfolding linear_sbox
value a b c d k hb =
    let p : ℕ = sbox a in
    let q : ℕ = sbox b in
    let r : ℕ = bit_xor (sbox c) (sbox d) in
    let t : ℕ = bit_xor (times 2 p) (times 2 q) in
    ap (λ u. bit_xor u (bit_xor k 0x63)) (
    ap₂ bit_xor
    (ap (bit_xor (bit_xor q 0x63)) (constants_go (sbox c) (sbox d)) ∙ constant_out q r)
    (ap (times 2) (constants_go p q) ∙ times_xor 2 p q)
    ∙ constant_out (bit_xor q r) t)
    ∙ constants_go (bit_xor (bit_xor q r) t) k
    ∙ ap (λ u. bit_xor u k) (
    xor_comm (bit_xor q r) t ∙ xor_assoc (times 2 p) (times 2 q) (bit_xor q r)
    ∙ ap (bit_xor (times 2 p)) (sym (xor_assoc (times 2 q) q r)
    ∙ ap (λ u. bit_xor u r) (sym (triple_is q (sbox_small b hb)))))

-- ---- rounds
-- the byte that ShiftRows brings to lane l, after the S-box without its constant
abbrev pub brought : (ℕ → List ℕ) → ℕ → ℕ → ℕ
brought f l k = linear_sbox (block_byte f (get_or SHIFTED l 0) k)

-- byte i after a round of one block, in terms of the bytes from which it comes
pub one_round : (b : List ℕ) (ws : List (List ℕ)) (i : ℕ) → IsBlock b → i < 16
    → get_or (add_round_key ws 0 (mix_columns (shift_rows (sub_bytes b)))) i 0
    ≡ bit_xor (mixed (sbox (get_or b (row_source i) 0)) (sbox (get_or b (row_source (row_below i)) 0))
    (sbox (get_or b (row_source (row_below (row_below i))) 0))
    (sbox (get_or b (row_source (row_below (row_below (row_below i)))) 0))) (key_byte ws i)
one_round b ws i block h =
    let same : i % 16 ≡ i = omega arith in
    let s0 : row_source i % 16 ≡ row_source i = omega arith in
    let s1 : row_source (row_below i) % 16 ≡ row_source (row_below i) = omega arith in
    let s2 : row_source (row_below (row_below i)) % 16 ≡ row_source (row_below (row_below i)) = omega arith in
    let s3 : row_source (row_below (row_below (row_below i))) % 16 ≡ row_source (row_below (row_below (row_below i))) =
    omega arith in
    ap (λ (p : ℕ). get_or (add_round_key ws 0 (mix_columns (shift_rows (sub_bytes b)))) p 0) (sym same)
    ∙ round_byte (λ _. b) ws i (λ _. block) (omega arith)
    ∙ ap (λ (u : ℕ). bit_xor u (key_byte ws i)) (
    ap₂ bit_xor (ap (λ (p : ℕ). times 2 (sbox (get_or b p 0))) s0)
    (ap₂ bit_xor (ap (λ (p : ℕ). times 3 (sbox (get_or b p 0))) s1)
    (ap₂ bit_xor (ap (λ (p : ℕ). sbox (get_or b p 0)) s2) (ap (λ (p : ℕ). sbox (get_or b p 0)) s3))))

-- the sum of a round's terms in lane l is the byte after the round
pub round_value : (f : ℕ → List ℕ) (ws : List (List ℕ)) → ((q : ℕ) → IsBlock (f q)) → (l k : ℕ) → l < 32
    → bit_xor (bit_xor (bit_xor (brought f (get_or BELOW l 0) k)
    (bit_xor (brought f (get_or TWO_BELOW l 0) k) (brought f (get_or BELOW (get_or TWO_BELOW l 0) 0) k)))
    (times 2 (bit_xor (brought f l k) (brought f (get_or BELOW l 0) k))))
    (bit_xor (key_byte ws (spot l)) 0x63)
    ≡ block_byte (λ q. add_round_key ws 0 (mix_columns (shift_rows (sub_bytes (f q))))) l k
round_value f ws blocks l k hl =
    let b : List ℕ = f (l / 16 * 8 + k) in
    let i : ℕ = spot l in
    let hi : i < 16 = omega arith in
    let small : (i : ℕ) → get_or b i 0 < 256 = (blocks (l / 16 * 8 + k)).bytes in
    let same : i % 16 ≡ i = omega arith in
    value (block_byte f (get_or SHIFTED l 0) k) (block_byte f (get_or SHIFTED (get_or BELOW l 0) 0) k)
    (block_byte f (get_or SHIFTED (get_or TWO_BELOW l 0) 0) k)
    (block_byte f (get_or SHIFTED (get_or BELOW (get_or TWO_BELOW l 0) 0) 0) k) (key_byte ws i)
    ((blocks (get_or SHIFTED (get_or BELOW l 0) 0 / 16 * 8 + k)).bytes (spot (get_or SHIFTED (get_or BELOW l 0) 0)))
    ∙ ap (λ u. bit_xor u (key_byte ws i)) (
    ap₂ bit_xor (ap (λ u. times 2 (sbox u))
    (place f (λ l. get_or SHIFTED l 0) (λ l. row_source (spot l)) l k hl shifted_computed))
    (ap₂ bit_xor (ap (λ u. times 3 (sbox u))
    (place f (λ l. get_or SHIFTED (get_or BELOW l 0) 0) (λ l. row_source (row_below (spot l))) l k hl below_computed))
    (ap₂ bit_xor (ap sbox
    (place f (λ l. get_or SHIFTED (get_or TWO_BELOW l 0) 0) (λ l. row_source (row_below (row_below (spot l)))) l k hl
    two_computed))
    (ap sbox
    (place f (λ l. get_or SHIFTED (get_or BELOW (get_or TWO_BELOW l 0) 0) 0)
    (λ l. row_source (row_below (row_below (row_below (spot l))))) l k hl three_computed)))))
    ∙ sym (one_round b ws i (blocks (l / 16 * 8 + k)) hi)

-- the sum of the last round's terms in lane l is the byte after the last round, in the order of the block
pub last_value : (f : ℕ → List ℕ) (ws : List (List ℕ)) (l k : ℕ) → l < 32
    → bit_xor (linear_sbox (block_byte f (get_or SHIFTED_OUT l 0) k)) (bit_xor (key_byte ws (l % 16)) 0x63)
    ≡ get_or (add_round_key ws 0 (shift_rows (sub_bytes (f (l / 16 * 8 + k))))) (l % 16) 0
last_value f ws l k hl =
    let b : List ℕ = f (l / 16 * 8 + k) in
    let hi : l % 16 < 16 = omega arith in
    let same : l % 16 % 16 ≡ l % 16 = omega arith in
    lane_last (block_byte f (get_or SHIFTED_OUT l 0) k) (key_byte ws (l % 16))
    ∙ ap₂ bit_xor (ap sbox (place f (λ l. get_or SHIFTED_OUT l 0) (λ l. row_source (l % 16)) l k hl out_computed)
    ∙ sym (shifted_byte b (l % 16) hi))
    (ap (λ (m : ℕ). get_or (get_or ws (m / 4) []) (m % 4) 0) same)
    ∙ sym (added_byte ws (shift_rows (sub_bytes b)) (l % 16) hi)

-- lanes 16 to 31 hold the bytes of the blocks from 8 on
pub second_block : (f : ℕ → List ℕ) (l k : ℕ) → l < 16
    → block_byte f (16 + l) k ≡ block_byte (λ q. f (8 + q)) l k
second_block f l k hl =
    let block : (16 + l) / 16 * 8 + k ≡ 8 + (l / 16 * 8 + k) = omega (arith, hl) in
    let at : spot (16 + l) ≡ spot l = omega (arith, hl) in
    ap₂ (λ (q i : ℕ). get_or (f q) i 0) block at

-- ---- keys
-- planes that hold blocks hold equal blocks
pub same_blocks : {n : ℕ} (p : List (List ℕ)) (f g : ℕ → List ℕ) → ((q : ℕ) → f q ≡ g q) → HoldsLanes n p (block_byte f)
    → HoldsLanes n p (block_byte g)
same_blocks p f g same held =
    same_bytes p held (λ l k hl hk. ap (λ b. get_or b (spot l) 0) (same (l / 16 * 8 + k)))

-- the byte of a block plus that of round key 0 is the byte after the first AddRoundKey
pub first_value : (f : ℕ → List ℕ) (ws : List (List ℕ)) (l k : ℕ)
    → bit_xor (block_byte f l k) (word_byte ws 0 (spot l)) ≡ block_byte (λ q. add_round_key ws 0 (f q)) l k
first_value f ws l k =
    let first : 4 * 0 + spot l / 4 ≡ spot l / 4 = omega arith in
    let small : spot l < 16 = omega arith in
    ap (λ (i : ℕ). bit_xor (block_byte f l k) (get_or (get_or ws i []) (spot l % 4) 0)) first
    ∙ sym (added_byte ws (f (l / 16 * 8 + k)) (spot l) small)

-- byte i of the words of round n is byte i of the first words after 4n words are dropped
dropped : (ws : List (List ℕ)) (n i : ℕ) → i < 16 → word_byte ws n i ≡ key_byte (drop (4 * n) ws) i
dropped ws n i h =
    let same : i % 16 ≡ i = omega arith in
    ap (λ w. get_or w (i % 4) 0) (sym (get_or-drop (4 * n) ws (i / 4) []))
    ∙ ap (λ (p : ℕ). get_or (get_or (drop (4 * n) ws) (p / 4) []) (p % 4) 0) (sym same)

pub dropped_row : (ws : List (List ℕ)) (n l : ℕ)
    → masked_byte ws n (spot l) ≡ bit_xor (key_byte (drop (4 * n) ws) (spot l)) 0x63
dropped_row ws n l = ap (λ b. bit_xor b 0x63) (dropped ws n (spot l) (omega arith))

pub dropped_last : (ws : List (List ℕ)) (n l : ℕ)
    → masked_byte ws n (l % 16) ≡ bit_xor (key_byte (drop (4 * n) ws) (l % 16)) 0x63
dropped_last ws n l = ap (λ b. bit_xor b 0x63) (dropped ws n (l % 16) (omega arith))
