-- Look-ups in tables of sixteen bytes that are vectors.
use Rattle.std.proofs.Common.{◌≡◌, ℕ, zero, suc, ◌+◌, ◌*◌, ◌/◌, ◌%◌, ◌<◌, Bool, true, ◌&&◌}
use Rattle.std.proofs.Common.{◌||◌, ◌==◌, T, ltb, leb, List, [], get_or, set, length, replicate, bit_and, bit_xor}
use Rattle.std.proofs.Common.{refl, sym, ap, ap₂, subst, ◌∙◌, arith, rules, w8, inl, inr}
use Rattle.std.proofs.Math.Nat.{zero-mul, one-mul}
use Rattle.std.proofs.lemmas.Nat.{xor_of_8, and_mask}
use Rattle.std.proofs.lemmas.Bool.{and_parts, eqb-true, cases_lt}
use Rattle.std.proofs.lemmas.Grind.{same_number_lists}
use Rattle.std.proofs.lemmas.List.{get_or-replicate, length-replicate, get_or-set_same, get_or-set_other}
use Rattle.std.proofs.lemmas.Simd.{Each1-from_get_or, length-zip2, get_or-zip2, swz_l, SwzOk}
use Rattle.std.proofs.lemmas.Simd.{SwzOk-from_Each1, length-swz_l, get_or-swz_l_below}
use lib.Lanes.{zip2}
use mathlib.Core.Path.{fun_ext}
use Rattle.octets.specs.Bytes.{IsBlock, le}
use Rattle.gf128.specs.Code.Words.{looked_up, mixed, IsBitsProduct, IsMoved, table_at, entry}
use Rattle.gf128.specs.declared.tables.TheConstants.{TWOS, ONES, FOURTHS, REMAINDERS}
use Rattle.gf128.proofs.BitParts.{joined, product_low, two_bits_by}
use Rattle.gf128.proofs.Rows.{row, row_at, length-row, row_block, le_row_xor}

-- ---- lanes

-- an operator on two vectors acts on each pair of lanes
pub at_both : (g : ℕ → ℕ → ℕ) (x y : List ℕ) (k : ℕ) → length x ≡ 16 → length y ≡ 16 → k < 16
    → get_or (zip2 g x y) k 0 ≡ g (get_or x k 0) (get_or y k 0)
at_both g x y k hx hy l = get_or-zip2 g x y k 0 0 0 (omega arith) (omega arith)

-- it gives as many lanes
pub long_both : (g : ℕ → ℕ → ℕ) (x y : List ℕ) → length x ≡ 16 → length y ≡ 16 → length (zip2 g x y) ≡ 16
long_both g x y hx hy = length-zip2 g x y (hx ∙ sym hy) ∙ hx

-- an operator on a vector and one number acts on each lane with that number
pub at_splat : (g : ℕ → ℕ → ℕ) (x : List ℕ) (s k : ℕ) → length x ≡ 16 → k < 16
    → get_or (zip2 g x (replicate 16 s)) k 0 ≡ g (get_or x k 0) s
at_splat g x s k hx l =
    at_both g x (replicate 16 s) k hx (length-replicate 16 s) l
    ∙ ap (g (get_or x k 0)) (get_or-replicate {A = ℕ} 16 k s 0 l)

-- it gives as many lanes
pub long_splat : (g : ℕ → ℕ → ℕ) (x : List ℕ) (s : ℕ) → length x ≡ 16 → length (zip2 g x (replicate 16 s)) ≡ 16
long_splat g x s hx = long_both g x (replicate 16 s) hx (length-replicate 16 s)

-- ---- look-ups

-- a look-up is allowed if each index is below 16
pub places_ok : (at : List ℕ) → length at ≡ 16 → ((k : ℕ) → k < 16 → get_or at k 0 < 16) → SwzOk w8 16 16 0 at
places_ok at long ok =
    SwzOk-from_Each1 w8 16 1 16 0 at refl (omega arith)
    (Each1-from_get_or (λ j. T (leb 128 j || ltb j 16)) at 0
    (λ i h. let small : get_or at i 0 < 16 = ok i (omega arith) in search rules))

-- a look-up gives each lane the entry at its index
pub found : (t at : List ℕ) (k : ℕ) → length at ≡ 16 → k < 16 → get_or at k 0 < 16
    → get_or (swz_l w8 16 t 0 at) k 0 ≡ get_or t (get_or at k 0) 0
found t at k long l small =
    let first : 16 * ((0 + k) / 16) + get_or at k 0 ≡ get_or at k 0 = omega arith in
    get_or-swz_l_below w8 16 t 0 at k (omega arith) small ∙ ap (λ i. get_or t i 0) first

-- it gives as many lanes
pub long_found : (t at : List ℕ) → length at ≡ 16 → length (swz_l w8 16 t 0 at) ≡ 16
long_found t at long = length-swz_l w8 16 t 0 at ∙ long

-- the high four bits of a byte are an index
pub high_place : (x at : List ℕ) → IsBlock x → ((p : ℕ) → p < 16 → get_or at p 0 ≡ get_or x p 0 / 16) → (k : ℕ) → k < 16
    → get_or at k 0 < 16
high_place x at is same k l = let small : get_or x k 0 < 256 = is.bytes k in omega (arith, same k l)

-- the low four bits of a byte are an index
pub low_place : (x at : List ℕ) → ((p : ℕ) → p < 16 → get_or at p 0 ≡ get_or x p 0 % 16) → (k : ℕ) → k < 16 → get_or at k 0 < 16
low_place x at same k l = omega (arith, same k l)

-- the XOR of two look-ups, by the high and by the low four bits of the bytes x
pub looked_up_is : (t u x high low : List ℕ) → IsBlock x → length high ≡ 16 → length low ≡ 16
    → ((p : ℕ) → p < 16 → get_or high p 0 ≡ get_or x p 0 / 16) → ((p : ℕ) → p < 16 → get_or low p 0 ≡ get_or x p 0 % 16)
    → zip2 bit_xor (swz_l w8 16 t 0 high) (swz_l w8 16 u 0 low) ≡ looked_up t u x
unfolding looked_up
looked_up_is t u x high low is lh ll eh el =
    let f : ℕ → ℕ = λ (p : ℕ). bit_xor (get_or t (get_or x p 0 / 16) 0) (get_or u (get_or x p 0 % 16) 0) in
    let a : List ℕ = swz_l w8 16 t 0 high in
    let b : List ℕ = swz_l w8 16 u 0 low in
    let long : length (zip2 bit_xor a b) ≡ 16 = long_both bit_xor a b (long_found t high lh) (long_found u low ll) in
    same_number_lists (zip2 bit_xor a b) (row f) (long ∙ sym (length-row f)) (λ k h.
    let l : k < 16 = omega (arith, long) in
    at_both bit_xor a b k (long_found t high lh) (long_found u low ll) l
    ∙ ap₂ bit_xor (found t high k lh l (high_place x high is eh k l) ∙ ap (λ i. get_or t i 0) (eh k l))
    (found u low k ll l (low_place x low el k l) ∙ ap (λ i. get_or u i 0) (el k l))
    ∙ sym (row_at f k l))

-- it is a block, if the tables hold bytes
pub looked_up_block : (t u x : List ℕ) → ((i : ℕ) → get_or t i 0 < 256) → ((i : ℕ) → get_or u i 0 < 256)
    → IsBlock (looked_up t u x)
unfolding looked_up
looked_up_block t u x ht hu =
    row_block (λ p. bit_xor (get_or t (get_or x p 0 / 16) 0) (get_or u (get_or x p 0 % 16) 0)) (λ p.
    xor_of_8 (get_or t (get_or x p 0 / 16) 0) (get_or u (get_or x p 0 % 16) 0) (ht (get_or x p 0 / 16)) (hu (get_or x p 0 % 16)))

-- ---- tables of multiples

-- a test of all numbers below n
all_below : (ℕ → Bool) → ℕ → Bool
all_below f zero = true
all_below f (suc n) = f n && all_below f n

-- what is tested holds of each
all_below_at : (f : ℕ → Bool) (n k : ℕ) → all_below f n ≡ true → k < n → f k ≡ true
unfolding all_below
all_below_at f zero k h l = absurd (omega arith)
all_below_at f (suc n) k h l = elim (cases_lt k n) [
  | inl below ↦ all_below_at f n k (and_parts (f n) (all_below f n) h).1 below
  | inr above ↦ let same : n ≡ k = omega arith in ap f (sym same) ∙ (and_parts (f n) (all_below f n) h).0
]

-- entry n of a mask is 255 times a bit of n
abbrev Masks : List ℕ → (ℕ → ℕ) → Type 0
Masks m b = (n : ℕ) → n < 16 → get_or m n 0 ≡ 255 * b n

twos_computed : all_below (λ n. get_or TWOS n 0 == 255 * (n % 4 / 2)) 16 ≡ true
unfolding all_below
twos_computed = refl

ones_computed : all_below (λ n. get_or ONES n 0 == 255 * (n % 4 % 2)) 16 ≡ true
unfolding all_below
ones_computed = refl

masked_by : (m : List ℕ) (b : ℕ → ℕ) → all_below (λ n. get_or m n 0 == 255 * b n) 16 ≡ true → Masks m b
masked_by m b test n l =
    eqb-true (get_or m n 0) (255 * b n) (all_below_at (λ n. get_or m n 0 == 255 * b n) 16 n test l)

-- a byte under 255 times a bit is the bit times the byte
bit_masks : (b v : ℕ) → b < 2 → v < 256 → bit_and v (255 * b) ≡ b * v
bit_masks zero v h l = and_mask v 0 ∙ omega (arith, zero-mul v)
bit_masks (suc zero) v h l = and_mask v 8 ∙ omega (arith, one-mul v)
bit_masks (suc (suc b)) v h l = absurd (omega arith)

-- entry n of these constants is a fourth of n, or what remains
fourths_computed : all_below (λ n. get_or FOURTHS n 0 == n / 4) 16 ≡ true
unfolding all_below
fourths_computed = refl

remainders_computed : all_below (λ n. get_or REMAINDERS n 0 == n % 4) 16 ≡ true
unfolding all_below
remainders_computed = refl

-- such a constant, with a number added to each entry
abbrev pub offset : List ℕ → ℕ → List ℕ
offset m s = zip2 (λ a b. (a + b) % 256) m (replicate 16 s)

-- its entries
offset_at : (m : List ℕ) (f : ℕ → ℕ) (s n : ℕ) → all_below (λ k. get_or m k 0 == f k) 16 ≡ true → length m ≡ 16 → n < 16
    → f n + s < 16 → get_or (offset m s) n 0 ≡ s + f n
offset_at m f s n test long l small =
    let own : get_or m n 0 ≡ f n = eqb-true (get_or m n 0) (f n) (all_below_at (λ k. get_or m k 0 == f k) 16 n test l) in
    at_splat (λ a b. (a + b) % 256) m s n long l ∙ ap (λ (x : ℕ). (x + s) % 256) own ∙ omega arith

pub fourth_at : (s n : ℕ) → n < 16 → s < 13 → get_or (offset FOURTHS s) n 0 ≡ s + n / 4
fourth_at s n l small = offset_at FOURTHS (λ k. k / 4) s n fourths_computed refl l (omega arith)

pub remainder_at : (s n : ℕ) → n < 16 → s < 13 → get_or (offset REMAINDERS s) n 0 ≡ s + n % 4
remainder_at s n l small = offset_at REMAINDERS (λ k. k % 4) s n remainders_computed refl l (omega arith)

-- they are allowed as indices
pub fourths_ok : (s : ℕ) → s < 13 → SwzOk w8 16 16 0 (offset FOURTHS s)
fourths_ok s small =
    places_ok (offset FOURTHS s) (long_splat (λ a b. (a + b) % 256) FOURTHS s refl)
    (λ k l. omega (arith, fourth_at s k l small))

pub remainders_ok : (s : ℕ) → s < 13 → SwzOk w8 16 16 0 (offset REMAINDERS s)
remainders_ok s small =
    places_ok (offset REMAINDERS s) (long_splat (λ a b. (a + b) % 256) REMAINDERS s refl)
    (λ k l. omega (arith, remainder_at s k l small))

-- a byte of a word for each lane, under a mask
masked_lane : (x at m : List ℕ) (b : ℕ → ℕ) (j n : ℕ) → IsBlock x → length at ≡ 16 → get_or at n 0 ≡ j → length m ≡ 16 → Masks m b
    → j < 16 → n < 16 → b n < 2 → get_or (zip2 bit_and (swz_l w8 16 x 0 at) m) n 0 ≡ b n * get_or x j 0
masked_lane x at m b j n is lat here long masks lj ln small =
    at_both bit_and (swz_l w8 16 x 0 at) m n (long_found x at lat) long ln
    ∙ ap₂ bit_and (found x at n lat ln (omega arith) ∙ ap (λ i. get_or x i 0) here) (masks n ln)
    ∙ bit_masks (b n) (get_or x j 0) small (is.bytes j)

-- the sums of bytes of two words, from byte s on
pub pair_lane : (x y : List ℕ) (s n : ℕ) → IsBlock x → IsBlock y → s < 13 → n < 16
    → get_or (zip2 bit_xor (zip2 bit_and (swz_l w8 16 x 0 (offset FOURTHS s)) TWOS) (zip2 bit_and (swz_l w8 16 y 0 (offset FOURTHS s)) ONES)) n 0
    ≡ bit_xor (n % 4 / 2 * get_or x (s + n / 4) 0) (n % 4 % 2 * get_or y (s + n / 4) 0)
pair_lane x y s n hx hy small l =
    let at : List ℕ = offset FOURTHS s in
    let long : length at ≡ 16 = long_splat (λ a b. (a + b) % 256) FOURTHS s refl in
    let j : ℕ = s + n / 4 in
    let here : get_or at n 0 ≡ j = fourth_at s n l small in
    at_both bit_xor (zip2 bit_and (swz_l w8 16 x 0 at) TWOS) (zip2 bit_and (swz_l w8 16 y 0 at) ONES) n
    (long_both bit_and (swz_l w8 16 x 0 at) TWOS (long_found x at long) refl)
    (long_both bit_and (swz_l w8 16 y 0 at) ONES (long_found y at long) refl) l
    ∙ ap₂ bit_xor
    (masked_lane x at TWOS (λ n. n % 4 / 2) j n hx long here refl (masked_by TWOS (λ n. n % 4 / 2) twos_computed) (omega arith) l (omega arith))
    (masked_lane y at ONES (λ n. n % 4 % 2) j n hy long here refl (masked_by ONES (λ n. n % 4 % 2) ones_computed) (omega arith) l (omega arith))

-- the table that two such sums make, at byte s of them
pub table_lane : (u v : List ℕ) (s n : ℕ) → s < 13 → n < 16
    → get_or (zip2 bit_xor (swz_l w8 16 u 0 (offset FOURTHS s)) (swz_l w8 16 v 0 (offset REMAINDERS s))) n 0
    ≡ bit_xor (get_or u (s + n / 4) 0) (get_or v (s + n % 4) 0)
table_lane u v s n small l =
    let p : List ℕ = offset FOURTHS s in
    let q : List ℕ = offset REMAINDERS s in
    let lp : length p ≡ 16 = long_splat (λ a b. (a + b) % 256) FOURTHS s refl in
    let lq : length q ≡ 16 = long_splat (λ a b. (a + b) % 256) REMAINDERS s refl in
    let ep : get_or p n 0 ≡ s + n / 4 = fourth_at s n l small in
    let eq : get_or q n 0 ≡ s + n % 4 = remainder_at s n l small in
    at_both bit_xor (swz_l w8 16 u 0 p) (swz_l w8 16 v 0 q) n (long_found u p lp) (long_found v q lq) l
    ∙ ap₂ bit_xor (found u p n lp l (omega arith) ∙ ap (λ i. get_or u i 0) ep)
    (found v q n lq l (omega arith) ∙ ap (λ i. get_or v i 0) eq)

-- what u has for bytes of x and y: `pair_lane`
abbrev pub PairSums : List ℕ → List ℕ → ℕ → List ℕ → Type 0
PairSums x y g u = (k : ℕ) → k < 16 → get_or u k 0
    ≡ bit_xor (k % 4 / 2 * get_or x (4 * g + k / 4) 0) (k % 4 % 2 * get_or y (4 * g + k / 4) 0)

-- the sum for two bits q at byte t
sum_at : (x y u : List ℕ) (g t q : ℕ) → PairSums x y g u → t < 4 → q < 4
    → get_or u (4 * t + q) 0 ≡ bit_xor (q / 2 * get_or x (4 * g + t) 0) (q % 2 * get_or y (4 * g + t) 0)
sum_at x y u g t q is lt lq =
    let k : ℕ = 4 * t + q in
    let place : 4 * g + k / 4 ≡ 4 * g + t = omega arith in
    let upper : k % 4 / 2 ≡ q / 2 = omega arith in
    let lower : k % 4 % 2 ≡ q % 2 = omega arith in
    is k (omega arith) ∙ ap (λ j. bit_xor (k % 4 / 2 * get_or x j 0) (k % 4 % 2 * get_or y j 0)) place
    ∙ ap₂ (λ (i j : ℕ). bit_xor (i * get_or x (4 * g + t) 0) (j * get_or y (4 * g + t) 0)) upper lower

-- a table made of such sums mixes the bytes of four words
pub mixed_lane : (a b c d u v r : List ℕ) (g t n : ℕ) → PairSums a b g u → PairSums c d g v → t < 4 → n < 16
    → get_or r n 0 ≡ bit_xor (get_or u (4 * t + n / 4) 0) (get_or v (4 * t + n % 4) 0)
    → get_or r n 0 ≡ mixed n (get_or a (4 * g + t) 0) (get_or b (4 * g + t) 0) (get_or c (4 * g + t) 0) (get_or d (4 * g + t) 0)
mixed_lane a b c d u v r g t n hu hv lt ln is =
    is ∙ ap₂ bit_xor (sum_at a b u g t (n / 4) hu lt (omega arith)) (sum_at c d v g t (n % 4) hv lt (omega arith))

-- a table is written after the first j
pub one_table : (t : List (List ℕ)) (r : List ℕ) (j k n : ℕ) (f : ℕ → ℕ) → length t ≡ 16 → j < 16 → k < j + 1
    → (k < j → get_or (table_at t k) n 0 ≡ f k) → get_or r n 0 ≡ f j → get_or (table_at (set t j r) k) n 0 ≡ f k
one_table t r j k n f long l lk before here = elim (cases_lt k j) [
  | inl h ↦ ap (λ (x : List ℕ). get_or x n 0) (get_or-set_other t j k r [] (λ e. absurd (omega (arith, e, h)))) ∙ before h
  | inr h ↦
      let same : j ≡ k = omega arith in
      ap (λ (i : ℕ). get_or (table_at (set t j r) i) n 0) (sym same)
      ∙ ap (λ (x : List ℕ). get_or x n 0) (get_or-set_same t j r [] (omega arith)) ∙ here ∙ ap f same
]

-- a bit times a byte is a byte
bit_times_byte : (b v : ℕ) → b < 2 → v < 256 → b * v < 256
bit_times_byte zero v h l = omega (arith, zero-mul v)
bit_times_byte (suc zero) v h l = omega (arith, one-mul v)
bit_times_byte (suc (suc b)) v h l = absurd (omega arith)

-- the bytes of a block, one by one, are the block
row_of_block : (x : List ℕ) → IsBlock x → row (λ j. get_or x j 0) ≡ x
row_of_block x is =
    let f : ℕ → ℕ = λ (j : ℕ). get_or x j 0 in
    same_number_lists (row f) x (length-row f ∙ sym is.length_is) (λ k l. row_at f k (omega (arith, length-row f)))

-- a bit times each byte of a block spells the bit times its number
row_times : (b : ℕ) (x : List ℕ) → IsBlock x → b < 2 → le (row (λ j. b * get_or x j 0)) ≡ b * le x
unfolding le
row_times zero x is l =
    ap (λ (f : ℕ → ℕ). le (row f)) (fun_ext (λ j. zero-mul (get_or x j 0))) ∙ sym (zero-mul (le x))
row_times (suc zero) x is l =
    ap (λ (f : ℕ → ℕ). le (row f)) (fun_ext (λ j. one-mul (get_or x j 0))) ∙ ap le (row_of_block x is) ∙ sym (one-mul (le x))
row_times (suc (suc b)) x is l = absurd (omega arith)

-- sixteen tables that mix the bytes of four words have the words so mixed as their entries
pub mixed_entry : (t : List (List ℕ)) (a b c d : List ℕ) (n : ℕ) → IsBlock a → IsBlock b → IsBlock c → IsBlock d → n < 16
    → ((j : ℕ) → j < 16 → get_or (table_at t j) n 0 ≡ mixed n (get_or a j 0) (get_or b j 0) (get_or c j 0) (get_or d j 0))
    → entry t n ≡ mixed n (le a) (le b) (le c) (le d)
unfolding entry
mixed_entry t a b c d n ha hb hc hd ln is =
    let p : ℕ → ℕ = λ (j : ℕ). n / 4 / 2 * get_or a j 0 in
    let q : ℕ → ℕ = λ (j : ℕ). n / 4 % 2 * get_or b j 0 in
    let r : ℕ → ℕ = λ (j : ℕ). n % 4 / 2 * get_or c j 0 in
    let s : ℕ → ℕ = λ (j : ℕ). n % 4 % 2 * get_or d j 0 in
    let sp : (j : ℕ) → p j < 256 = λ j. bit_times_byte (n / 4 / 2) (get_or a j 0) (omega arith) (ha.bytes j) in
    let sq : (j : ℕ) → q j < 256 = λ j. bit_times_byte (n / 4 % 2) (get_or b j 0) (omega arith) (hb.bytes j) in
    let sr : (j : ℕ) → r j < 256 = λ j. bit_times_byte (n % 4 / 2) (get_or c j 0) (omega arith) (hc.bytes j) in
    let ss : (j : ℕ) → s j < 256 = λ j. bit_times_byte (n % 4 % 2) (get_or d j 0) (omega arith) (hd.bytes j) in
    let f : ℕ → ℕ = λ (j : ℕ). get_or (table_at t j) n 0 in
    let e : ℕ → ℕ = λ (j : ℕ). bit_xor (bit_xor (p j) (q j)) (bit_xor (r j) (s j)) in
    ap le (same_number_lists (row f) (row e) (length-row f ∙ sym (length-row e)) (λ k l.
    let small : k < 16 = omega (arith, length-row f) in
    row_at f k small ∙ is k small ∙ sym (row_at e k small)))
    ∙ le_row_xor (λ j. bit_xor (p j) (q j)) (λ j. bit_xor (r j) (s j)) (λ j. xor_of_8 (p j) (q j) (sp j) (sq j))
    (λ j. xor_of_8 (r j) (s j) (sr j) (ss j))
    ∙ ap₂ bit_xor (le_row_xor p q sp sq ∙ ap₂ bit_xor (row_times (n / 4 / 2) a ha (omega arith)) (row_times (n / 4 % 2) b hb (omega arith)))
    (le_row_xor r s sr ss ∙ ap₂ bit_xor (row_times (n % 4 / 2) c hc (omega arith)) (row_times (n % 4 % 2) d hd (omega arith)))

-- a word, and x, x^2 and x^3 times the word, mixed by four bits, are the product of the bits and the word
pub mixed_product : (n h x1 x2 x3 : ℕ) → n < 16 → IsMoved 1 h x1 → IsMoved 2 h x2 → IsMoved 1 x2 x3
    → IsBitsProduct 4 n h (mixed n h x1 x2 x3)
mixed_product n h x1 x2 x3 l m1 m2 m3 =
    let high : ℕ = bit_xor (n / 4 / 2 * h) (n / 4 % 2 * x1) in
    let low : ℕ = bit_xor (n % 4 / 2 * x2) (n % 4 % 2 * x3) in
    joined 2 2 n h x2 high low m2 (two_bits_by h x1 (n / 4) m1 (omega arith))
    (product_low 2 (n / 4) (n % 4) n x2 low (omega arith) (two_bits_by x2 x3 (n % 4) m3 (omega arith)))

-- sixteen tables that mix the bytes of a word, and of x, x^2 and x^3 times the word, have the multiples of the word as their
-- entries
pub sixteen_entries : (t : List (List ℕ)) (a b c d : List ℕ) (h x1 x2 x3 n : ℕ) → IsBlock a → IsBlock b → IsBlock c → IsBlock d
    → le a ≡ h → le b ≡ x1 → le c ≡ x2 → le d ≡ x3 → n < 16
    → ((j : ℕ) → j < 16 → get_or (table_at t j) n 0 ≡ mixed n (get_or a j 0) (get_or b j 0) (get_or c j 0) (get_or d j 0))
    → IsMoved 1 h x1 → IsMoved 2 h x2 → IsMoved 1 x2 x3 → IsBitsProduct 4 n h (entry t n)
sixteen_entries t a b c d h x1 x2 x3 n ha hb hc hd ea eb ec ed l is m1 m2 m3 =
    let same : entry t n ≡ mixed n h x1 x2 x3 =
    mixed_entry t a b c d n ha hb hc hd l is
    ∙ ap₂ (λ (p q : ℕ). mixed n p q (le c) (le d)) ea eb ∙ ap₂ (λ (p q : ℕ). mixed n h x1 p q) ec ed in
    subst (IsBitsProduct 4 n h) (sym same) (mixed_product n h x1 x2 x3 l m1 m2 m3)
