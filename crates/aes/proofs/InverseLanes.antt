-- One block in a vector of 16 bytes: lanes, look-ups, and the rows that shifts of columns move.
use Rattle.std.proofs.Common.{◌≡◌, ℕ, zero, suc, ◌+◌, ◌-◌, ◌*◌, ◌/◌, ◌%◌, ◌^◌, ◌<◌, ◌≤◌, Bool, true, false, cond}
use Rattle.std.proofs.Common.{nat_lt, nat_le, List, [], ◌∷◌, ◌++◌, map, get_or, length}
use Rattle.std.proofs.Common.{replicate, refl, sym, ap, ap₂, ◌∙◌, arith, bit_xor, w8, Fits, ltb-true, leb-true, ltb-false, leb-false}
use Rattle.std.proofs.Math.Nat.{mod-lt}
use Rattle.std.proofs.lemmas.List.{get_or-replicate, length-replicate}
use Rattle.std.proofs.lemmas.Simd.{Each1-from_get_or, get_or-zip2}
use Rattle.std.proofs.lemmas.Simd.{get_or_wider, get_or_narrower, get_or-chunk, length-chunk}
use lib.Lanes.{zip2, Each1, chunk, number_l, digits_l}
use Rattle.std.specs.Int.Bits.{xor_zero_r, xor_zero_l, xor_comm, xor_assoc}
use Rattle.aes.specs.Code.Lanes.{HasLanes, row_target}
use Rattle.aes.specs.Code.InverseLanes.{row_below, mix_of}
use Rattle.aes.proofs.FourBlocks.{same_lanes, lane_fits, picked}
use Rattle.aes.proofs.Rows.{four}
use Rattle.aes.proofs.Sums.{xor_exchange}
use Rattle.aes.proofs.Steps.{quad}

-- ---- rows
abbrev sources : List ℕ
sources = 0 ∷ 13 ∷ 10 ∷ 7 ∷ 4 ∷ 1 ∷ 14 ∷ 11 ∷ 8 ∷ 5 ∷ 2 ∷ 15 ∷ 12 ∷ 9 ∷ 6 ∷ 3 ∷ []

abbrev next_sources : List ℕ
next_sources = 1 ∷ 14 ∷ 11 ∷ 4 ∷ 5 ∷ 2 ∷ 15 ∷ 8 ∷ 9 ∷ 6 ∷ 3 ∷ 12 ∷ 13 ∷ 10 ∷ 7 ∷ 0 ∷ []

-- picking lanes at the indices of the code gives each lane that of `row_target`
pub unshifted : (x : List ℕ) → length x ≡ 16
    → HasLanes 16 (map (λ p. get_or (x ++ x) p 0) sources) (λ i. get_or x (row_target i) 0)
unshifted x hx = picked x sources (λ i. row_target i) 16 16 hx refl refl

-- picking lanes at the other indices of the code gives each lane that of the row below
pub unshifted_next : (x : List ℕ) → length x ≡ 16
    → HasLanes 16 (map (λ p. get_or (x ++ x) p 0) next_sources) (λ i. get_or x (row_below 1 (row_target i)) 0)
unshifted_next x hx = picked x next_sources (λ i. row_below 1 (row_target i)) 16 16 hx refl refl

-- the number that four bytes spell
abbrev word : ℕ → ℕ → ℕ → ℕ → ℕ
word a b c d = a + 256 * (b + 256 * (c + 256 * (d + 0)))

-- byte r of a word that is shifted right by two bytes is byte r + 2, or 0
shifted_right : (a b c d r : ℕ) → a < 256 × (b < 256) × (c < 256) × (d < 256) → r < 4
    → word a b c d / 2 ^ 16 / 256 ^ r % 256 ≡ cond (nat_lt (r + 2) 4) (get_or (a ∷ b ∷ c ∷ d ∷ []) (r + 2) 0) 0
shifted_right a b c d zero h hr = omega (arith, h.0, h.1, h.2, h.3)
shifted_right a b c d (suc zero) h hr = omega (arith, h.0, h.1, h.2, h.3)
shifted_right a b c d (suc (suc zero)) h hr = omega (arith, h.0, h.1, h.2, h.3)
shifted_right a b c d (suc (suc (suc zero))) h hr = omega (arith, h.0, h.1, h.2, h.3)
shifted_right a b c d (suc (suc (suc (suc r)))) h hr = absurd (omega arith)

-- byte r of a word that is shifted left by two bytes is byte r - 2, or 0
shifted_left : (a b c d r : ℕ) → a < 256 × (b < 256) × (c < 256) × (d < 256) → r < 4
    → word a b c d * 2 ^ 16 % 2 ^ 32 / 256 ^ r % 256 ≡ cond (nat_le 2 r) (get_or (a ∷ b ∷ c ∷ d ∷ []) (r - 2) 0) 0
shifted_left a b c d zero h hr = omega (arith, h.0, h.1, h.2, h.3)
shifted_left a b c d (suc zero) h hr = omega (arith, h.0, h.1, h.2, h.3)
shifted_left a b c d (suc (suc zero)) h hr = omega (arith, h.0, h.1, h.2, h.3)
shifted_left a b c d (suc (suc (suc zero))) h hr = omega (arith, h.0, h.1, h.2, h.3)
shifted_left a b c d (suc (suc (suc (suc r)))) h hr = absurd (omega arith)

-- each lane of a vector of bytes is below 256, as `get_or_wider` asks for
below_256 : (v : List ℕ) → Each1 (Fits w8) v → Each1 (λ x. x < 256) v
below_256 [] h = h
below_256 (x ∷ xs) h = (h.0.fits, below_256 xs h.1)

-- column j of a vector is the number that its four bytes spell
column_is : (x : List ℕ) (j : ℕ) → length x ≡ 16 → Each1 (Fits w8) x → j < 4
    → get_or (digits_l (2 ^ 32) 4 (number_l 256 x)) j 0
    ≡ word (get_or x (4 * j + 0) 0) (get_or x (4 * j + 1) 0) (get_or x (4 * j + 2) 0) (get_or x (4 * j + 3) 0)
column_is x j hx fits l =
    let bytes : List ℕ = chunk (4 * j) 4 x in
    let long : length bytes ≡ 4 = length-chunk (4 * j) 4 x (omega arith) in
    get_or_wider 256 4 (2 ^ 32) 4 x j refl (below_256 x fits) l
    ∙ ap (number_l 256) (sym (quad bytes long)
    ∙ four (get_or-chunk (4 * j) 4 x 0 0 (omega arith)) (get_or-chunk (4 * j) 4 x 1 0 (omega arith))
    (get_or-chunk (4 * j) 4 x 2 0 (omega arith)) (get_or-chunk (4 * j) 4 x 3 0 (omega arith)))

-- the four bytes of a column are below 256
column_small : (x : List ℕ) (j : ℕ) → Each1 (Fits w8) x
    → get_or x (4 * j + 0) 0 < 256 × (get_or x (4 * j + 1) 0 < 256) × (get_or x (4 * j + 2) 0 < 256)
    × (get_or x (4 * j + 3) 0 < 256)
column_small x j fits = (
  lane_fits x (4 * j + 0) fits,
  lane_fits x (4 * j + 1) fits,
  lane_fits x (4 * j + 2) fits,
  lane_fits x (4 * j + 3) fits,
)

-- an operator on columns, as numbers, gives byte k the byte of that number
columns : (g : ℕ → ℕ → ℕ) (n : ℕ) (x : List ℕ) → length x ≡ 16 → Each1 (Fits w8) x
    → ((w : ℕ) → w < 2 ^ 32 → g w n < 2 ^ 32) → (k : ℕ) → k < 16
    → get_or (digits_l 256 16 (number_l (2 ^ 32) (zip2 g (digits_l (2 ^ 32) 4 (number_l 256 x)) (replicate 4 n)))) k 0
    ≡ g (word (get_or x (4 * (k / 4) + 0) 0) (get_or x (4 * (k / 4) + 1) 0) (get_or x (4 * (k / 4) + 2) 0)
    (get_or x (4 * (k / 4) + 3) 0)) n / 256 ^ (k % 4) % 256
columns g n x hx fits small k l =
    let ws : List ℕ = zip2 g (digits_l (2 ^ 32) 4 (number_l 256 x)) (replicate 4 n) in
    let at : (j : ℕ) → j < 4 → get_or ws j 0
    ≡ g (word (get_or x (4 * j + 0) 0) (get_or x (4 * j + 1) 0) (get_or x (4 * j + 2) 0) (get_or x (4 * j + 3) 0)) n =
    λ j h. get_or-zip2 g (digits_l (2 ^ 32) 4 (number_l 256 x)) (replicate 4 n) j 0 0 0 h h
    ∙ ap₂ g (column_is x j hx fits h) (get_or-replicate {A = ℕ} 4 j n 0 h) in
    let within : Each1 (λ w. w < 2 ^ 32) ws =
    Each1-from_get_or (λ w. w < 2 ^ 32) ws 0 (λ j h.
    let c = column_small x j fits in
    rw (at j h) (small _ (omega (arith, c.0, c.1, c.2, c.3)))) in
    let place : k ≡ 4 * (k / 4) + k % 4 = omega arith in
    ap (λ (i : ℕ). get_or (digits_l 256 16 (number_l (2 ^ 32) ws)) i 0) place
    ∙ get_or_narrower (2 ^ 32) 4 256 16 ws (k / 4) (k % 4) refl within (omega arith) (omega arith)
    ∙ ap (λ (w : ℕ). w / 256 ^ (k % 4) % 256) (at (k / 4) (omega arith))

-- byte i of a column is byte b + i of the vector, where b is the place of the column
column_byte : (x : List ℕ) (b i : ℕ) → i < 4
    → get_or (get_or x (b + 0) 0 ∷ get_or x (b + 1) 0 ∷ get_or x (b + 2) 0 ∷ get_or x (b + 3) 0 ∷ []) i 0
    ≡ get_or x (b + i) 0
column_byte x b zero h = refl
column_byte x b (suc zero) h = refl
column_byte x b (suc (suc zero)) h = refl
column_byte x b (suc (suc (suc zero))) h = refl
column_byte x b (suc (suc (suc (suc i)))) h = absurd (omega arith)

-- two values under a condition are equal if they are where it holds
cond_same : (b : Bool) (p q : ℕ) → (b ≡ true → p ≡ q) → cond b p 0 ≡ cond b q 0
cond_same true p q h = h refl
cond_same false p q h = refl

-- the lane two rows below in its column, or 0
abbrev pub up : List ℕ → ℕ → ℕ
up x i = cond (nat_lt (i % 4 + 2) 4) (get_or x (i + 2) 0) 0

-- the lane two rows above in its column, or 0
abbrev pub down : List ℕ → ℕ → ℕ
down x i = cond (nat_le 2 (i % 4)) (get_or x (i - 2) 0) 0

-- columns that are shifted right by two bytes give each lane the lane two rows below, or 0
pub up_sixteen : (x : List ℕ) → length x ≡ 16 → Each1 (Fits w8) x
    → HasLanes 16
    (digits_l 256 16 (number_l (2 ^ 32) (zip2 (λ a b. a / 2 ^ b) (digits_l (2 ^ 32) 4 (number_l 256 x)) (replicate 4 16))))
    (up x)
up_sixteen x hx fits = record {
  long = refl;
  each = λ k l.
      columns (λ a b. a / 2 ^ b) 16 x hx fits (λ w h. omega arith) k l
      ∙ shifted_right _ _ _ _ (k % 4) (column_small x (k / 4) fits) (omega arith)
      ∙ cond_same (nat_lt (k % 4 + 2) 4) _ _ (λ e.
      let below : k % 4 + 2 < 4 = ltb-true (k % 4 + 2) 4 e in
      let place : 4 * (k / 4) + (k % 4 + 2) ≡ k + 2 = omega arith in
      column_byte x (4 * (k / 4)) (k % 4 + 2) below ∙ ap (λ (i : ℕ). get_or x i 0) place);
}

-- columns that are shifted left by two bytes give each lane the lane two rows above, or 0
pub down_sixteen : (x : List ℕ) → length x ≡ 16 → Each1 (Fits w8) x
    → HasLanes 16
    (digits_l 256 16 (number_l (2 ^ 32)
    (zip2 (λ a b. a * 2 ^ b % 2 ^ 32) (digits_l (2 ^ 32) 4 (number_l 256 x)) (replicate 4 16))))
    (down x)
down_sixteen x hx fits = record {
  long = refl;
  each = λ k l.
      columns (λ a b. a * 2 ^ b % 2 ^ 32) 16 x hx fits (λ w h. mod-lt (w * 2 ^ 16) (omega arith)) k l
      ∙ shifted_left _ _ _ _ (k % 4) (column_small x (k / 4) fits) (omega arith)
      ∙ cond_same (nat_le 2 (k % 4)) _ _ (λ e.
      let above : 2 ≤ k % 4 = leb-true 2 (k % 4) e in
      let place : 4 * (k / 4) + (k % 4 - 2) ≡ k - 2 = omega arith in
      column_byte x (4 * (k / 4)) (k % 4 - 2) (omega arith) ∙ ap (λ (i : ℕ). get_or x i 0) place);
}

-- a vector of one number in each lane holds that number
pub splat_lanes : (n : ℕ) → HasLanes 16 (replicate 16 n) (λ i. n)
splat_lanes n = record { long = length-replicate 16 n; each = λ k l. get_or-replicate {A = ℕ} 16 k n 0 l }

-- a vector of 16 lanes holds its own lanes
pub own_lanes : (v : List ℕ) → length v ≡ 16 → HasLanes 16 v (λ i. get_or v i 0)
own_lanes v long = record { long = long; each = λ k l. refl }

-- ---- rotations of columns by two rows, in two parts
-- one of the two parts is the lane two rows below, around the end, and the other is 0
both_parts : (x : List ℕ) (i : ℕ) → i < 16 → (p q : Bool) → nat_lt (i % 4 + 2) 4 ≡ p → nat_le 2 (i % 4) ≡ q
    → bit_xor (cond p (get_or x (i + 2) 0) 0) (cond q (get_or x (i - 2) 0) 0) ≡ get_or x (row_below 2 i) 0
both_parts x i l true true e f =
    let above : i % 4 + 2 < 4 = ltb-true (i % 4 + 2) 4 e in
    let below : 2 ≤ i % 4 = leb-true 2 (i % 4) f in
    absurd (omega arith)
both_parts x i l true false e f =
    let above : i % 4 + 2 < 4 = ltb-true (i % 4 + 2) 4 e in
    let place : i + 2 ≡ row_below 2 i = omega arith in
    xor_zero_r (get_or x (i + 2) 0) ∙ ap (λ (k : ℕ). get_or x k 0) place
both_parts x i l false true e f =
    let below : 2 ≤ i % 4 = leb-true 2 (i % 4) f in
    let place : i - 2 ≡ row_below 2 i = omega arith in
    xor_zero_l (get_or x (i - 2) 0) ∙ ap (λ (k : ℕ). get_or x k 0) place
both_parts x i l false false e f =
    let above : 4 ≤ i % 4 + 2 = ltb-false (i % 4 + 2) 4 e in
    let below : i % 4 < 2 = leb-false 2 (i % 4) f in
    absurd (omega arith)

-- lanes to which the two parts are added one after the other have the lane two rows below added to them
pub turned : (v a y : List ℕ) → HasLanes 16 v (λ i. bit_xor (bit_xor (get_or a i 0) (up y i)) (down y i))
    → HasLanes 16 v (λ i. bit_xor (get_or a i 0) (get_or y (row_below 2 i) 0))
turned v a y made =
    same_lanes v made (λ i l.
    xor_assoc (get_or a i 0) (up y i) (down y i)
    ∙ ap (bit_xor (get_or a i 0)) (both_parts y i l (nat_lt (i % 4 + 2) 4) (nat_le 2 (i % 4)) refl refl))

-- the sum of four terms, from the sums of two pairs of them, one with a key
paired : (a b c d k : ℕ) → bit_xor (bit_xor b d) (bit_xor (bit_xor a c) k) ≡ bit_xor (mix_of a b c d) k
paired a b c d k =
    sym (xor_assoc (bit_xor b d) (bit_xor a c) k)
    ∙ ap (λ (z : ℕ). bit_xor z k)
    (xor_comm (bit_xor b d) (bit_xor a c) ∙ xor_exchange a c b d ∙ xor_assoc a b (bit_xor c d))

-- lanes that are the sums of two pairs, picked after they were made, and of a key are the sums of the rows that InvMixColumns
-- adds, and of the key
pub mixed_rows : (v next own y z a b c d k : List ℕ)
    → HasLanes 16 v (λ i. bit_xor (get_or next i 0) (bit_xor (get_or own i 0) (get_or k i 0)))
    → HasLanes 16 next (λ i. get_or y (row_below 1 (row_target i)) 0)
    → HasLanes 16 own (λ i. get_or z (row_target i) 0)
    → HasLanes 16 y (λ i. bit_xor (get_or b i 0) (get_or d (row_below 2 i) 0))
    → HasLanes 16 z (λ i. bit_xor (get_or a i 0) (get_or c (row_below 2 i) 0))
    → HasLanes 16 v (λ i. bit_xor (mix_of (get_or a (row_target i) 0) (get_or b (row_below 1 (row_target i)) 0)
    (get_or c (row_below 2 (row_target i)) 0) (get_or d (row_below 3 (row_target i)) 0)) (get_or k i 0))
mixed_rows v next own y z a b c d k made hn ho hy hz =
    same_lanes v made (λ i l.
    let small : row_target i < 16 = omega arith in
    let one : row_below 1 (row_target i) < 16 = omega arith in
    let three : row_below 2 (row_below 1 (row_target i)) ≡ row_below 3 (row_target i) = omega arith in
    ap₂ bit_xor
    (hn.each i l ∙ hy.each (row_below 1 (row_target i)) one
    ∙ ap (λ (p : ℕ). bit_xor (get_or b (row_below 1 (row_target i)) 0) (get_or d p 0)) three)
    (ap (λ (z : ℕ). bit_xor z (get_or k i 0)) (ho.each i l ∙ hz.each (row_target i) small))
    ∙ paired (get_or a (row_target i) 0) (get_or b (row_below 1 (row_target i)) 0)
    (get_or c (row_below 2 (row_target i)) 0) (get_or d (row_below 3 (row_target i)) 0) (get_or k i 0))
