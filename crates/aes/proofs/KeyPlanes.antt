-- Round keys in planes of bits.
use Rattle.std.proofs.Common.{◌≡◌, ℕ, zero, suc, ◌+◌, ◌-◌, ◌/◌, ◌%◌, ◌^◌, ◌<◌, true, ◌&&◌, ◌==◌, ltb, List, []}
use Rattle.std.proofs.Common.{◌∷◌, ◌++◌, map, get_or, length, replicate, refl, sym, ap, ◌∙◌, arith, bit_and}
use Rattle.std.proofs.Common.{ltb-true}
use Rattle.std.specs.Int.{bit_at}
use Rattle.std.proofs.lemmas.Nat.Bits.{bit_at-zero, bit_at_ones, bit_at-lt, shr_and_one}
use Rattle.std.proofs.lemmas.Bool.{and_parts, eqb-true}
use Rattle.std.proofs.lemmas.List.{get_or-map, get_or-replicate, length-replicate, get_or_append_left, append-nil}
use Rattle.std.proofs.lemmas.Simd.{length-zip2, get_or-zip2}
use lib.Lanes.{zip2, Each1}
use mir.Val.{Fits}
use mir.Syntax.{w8}
use Rattle.std.specs.Int.{from_le_bytes, to_le_bytes, w128}
use Rattle.octets.proofs.Numbers.{le_padded, le_word}
use Rattle.aes.proofs.FourBlocks.{lane_fits}
use Rattle.aes.specs.Code.Planes.{spot, word_byte}
use Rattle.aes.specs.Code.Planes.{HoldsLanes, HoldsWords, masked_byte}
use Rattle.aes.proofs.SixteenBlocks.{same_bytes}
use Rattle.aes.proofs.Tested.{all_below, all_below_at}

-- an operator on sixteen lanes and one number in each lane acts on each lane with that number
pub number_lane : (f : ℕ → ℕ → ℕ) (x : List ℕ) (n i : ℕ) → length x ≡ 16 → i < 16
    → get_or (zip2 f x (replicate 16 n)) i 0 ≡ f (get_or x i 0) n
number_lane f x n i hx h =
    let long = length-replicate {A = ℕ} 16 n in
    get_or-zip2 f x (replicate 16 n) i 0 0 0 (omega arith) (omega arith)
    ∙ ap (f (get_or x i 0)) (get_or-replicate {A = ℕ} 16 i n 0 h)

long_number : (f : ℕ → ℕ → ℕ) (x : List ℕ) (n : ℕ) → length x ≡ 16 → length (zip2 f x (replicate 16 n)) ≡ 16
long_number f x n hx = length-zip2 f x (replicate 16 n) (hx ∙ sym (length-replicate {A = ℕ} 16 n)) ∙ hx

-- a vector whose lanes are picked from sixteen at places has the lanes of those places
picked : (x ps : List ℕ) (f : ℕ → ℕ) (n l : ℕ) → length x ≡ 16 → length ps ≡ n → l < n
    → all_below (λ i. (get_or ps i 0 == f i) && ltb (get_or ps i 0) 16) n ≡ true
    → get_or (map (λ p. get_or (x ++ x) p 0) ps) l 0 ≡ get_or x (f l) 0
picked x ps f n l hx hp h test =
    let both = and_parts (get_or ps l 0 == f l) (ltb (get_or ps l 0) 16)
    (all_below_at (λ i. (get_or ps i 0 == f i) && ltb (get_or ps i 0) 16) n l test h) in
    let small : get_or ps l 0 < 16 = ltb-true (get_or ps l 0) 16 both.1 in
    get_or-map (λ p. get_or (x ++ x) p 0) ps l 0 0 (omega arith)
    ∙ get_or_append_left x x 0 (get_or ps l 0) (omega arith)
    ∙ ap (λ p. get_or x p 0) (eqb-true (get_or ps l 0) (f l) both.0)

-- the places of the bytes of a block, row by row
abbrev row_places : List ℕ
row_places = 0 ∷ 4 ∷ 8 ∷ 12 ∷ 1 ∷ 5 ∷ 9 ∷ 13 ∷ 2 ∷ 6 ∷ 10 ∷ 14 ∷ 3 ∷ 7 ∷ 11 ∷ 15 ∷ []

rows_computed : all_below (λ i. (get_or row_places i 0 == spot i) && ltb (get_or row_places i 0) 16) 16 ≡ true
rows_computed = refl

-- picking lanes at `row_places` gives each lane that of `spot`
pub rows_lane : (x : List ℕ) (l : ℕ) → length x ≡ 16 → l < 16
    → get_or (map (λ p. get_or (x ++ x) p 0) row_places) l 0 ≡ get_or x (spot l) 0
rows_lane x l hx h = picked x row_places spot 16 l hx refl h rows_computed

-- 0 - b in a byte has the bit b at every place
full_bit : (b k : ℕ) → b < 2 → k < 8 → bit_at ((0 + (2 ^ 8 - b)) % 2 ^ 8) k ≡ b
full_bit zero k hb hk = bit_at-zero k
full_bit (suc zero) k hb hk = bit_at_ones 8 k hk
full_bit (suc (suc b)) k hb hk = absurd (omega arith)

-- bit j of each byte, repeated over all bits of its lane
abbrev pub full : List ℕ → ℕ → List ℕ
full x j =
    zip2 (λ a b. (a + (2 ^ 8 - b)) % 2 ^ 8) (replicate 16 0)
    (zip2 bit_and (zip2 (λ a b. a / 2 ^ b) x (replicate 16 j)) (replicate 16 1))

pub full_long : (x : List ℕ) (j : ℕ) → length x ≡ 16 → length (full x j) ≡ 16
full_long x j hx =
    let low = zip2 bit_and (zip2 (λ (a b : ℕ). a / 2 ^ b) x (replicate 16 j)) (replicate 16 1) in
    let long : length low ≡ 16 = long_number bit_and (zip2 (λ a b. a / 2 ^ b) x (replicate 16 j)) 1
    (long_number (λ a b. a / 2 ^ b) x j hx) in
    length-zip2 (λ a b. (a + (2 ^ 8 - b)) % 2 ^ 8) (replicate 16 0) low (length-replicate {A = ℕ} 16 0 ∙ sym long)
    ∙ length-replicate {A = ℕ} 16 0

full_at : (x : List ℕ) (j i : ℕ) → length x ≡ 16 → i < 16
    → get_or (full x j) i 0 ≡ (0 + (2 ^ 8 - bit_at (get_or x i 0) j)) % 2 ^ 8
full_at x j i hx h =
    let down = zip2 (λ (a b : ℕ). a / 2 ^ b) x (replicate 16 j) in
    let low = zip2 bit_and down (replicate 16 1) in
    let down_long : length down ≡ 16 = long_number (λ a b. a / 2 ^ b) x j hx in
    let long : length low ≡ 16 = long_number bit_and down 1 down_long in
    let none = length-replicate {A = ℕ} 16 0 in
    get_or-zip2 (λ a b. (a + (2 ^ 8 - b)) % 2 ^ 8) (replicate 16 0) low i 0 0 0 (omega arith) (omega arith)
    ∙ ap (λ a. (a + (2 ^ 8 - get_or low i 0)) % 2 ^ 8) (get_or-replicate {A = ℕ} 16 i 0 0 h)
    ∙ ap (λ b. (0 + (2 ^ 8 - b)) % 2 ^ 8) (number_lane bit_and down 1 i down_long h
    ∙ ap (λ a. bit_and a 1) (number_lane (λ a b. a / 2 ^ b) x j i hx h) ∙ shr_and_one (get_or x i 0) j)

pub plane_bits : (x : List ℕ) (j : ℕ) → length x ≡ 16 → (l k : ℕ) → l < 16 → k < 8
    → bit_at (get_or (full x j) l 0) k ≡ bit_at (get_or x l 0) j
plane_bits x j hx l k hl hk =
    ap (λ n. bit_at n k) (full_at x j l hx hl) ∙ full_bit (bit_at (get_or x l 0) j) k (bit_at-lt (get_or x l 0) j) hk

-- the bytes of the number that a vector of bytes spells are the vector
pub written_back : (v : List ℕ) (n : ℕ) → length v ≡ 16 → Each1 (Fits w8) v → n ≡ from_le_bytes w128 v
    → to_le_bytes w128 n ≡ v
written_back v n long fits read =
    let none : 16 - length v ≡ 0 = omega arith in
    ap (to_le_bytes w128) (read ∙ sym (le_word v long)) ∙ le_padded v (omega arith) (λ i. lane_fits v i fits)
    ∙ ap (λ (m : ℕ). v ++ replicate m 0) none ∙ append-nil v

-- a lane and the same lane of the first half have the same place
pub spot_half : (l : ℕ) → spot (l % 16) ≡ spot l
spot_half l = omega arith

-- planes of a key's bytes, row by row, hold the bytes of round key 0
pub first_key : (v : List (List ℕ)) (key bytes : List ℕ) (ws : List (List ℕ))
    → HoldsLanes 16 v (λ l k. get_or key l 0)
    → ((l : ℕ) → l < 16 → get_or key l 0 ≡ get_or bytes (spot l) 0)
    → ((i : ℕ) → i < 16 → get_or bytes i 0 ≡ word_byte ws 0 i) → HoldsLanes 16 v (λ l k. word_byte ws 0 (spot l))
first_key v key bytes ws held rows words =
    same_bytes v held (λ l k hl hk. rows l hl ∙ words (spot l) (omega arith))

-- planes of lanes hold what the lanes are
pub key_held : (v : List (List ℕ)) (key : List ℕ) (f : ℕ → ℕ) → HoldsLanes 16 v (λ l k. get_or key l 0)
    → ((l : ℕ) → l < 16 → get_or key l 0 ≡ f l) → HoldsLanes 16 v (λ l k. f l)
key_held v key f held is = same_bytes v held (λ l k hl hk. is l hl)

-- the round keys before round key n, in planes
pub record PlanesBegun (keys : List (List ℕ)) (ws : List (List ℕ)) (n : ℕ) : Type 0 where
  pub first : HoldsWords (get_or keys 0 []) (λ l k. word_byte ws 0 (spot l))
  pub middle : (k : ℕ) → 0 < k → k < n → HoldsWords (get_or keys k []) (λ l i. masked_byte ws k (spot l))
