-- The first round of blocks that differ in one byte alone.
use Rattle.std.proofs.Common.{◌≡◌, ◌⊎◌, ℕ, zero, suc, ◌+◌, ◌-◌, ◌*◌, ◌/◌, ◌%◌, ◌^◌, ◌<◌, Bool, true, false, cond, ◌&&◌, ◌==◌}
use Rattle.std.proofs.Common.{ltb, List, [], ◌∷◌, ◌++◌, map, get_or, length, replicate, refl, sym, ap, ap₂, ◌∙◌, arith, bit_xor}
use Rattle.std.proofs.Common.{inl, inr, subst, slice_set}
use Rattle.std.specs.Int.{bit_at}
use Rattle.std.specs.Int.Bits.{xor_zero_l, xor_zero_r, xor_assoc, xor_comm}
use Rattle.std.proofs.lemmas.Bool.{eqb-true, eqb-false, cases_lt, cases_eq}
use Rattle.std.proofs.lemmas.Nat.Bits.{bit_at-zero}
use Rattle.std.proofs.lemmas.List.{get_or-replicate, get_or_append_left, get_or-append-add, get_or_past, length-map}
use Rattle.std.proofs.lemmas.List.{get_or-set_same, get_or-set_other, length-set}
use Rattle.std.proofs.lemmas.Nat.{xor_of_8}
use Rattle.std.proofs.lemmas.Simd.{get_or-zip2, length-zip2}
use lib.Lanes.{zip2, put_chunk}
use Rattle.octets.specs.Bytes.{IsBlock}
use Rattle.octets.specs.Polynomial.{product, residue}
use Rattle.aes.specs.Field.{times, sbox, affine, inverse}
use Rattle.aes.specs.Cipher.{sub_bytes, shift_rows, mix_columns, add_round_key, rounds}
use Rattle.aes.specs.Code.FirstRound.{share}
use Rattle.aes.specs.Code.Lanes.{linear_sbox, key_byte, row_source, row_below}
use Rattle.aes.specs.declared.first_round.TheConstants.{EIGHTS, FIRST_COLUMNS}
use Rattle.aes.proofs.Tested.{all_below, all_below_at, eight_cases}
use Rattle.aes.proofs.Sums.{times_xor, times_zero, xor_exchange}
use Rattle.aes.proofs.Multiples.{single_is}
use Rattle.aes.proofs.FourRounds.{mixed, added_byte}
use Rattle.aes.specs.Code.Planes.{word_byte}
use Rattle.aes.proofs.Steps.{AreWords}
use Rattle.aes.proofs.Expanded.{rounds_start}
use Rattle.aes.proofs.Permutation.{rounds_block}
use Rattle.aes.proofs.FourBlocks.{linear_small}
use Rattle.aes.proofs.Loads.{picked_two}
use Rattle.aes.proofs.SixteenBlocks.{one_round}

-- a predicate that holds of 0 to 3 holds of each number below 4
pub four_cases : (P : ℕ → Type 0) → P 0 → P 1 → P 2 → P 3 → (r : ℕ) → r < 4 → P r
four_cases P a b c d zero h = a
four_cases P a b c d (suc zero) h = b
four_cases P a b c d (suc (suc zero)) h = c
four_cases P a b c d (suc (suc (suc zero))) h = d
four_cases P a b c d (suc (suc (suc (suc r)))) h = absurd (omega arith)

-- ---- the values of the byte that differs
eights_computed : all_below (λ l. get_or EIGHTS l 0 == 8 * l) 32 ≡ true
eights_computed = refl

pub counted_lane : (first key k l : ℕ) → l < 32
    → get_or (zip2 bit_xor (zip2 (λ a b. (a + b) % 2 ^ 8) EIGHTS (replicate 32 ((first + k) % 256))) (replicate 32 key)) l 0
    ≡ bit_xor ((first + (8 * l + k)) % 256) key
counted_lane first key k l h =
    let base : List ℕ = replicate 32 ((first + k) % 256) in
    let sums : List ℕ = zip2 (λ (a b : ℕ). (a + b) % 2 ^ 8) EIGHTS base in
    let whole : (8 * l + (first + k) % 256) % 256 ≡ (first + (8 * l + k)) % 256 = omega arith in
    get_or-zip2 bit_xor sums (replicate 32 key) l 0 0 0 h h
    ∙ ap₂ bit_xor
    (get_or-zip2 (λ (a b : ℕ). (a + b) % 2 ^ 8) EIGHTS base l 0 0 0 h h
    ∙ ap₂ (λ (a b : ℕ). (a + b) % 256)
    (eqb-true (get_or EIGHTS l 0) (8 * l) (all_below_at (λ l. get_or EIGHTS l 0 == 8 * l) 32 l eights_computed h))
    (get_or-replicate {A = ℕ} 32 l ((first + k) % 256) 0 h) ∙ whole)
    (get_or-replicate {A = ℕ} 32 l key 0 h)

-- ---- vectors whose lanes are taken in turn
-- a list of four whose items are all written
pub set_four : {A : Type 0} (xs : List A) (a b c d : A) → length xs ≡ 4
    → slice_set (slice_set (slice_set (slice_set xs 0 a) 1 b) 2 c) 3 d ≡ a ∷ b ∷ c ∷ d ∷ []
set_four [] a b c d h = absurd (omega arith)
set_four (s ∷ []) a b c d h = absurd (omega arith)
set_four (s ∷ t ∷ []) a b c d h = absurd (omega arith)
set_four (s ∷ t ∷ u ∷ []) a b c d h = absurd (omega arith)
set_four (s ∷ t ∷ u ∷ v ∷ []) a b c d h = refl
set_four (s ∷ t ∷ u ∷ v ∷ w ∷ xs) a b c d h = absurd (omega arith)

-- a list that is written as a whole
pub filled : (xs ys : List ℕ) → length xs ≡ length ys → put_chunk 0 xs ys ≡ ys
filled [] [] h = refl
filled [] (y ∷ ys) h = absurd (omega arith)
filled (x ∷ xs) [] h = absurd (omega arith)
filled (x ∷ xs) (y ∷ ys) h = ap (λ (l : List ℕ). y ∷ l) (filled xs ys (omega arith))

-- a list of eight whose items are all written
pub set_eight : {A : Type 0} (xs : List A) (a b c d e f g i : A) → length xs ≡ 8
    → slice_set (slice_set (slice_set (slice_set (slice_set (slice_set (slice_set (slice_set xs 0 a) 1 b) 2 c) 3 d) 4 e) 5 f) 6 g)
    7 i ≡ a ∷ b ∷ c ∷ d ∷ e ∷ f ∷ g ∷ i ∷ []
set_eight [] a b c d e f g i h = absurd (omega arith)
set_eight (s ∷ []) a b c d e f g i h = absurd (omega arith)
set_eight (s ∷ t ∷ []) a b c d e f g i h = absurd (omega arith)
set_eight (s ∷ t ∷ u ∷ []) a b c d e f g i h = absurd (omega arith)
set_eight (s ∷ t ∷ u ∷ v ∷ []) a b c d e f g i h = absurd (omega arith)
set_eight (s ∷ t ∷ u ∷ v ∷ w ∷ []) a b c d e f g i h = absurd (omega arith)
set_eight (s ∷ t ∷ u ∷ v ∷ w ∷ x ∷ []) a b c d e f g i h = absurd (omega arith)
set_eight (s ∷ t ∷ u ∷ v ∷ w ∷ x ∷ y ∷ []) a b c d e f g i h = absurd (omega arith)
set_eight (s ∷ t ∷ u ∷ v ∷ w ∷ x ∷ y ∷ z ∷ []) a b c d e f g i h = refl
set_eight (s ∷ t ∷ u ∷ v ∷ w ∷ x ∷ y ∷ z ∷ r ∷ xs) a b c d e f g i h = absurd (omega arith)

-- the lanes 2 i and 2 i + 1 of two vectors in turn, from their lane o on, are lane o + i of the first and of the second
turn : (x y ps : List ℕ) (o i b : ℕ) → length x ≡ 16 → length y ≡ 16 → length ps ≡ 16 → o + i < 16 → i < 8 → b < 2
    → all_below (λ i. (get_or ps i 0 == i % 2 * 16 + (o + i / 2)) && ltb (get_or ps i 0) 32) 16 ≡ true
    → get_or (map (λ p. get_or (x ++ y) p 0) ps) (2 * i + b) 0 ≡ get_or (cond (b == 0) x y) (o + i) 0
turn x y ps o i zero hx hy hp ho hi hb test =
    let place : (2 * i + 0) % 2 * 16 + (o + (2 * i + 0) / 2) ≡ o + i = omega arith in
    picked_two x y ps (λ l. l % 2 * 16 + (o + l / 2)) 16 16 (2 * i + 0) hx hy hp (omega arith) test
    ∙ ap (λ (q : ℕ). get_or (x ++ y) q 0) place ∙ get_or_append_left x y 0 (o + i) (omega arith)
turn x y ps o i (suc zero) hx hy hp ho hi hb test =
    let place : (2 * i + 1) % 2 * 16 + (o + (2 * i + 1) / 2) ≡ length x + (o + i) = omega arith in
    picked_two x y ps (λ l. l % 2 * 16 + (o + l / 2)) 16 16 (2 * i + 1) hx hy hp (omega arith) test
    ∙ ap (λ (q : ℕ). get_or (x ++ y) q 0) place ∙ get_or-append-add x y (o + i) 0
turn x y ps o i (suc (suc b)) hx hy hp ho hi hb test = absurd (omega arith)

-- the places of the first 8 lanes of two vectors of 16 lanes in turn, and of the last 8
abbrev pub front_places : List ℕ
front_places = 0 ∷ 16 ∷ 1 ∷ 17 ∷ 2 ∷ 18 ∷ 3 ∷ 19 ∷ 4 ∷ 20 ∷ 5 ∷ 21 ∷ 6 ∷ 22 ∷ 7 ∷ 23 ∷ []

abbrev pub back_places : List ℕ
back_places = 8 ∷ 24 ∷ 9 ∷ 25 ∷ 10 ∷ 26 ∷ 11 ∷ 27 ∷ 12 ∷ 28 ∷ 13 ∷ 29 ∷ 14 ∷ 30 ∷ 15 ∷ 31 ∷ []

-- the lanes of two vectors at these places
abbrev pub taken : List ℕ → List ℕ → List ℕ → List ℕ
taken ps x y = map (λ p. get_or (x ++ y) p 0) ps

-- four vectors in turn, from lane o + e of each on, where the lists take lanes from o and from 2 e on
woven_part : (ps qs : List ℕ) (o e : ℕ) → (a b c d : List ℕ) → length a ≡ 16 → length b ≡ 16 → length c ≡ 16 → length d ≡ 16
    → length ps ≡ 16 → length qs ≡ 16 → o < 9 → e < 5
    → all_below (λ i. (get_or ps i 0 == i % 2 * 16 + (o + i / 2)) && ltb (get_or ps i 0) 32) 16 ≡ true
    → all_below (λ i. (get_or qs i 0 == i % 2 * 16 + (2 * e + i / 2)) && ltb (get_or qs i 0) 32) 16 ≡ true
    → (q r : ℕ) → q < 4 → r < 4
    → get_or (taken qs (taken ps a c) (taken ps b d)) (4 * q + r) 0 ≡ get_or (get_or (a ∷ b ∷ c ∷ d ∷ []) r []) (o + (e + q)) 0
woven_part ps qs o e a b c d ha hb hc hd lp lq ho he tp tq q r hq hr =
    let x : List ℕ = taken ps a c in
    let y : List ℕ = taken ps b d in
    let lx : length x ≡ 16 = length-map ps (λ p. get_or (a ++ c) p 0) ∙ lp in
    let ly : length y ≡ 16 = length-map ps (λ p. get_or (b ++ d) p 0) ∙ lp in
    let all : List ℕ = taken qs x y in
    let e0 : 4 * q + 0 ≡ 2 * (2 * q + 0) + 0 = omega arith in
    let e1 : 4 * q + 1 ≡ 2 * (2 * q + 0) + 1 = omega arith in
    let e2 : 4 * q + 2 ≡ 2 * (2 * q + 1) + 0 = omega arith in
    let e3 : 4 * q + 3 ≡ 2 * (2 * q + 1) + 1 = omega arith in
    let first : 2 * e + (2 * q + 0) ≡ 2 * (e + q) + 0 = omega arith in
    let second : 2 * e + (2 * q + 1) ≡ 2 * (e + q) + 1 = omega arith in
    four_cases (λ r. get_or all (4 * q + r) 0 ≡ get_or (get_or (a ∷ b ∷ c ∷ d ∷ []) r []) (o + (e + q)) 0)
    (ap (λ (i : ℕ). get_or all i 0) e0 ∙ turn x y qs (2 * e) (2 * q + 0) 0 lx ly lq (omega arith) (omega arith) (omega arith) tq
    ∙ ap (λ (i : ℕ). get_or x i 0) first ∙ turn a c ps o (e + q) 0 ha hc lp (omega arith) (omega arith) (omega arith) tp)
    (ap (λ (i : ℕ). get_or all i 0) e1 ∙ turn x y qs (2 * e) (2 * q + 0) 1 lx ly lq (omega arith) (omega arith) (omega arith) tq
    ∙ ap (λ (i : ℕ). get_or y i 0) first ∙ turn b d ps o (e + q) 0 hb hd lp (omega arith) (omega arith) (omega arith) tp)
    (ap (λ (i : ℕ). get_or all i 0) e2 ∙ turn x y qs (2 * e) (2 * q + 1) 0 lx ly lq (omega arith) (omega arith) (omega arith) tq
    ∙ ap (λ (i : ℕ). get_or x i 0) second ∙ turn a c ps o (e + q) 1 ha hc lp (omega arith) (omega arith) (omega arith) tp)
    (ap (λ (i : ℕ). get_or all i 0) e3 ∙ turn x y qs (2 * e) (2 * q + 1) 1 lx ly lq (omega arith) (omega arith) (omega arith) tq
    ∙ ap (λ (i : ℕ). get_or y i 0) second ∙ turn b d ps o (e + q) 1 hb hd lp (omega arith) (omega arith) (omega arith) tp) r hr

-- four lists with four lanes of each vector in turn
abbrev pub woven_lists : List ℕ → List ℕ → List ℕ → List ℕ → List (List ℕ)
woven_lists a b c d =
    taken front_places (taken front_places a c) (taken front_places b d)
    ∷ taken back_places (taken front_places a c) (taken front_places b d)
    ∷ taken front_places (taken back_places a c) (taken back_places b d)
    ∷ taken back_places (taken back_places a c) (taken back_places b d) ∷ []

pub woven_lane : (a b c d : List ℕ) → length a ≡ 16 → length b ≡ 16 → length c ≡ 16 → length d ≡ 16 → (p r : ℕ) → p < 16
    → r < 4 → get_or (get_or (woven_lists a b c d) (p / 4) []) (4 * (p % 4) + r) 0
    ≡ get_or (get_or (a ∷ b ∷ c ∷ d ∷ []) r []) p 0
woven_lane a b c d ha hb hc hd p r hp hr =
    let q : ℕ = p % 4 in
    let hq : q < 4 = omega arith in
    let four : List (List ℕ) = woven_lists a b c d in
    let source : List ℕ = get_or (a ∷ b ∷ c ∷ d ∷ []) r [] in
    let whole : 4 * (p / 4) + q ≡ p = omega arith in
    let e0 : 0 + (0 + q) ≡ 4 * 0 + q = omega arith in
    let e1 : 0 + (4 + q) ≡ 4 * 1 + q = omega arith in
    let e2 : 8 + (0 + q) ≡ 4 * 2 + q = omega arith in
    let e3 : 8 + (4 + q) ≡ 4 * 3 + q = omega arith in
    four_cases (λ i. get_or (get_or four i []) (4 * q + r) 0 ≡ get_or source (4 * i + q) 0)
    (woven_part front_places front_places 0 0 a b c d ha hb hc hd refl refl (omega arith) (omega arith) refl refl q r hq hr
    ∙ ap (λ (i : ℕ). get_or source i 0) e0)
    (woven_part front_places back_places 0 4 a b c d ha hb hc hd refl refl (omega arith) (omega arith) refl refl q r hq hr
    ∙ ap (λ (i : ℕ). get_or source i 0) e1)
    (woven_part back_places front_places 8 0 a b c d ha hb hc hd refl refl (omega arith) (omega arith) refl refl q r hq hr
    ∙ ap (λ (i : ℕ). get_or source i 0) e2)
    (woven_part back_places back_places 8 4 a b c d ha hb hc hd refl refl (omega arith) (omega arith) refl refl q r hq hr
    ∙ ap (λ (i : ℕ). get_or source i 0) e3)
    (p / 4) (omega arith)
    ∙ ap (λ (i : ℕ). get_or source i 0) whole

-- the planes j of four rows are plane j of each row
pub row_plane : (column : List (List (List ℕ))) (j r : ℕ) → r < 4
    → get_or (get_or (get_or column 0 []) j [] ∷ get_or (get_or column 1 []) j [] ∷ get_or (get_or column 2 []) j []
    ∷ get_or (get_or column 3 []) j [] ∷ []) r [] ≡ get_or (get_or column r []) j []
row_plane column j =
    four_cases (λ r. get_or (get_or (get_or column 0 []) j [] ∷ get_or (get_or column 1 []) j [] ∷ get_or (get_or column 2 []) j []
    ∷ get_or (get_or column 3 []) j [] ∷ []) r [] ≡ get_or (get_or column r []) j []) refl refl refl refl

-- ---- the first lanes of the rows
chosen : (b : Bool) (x z : List ℕ) (i : ℕ) → length x ≡ 8 → i < 8 → get_or z 0 0 ≡ 0
    → get_or (x ++ z) (cond b i 8) 0 ≡ cond b (get_or x i 0) 0
chosen true x z i hx hi hz = get_or_append_left x z 0 i (omega arith)
chosen false x z i hx hi hz =
    let place : 8 ≡ length x + 0 = omega arith in
    ap (λ (p : ℕ). get_or (x ++ z) p 0) place ∙ get_or-append-add x z 0 0 ∙ hz

pub first_lane : (x z : List ℕ) (l : ℕ) → length x ≡ 8 → length z ≡ 8 → get_or z 0 0 ≡ 0 → l < 32
    → get_or (map (λ p. get_or (x ++ z) p 0) FIRST_COLUMNS) l 0 ≡ cond (l % 4 == 0) (get_or x (l / 4) 0) 0
first_lane x z l hx hz none hl =
    picked_two x z FIRST_COLUMNS (λ l. cond (l % 4 == 0) (l / 4) 8) 8 32 l hx hz refl hl refl
    ∙ chosen (l % 4 == 0) x z (l / 4) hx (omega arith) none

-- a bit of a chosen number, or 0, is that of another one if the numbers' bits are
pub chosen_bit : (b : Bool) (x y j k : ℕ) → bit_at x k ≡ bit_at y j → bit_at (cond b x 0) k ≡ bit_at (cond b y 0) j
chosen_bit true x y j k same = same
chosen_bit false x y j k same = bit_at-zero k ∙ sym (bit_at-zero j)

-- ---- a round
zero_computed : sbox 0 ≡ 0x63
unfolding sbox affine inverse times residue product
zero_computed = refl

-- the terms of sums may be summed apart
mixed_sum : (a b c d p q r s : ℕ)
    → mixed (bit_xor a p) (bit_xor b q) (bit_xor c r) (bit_xor d s) ≡ bit_xor (mixed a b c d) (mixed p q r s)
mixed_sum a b c d p q r s =
    ap₂ bit_xor (times_xor 2 a p) (ap₂ bit_xor (times_xor 3 b q) (xor_exchange c r d s)
    ∙ xor_exchange (times 3 b) (times 3 q) (bit_xor c d) (bit_xor r s))
    ∙ xor_exchange (times 2 a) (times 2 p) (bit_xor (times 3 b) (bit_xor c d)) (bit_xor (times 3 q) (bit_xor r s))

mixed_none : mixed 0 0 0 0 ≡ 0
mixed_none = ap₂ (λ (a b : ℕ). bit_xor a (bit_xor b 0)) (times_zero 2) (times_zero 3)

mixed_first : (t : ℕ) → mixed t 0 0 0 ≡ times 2 t
mixed_first t = ap (λ (b : ℕ). bit_xor (times 2 t) (bit_xor b 0)) (times_zero 3) ∙ xor_zero_r (times 2 t)

mixed_second : (t : ℕ) → mixed 0 t 0 0 ≡ times 3 t
mixed_second t =
    ap (λ (a : ℕ). bit_xor a (bit_xor (times 3 t) 0)) (times_zero 2) ∙ xor_zero_l (bit_xor (times 3 t) 0)
    ∙ xor_zero_r (times 3 t)

mixed_third : (t : ℕ) → t < 256 → mixed 0 0 t 0 ≡ times 1 t
mixed_third t h =
    ap₂ (λ (a b : ℕ). bit_xor a (bit_xor b (bit_xor t 0))) (times_zero 2) (times_zero 3)
    ∙ xor_zero_l (bit_xor 0 (bit_xor t 0)) ∙ xor_zero_l (bit_xor t 0) ∙ xor_zero_r t ∙ sym (single_is t h)

mixed_fourth : (t : ℕ) → t < 256 → mixed 0 0 0 t ≡ times 1 t
mixed_fourth t h =
    ap₂ (λ (a b : ℕ). bit_xor a (bit_xor b (bit_xor 0 t))) (times_zero 2) (times_zero 3)
    ∙ xor_zero_l (bit_xor 0 (bit_xor 0 t)) ∙ xor_zero_l (bit_xor 0 t) ∙ xor_zero_l t ∙ sym (single_is t h)

-- t if this is the byte at `place`, and else 0
abbrev alone : ℕ → ℕ → ℕ → ℕ
alone place t i = cond (i == place) t 0

-- what the byte at `place` alone adds to byte i after MixColumns
abbrev added_alone : ℕ → ℕ → ℕ → ℕ
added_alone place t i =
    mixed (alone place t (row_source i)) (alone place t (row_source (row_below i)))
    (alone place t (row_source (row_below (row_below i)))) (alone place t (row_source (row_below (row_below (row_below i)))))

-- a predicate that holds of 0 to 7, and of 8 to 15, holds of each number below 16
sixteen_cases : (P : ℕ → Type 0) → ((j : ℕ) → j < 8 → P j) → ((j : ℕ) → j < 8 → P (8 + j)) → (i : ℕ) → i < 16 → P i
sixteen_cases P low high i h =
    elim (cases_lt i 8) [
      | inl l ↦ low i l
      | inr g ↦ let there : 8 + (i - 8) ≡ i = omega arith in subst P there (high (i - 8) (omega arith))
    ]

first_share : (t : ℕ) → t < 256 → (i : ℕ) → i < 16 → added_alone 0 t i ≡ cond (i / 4 == 0) (share 0 (i % 4) t) 0
first_share t ht =
    let P = λ (i : ℕ). added_alone 0 t i ≡ cond (i / 4 == 0) (share 0 (i % 4) t) 0 in
    sixteen_cases P
    (eight_cases P (mixed_first t) (mixed_fourth t ht) (mixed_third t ht) (mixed_second t) mixed_none mixed_none mixed_none
    mixed_none)
    (eight_cases (λ i. P (8 + i)) mixed_none mixed_none mixed_none mixed_none mixed_none mixed_none mixed_none mixed_none)

last_share : (t : ℕ) → t < 256 → (i : ℕ) → i < 16 → added_alone 15 t i ≡ cond (i / 4 == 0) (share 15 (i % 4) t) 0
last_share t ht =
    let P = λ (i : ℕ). added_alone 15 t i ≡ cond (i / 4 == 0) (share 15 (i % 4) t) 0 in
    sixteen_cases P
    (eight_cases P (mixed_fourth t ht) (mixed_third t ht) (mixed_second t) (mixed_first t) mixed_none mixed_none mixed_none
    mixed_none)
    (eight_cases (λ i. P (8 + i)) mixed_none mixed_none mixed_none mixed_none mixed_none mixed_none mixed_none mixed_none)

-- what the byte at `place` alone adds, it adds to the first column
alone_is : (place t i : ℕ) → (place ≡ 0) ⊎ (place ≡ 15) → t < 256 → i < 16
    → added_alone place t i ≡ cond (i / 4 == 0) (share place (i % 4) t) 0
alone_is place t i end ht hi =
    elim end [
      | inl e ↦ subst (λ p. added_alone p t i ≡ cond (i / 4 == 0) (share p (i % 4) t) 0) (sym e) (first_share t ht i hi)
      | inr e ↦ subst (λ p. added_alone p t i ≡ cond (i / 4 == 0) (share p (i % 4) t) 0) (sym e) (last_share t ht i hi)
    ]

-- the S-box value of a byte u is that of v, plus its own without the constant where v is 0
differ : (e : Bool) (u v t : ℕ) → (e ≡ true → v ≡ 0) → (e ≡ true → t ≡ linear_sbox u) → (e ≡ false → u ≡ v)
    → sbox u ≡ bit_xor (sbox v) (cond e t 0)
unfolding linear_sbox
differ true u v t none is same =
    sym (ap₂ (λ (v t : ℕ). bit_xor (sbox v) t) (none refl) (is refl) ∙ ap (λ (w : ℕ). bit_xor w (bit_xor (sbox u) 0x63)) zero_computed
    ∙ xor_comm 0x63 (bit_xor (sbox u) 0x63) ∙ xor_assoc (sbox u) 0x63 0x63 ∙ xor_zero_r (sbox u))
differ false u v t none is same = ap sbox (same refl) ∙ sym (xor_zero_r (sbox v))

-- a block that differs from another in the byte at `place`, which is 0 there, differs after a round in the first column
pub one_apart : (b z : List ℕ) (ws : List (List ℕ)) (place i : ℕ) → (place ≡ 0) ⊎ (place ≡ 15) → IsBlock b → IsBlock z
    → get_or z place 0 ≡ 0 → ((j : ℕ) → j < 16 → (j == place) ≡ false → get_or b j 0 ≡ get_or z j 0) → i < 16
    → get_or (add_round_key ws 0 (mix_columns (shift_rows (sub_bytes b)))) i 0
    ≡ bit_xor (get_or (add_round_key ws 0 (mix_columns (shift_rows (sub_bytes z)))) i 0)
    (cond (i / 4 == 0) (share place (i % 4) (linear_sbox (get_or b place 0))) 0)
one_apart b z ws place i end hb hz none same hi =
    let t : ℕ = linear_sbox (get_or b place 0) in
    let ht : t < 256 = linear_small (get_or b place 0) (hb.bytes place) in
    let p0 : ℕ = row_source i in
    let p1 : ℕ = row_source (row_below i) in
    let p2 : ℕ = row_source (row_below (row_below i)) in
    let p3 : ℕ = row_source (row_below (row_below (row_below i))) in
    let h0 : p0 < 16 = omega arith in
    let h1 : p1 < 16 = omega arith in
    let h2 : p2 < 16 = omega arith in
    let h3 : p3 < 16 = omega arith in
    let at : ℕ → ℕ = λ j. sbox (get_or z j 0) in
    let byte : (j : ℕ) → j < 16 → sbox (get_or b j 0) ≡ bit_xor (at j) (alone place t j) = λ j hj.
    differ (j == place) (get_or b j 0) (get_or z j 0) t
    (λ e. ap (λ (k : ℕ). get_or z k 0) (eqb-true j place e) ∙ none)
    (λ e. ap (λ (k : ℕ). linear_sbox (get_or b k 0)) (sym (eqb-true j place e))) (λ e. same j hj e) in
    let m : ℕ = mixed (at p0) (at p1) (at p2) (at p3) in
    let k : ℕ = key_byte ws i in
    let d : ℕ = cond (i / 4 == 0) (share place (i % 4) t) 0 in
    one_round b ws i hb hi
    ∙ ap (λ (u : ℕ). bit_xor u k) (
    ap₂ bit_xor (ap (times 2) (byte p0 h0)) (ap₂ bit_xor (ap (times 3) (byte p1 h1)) (ap₂ bit_xor (byte p2 h2) (byte p3 h3)))
    ∙ mixed_sum (at p0) (at p1) (at p2) (at p3) (alone place t p0) (alone place t p1) (alone place t p2) (alone place t p3)
    ∙ ap (bit_xor m) (alone_is place t i end ht hi))
    ∙ xor_assoc m d k ∙ ap (bit_xor m) (xor_comm d k) ∙ sym (xor_assoc m k d)
    ∙ ap (λ (u : ℕ). bit_xor u d) (sym (one_round z ws i hz hi))

-- ---- counting blocks
-- the start of the shared round: the sum of a block and the first key, with 0 at `place`
abbrev pub start_of : List ℕ → List ℕ → ℕ → List ℕ
start_of b k place = slice_set (zip2 bit_xor b k) place 0

-- the bytes of the first key are a block
pub key_block : (ws : List (List ℕ)) (k : List ℕ) → AreWords ws → length k ≡ 16
    → ((i : ℕ) → i < 16 → get_or k i 0 ≡ word_byte ws 0 i) → IsBlock k
key_block ws k words long keyed = record {
  length_is = long;
  bytes = λ i. elim (cases_lt i 16) [
    | inl l ↦ rw (keyed i l) (words (4 * 0 + i / 4) (i % 4))
    | inr g ↦ rw (get_or_past k i 0 (omega (arith, g, long))) (omega arith)
  ];
}

pub start_block : (b k : List ℕ) (place : ℕ) → (place ≡ 0) ⊎ (place ≡ 15) → IsBlock b → IsBlock k → IsBlock (start_of b k place)
start_block b k place end hb hk =
    let x : List ℕ = zip2 bit_xor b k in
    let long : length x ≡ 16 = length-zip2 bit_xor b k (hb.length_is ∙ sym hk.length_is) ∙ hb.length_is in
    let size : length (start_of b k place) ≡ 16 = length-set x place 0 ∙ long in
    record {
      length_is = size;
      bytes = λ i. elim (cases_lt i 16) [
        | inl l ↦ elim (cases_eq i place) [
          | inl e ↦ rw (ap (λ (j : ℕ). get_or (start_of b k place) j 0) e
              ∙ get_or-set_same x place 0 0 (omega (arith, long, l, e))) (omega arith)
          | inr e ↦ rw (get_or-set_other x place i 0 0 e ∙ get_or-zip2 bit_xor b k i 0 0 0 (omega (arith, l, hb.length_is))
              (omega (arith, l, hk.length_is))) (xor_of_8 (get_or b i 0) (get_or k i 0) (hb.bytes i) (hk.bytes i))
        ]
        | inr g ↦ rw (get_or_past (start_of b k place) i 0 (omega (arith, g, size))) (omega arith)
      ];
    }

-- byte i before the first round
start_byte : (ws : List (List ℕ)) (s : List ℕ) (i : ℕ) → i < 16
    → get_or (rounds ws 0 s) i 0 ≡ bit_xor (get_or s i 0) (word_byte ws 0 i)
start_byte ws s i h =
    let first : i / 4 ≡ 4 * 0 + i / 4 = omega arith in
    ap (λ (b : List ℕ). get_or b i 0) (rounds_start ws s) ∙ added_byte ws s i h
    ∙ ap (λ (w : ℕ). bit_xor (get_or s i 0) (get_or (get_or ws w []) (i % 4) 0)) first

-- the state after the first round of a block that is n further in the byte at `place`
pub shared_byte : (ws vs : List (List ℕ)) (b k s : List ℕ) (place n i : ℕ) → (place ≡ 0) ⊎ (place ≡ 15) → AreWords ws → IsBlock b
    → IsBlock k → IsBlock s → ((i : ℕ) → i < 16 → get_or k i 0 ≡ word_byte ws 0 i)
    → ((i : ℕ) → i < 16 → get_or s i 0 ≡ get_or b i 0 + cond (i == place) n 0) → i < 16
    → get_or (add_round_key vs 0 (mix_columns (shift_rows (sub_bytes (rounds ws 0 s))))) i 0
    ≡ bit_xor (get_or (add_round_key vs 0 (mix_columns (shift_rows (sub_bytes (start_of b k place))))) i 0)
    (cond (i / 4 == 0) (share place (i % 4) (linear_sbox (bit_xor ((get_or b place 0 + n) % 256) (get_or k place 0)))) 0)
shared_byte ws vs b k s place n i end words hb hk hs keyed steps hi =
    let x : List ℕ = zip2 bit_xor b k in
    let long : length x ≡ 16 = length-zip2 bit_xor b k (hb.length_is ∙ sym hk.length_is) ∙ hb.length_is in
    let within : place < 16 = elim end [ inl e ↦ omega (arith, e) | inr e ↦ omega (arith, e) ] in
    let itself : (place == place) ≡ true =
    elim end [
      | inl e ↦ subst (λ p. (p == p) ≡ true) (sym e) refl
      | inr e ↦ subst (λ p. (p == p) ≡ true) (sym e) refl
    ] in
    let step : get_or s place 0 ≡ get_or b place 0 + n =
    steps place within ∙ ap (λ (e : Bool). get_or b place 0 + cond e n 0) itself in
    let whole : get_or s place 0 ≡ (get_or b place 0 + n) % 256 = omega (arith, step, hs.bytes place) in
    let value : get_or (rounds ws 0 s) place 0 ≡ bit_xor ((get_or b place 0 + n) % 256) (get_or k place 0) =
    start_byte ws s place within ∙ ap₂ bit_xor whole (sym (keyed place within)) in
    one_apart (rounds ws 0 s) (start_of b k place) vs place i end (rounds_block ws 0 s words hs) (start_block b k place end hb hk)
    (get_or-set_same x place 0 0 (omega (arith, long, within)))
    (λ j hj e.
    let none : get_or b j 0 + 0 ≡ get_or b j 0 = omega arith in
    start_byte ws s j hj
    ∙ ap₂ bit_xor (steps j hj ∙ ap (λ (d : Bool). get_or b j 0 + cond d n 0) e ∙ none) (sym (keyed j hj))
    ∙ sym (get_or-set_other x place j 0 0 (eqb-false j place e)
    ∙ get_or-zip2 bit_xor b k j 0 0 0 (omega (arith, hj, hb.length_is)) (omega (arith, hj, hk.length_is)))) hi
    ∙ ap (λ (v : ℕ). bit_xor (get_or (add_round_key vs 0 (mix_columns (shift_rows (sub_bytes (start_of b k place))))) i 0)
    (cond (i / 4 == 0) (share place (i % 4) (linear_sbox v)) 0)) value
