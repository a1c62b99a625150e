-- Look-ups of two words at once, in vectors of 32 bytes.
use Rattle.std.proofs.Common.{◌≡◌, ℕ, ◌+◌, ◌-◌, ◌*◌, ◌/◌, ◌%◌, ◌<◌, ◌||◌, T, ltb, leb, List}
use Rattle.std.proofs.Common.{◌++◌, get_or, length, replicate, take, drop, bit_xor, inl, inr, refl, sym, ap, ap₂, ◌∙◌}
use Rattle.std.proofs.Common.{arith, rules, w8, subst}
use Rattle.std.specs.List.{range_with_len}
use Rattle.std.proofs.lemmas.Bool.{cases_lt}
use Rattle.std.proofs.lemmas.Grind.{same_number_lists}
use Rattle.std.proofs.lemmas.List.{get_or-replicate, length-replicate, get_or_append_left, get_or-append_right, length-append}
use Rattle.std.proofs.lemmas.List.{get_or-take, get_or-drop, length-take-le, length-drop, take_all}
use Rattle.std.proofs.lemmas.List.FromFn.{get_or-map-range_with_len, length-map-range_with_len}
use Rattle.std.proofs.lemmas.Simd.{Each1-from_get_or, length-zip2, get_or-zip2, swz_l, SwzOk, pick_l-range_with_len}
use Rattle.std.proofs.lemmas.Simd.{SwzOk-from_Each1, length-swz_l, get_or-swz_l_below}
use lib.Lanes.{zip2, pick_l}
use Rattle.octets.specs.Bytes.{IsBlock, le}
use Rattle.octets.proofs.Xors.{zip2_xor}
use Rattle.gf128.specs.Code.Words.{looked_up}
use Rattle.gf128.proofs.LaneWords.{le_xor, xor_block_of}
use Rattle.gf128.proofs.Rows.{row, row_at, length-row}

-- two vectors of sixteen bytes, one after the other
pub joined_is : (x y : List ℕ) → length x ≡ 16 → length y ≡ 16 → pick_l 0 (x ++ y) (range_with_len 0 32) ≡ x ++ y
joined_is x y hx hy =
    let long : length (x ++ y) ≡ 32 = omega (arith, length-append x y) in
    pick_l-range_with_len 0 (x ++ y) 0 32 (omega arith) ∙ take_all 32 (x ++ y) (omega arith)

-- the first sixteen bytes
pub first_is : (x : List ℕ) → length x ≡ 32 → pick_l 0 (x ++ x) (range_with_len 0 16) ≡ take 16 x
first_is x long =
    same_number_lists (pick_l 0 (x ++ x) (range_with_len 0 16)) (take 16 x)
    (length-map-range_with_len (λ p. get_or (x ++ x) p 0) 0 16 ∙ sym (length-take-le 16 x (omega arith))) (λ k l.
    let small : k < 16 = omega (arith, length-map-range_with_len (λ p. get_or (x ++ x) p 0) 0 16) in
    get_or-map-range_with_len (λ p. get_or (x ++ x) p 0) 0 16 k k 0 small (omega arith)
    ∙ get_or_append_left x x 0 k (omega arith) ∙ sym (get_or-take 16 x k 0 small))

-- the last sixteen bytes
pub second_is : (x : List ℕ) → length x ≡ 32 → pick_l 0 (x ++ x) (range_with_len 16 16) ≡ drop 16 x
second_is x long =
    same_number_lists (pick_l 0 (x ++ x) (range_with_len 16 16)) (drop 16 x)
    (length-map-range_with_len (λ p. get_or (x ++ x) p 0) 16 16 ∙ sym (length-drop 16 x ∙ omega arith)) (λ k l.
    let small : k < 16 = omega (arith, length-map-range_with_len (λ p. get_or (x ++ x) p 0) 16 16) in
    get_or-map-range_with_len (λ p. get_or (x ++ x) p 0) 16 16 k (16 + k) 0 small (omega arith)
    ∙ get_or_append_left x x 0 (16 + k) (omega arith) ∙ sym (get_or-drop 16 x k 0))

-- an operator on a vector of 32 bytes and one number acts on each byte with that number
pub at_splat32 : (g : ℕ → ℕ → ℕ) (x : List ℕ) (s k : ℕ) → length x ≡ 32 → k < 32
    → get_or (zip2 g x (replicate 32 s)) k 0 ≡ g (get_or x k 0) s
at_splat32 g x s k hx l =
    get_or-zip2 g x (replicate 32 s) k 0 0 0 (omega arith) (omega (arith, length-replicate 32 s))
    ∙ ap (g (get_or x k 0)) (get_or-replicate {A = ℕ} 32 k s 0 l)

-- it gives as many bytes
pub long_splat32 : (g : ℕ → ℕ → ℕ) (x : List ℕ) (s : ℕ) → length x ≡ 32 → length (zip2 g x (replicate 32 s)) ≡ 32
long_splat32 g x s hx = length-zip2 g x (replicate 32 s) (hx ∙ sym (length-replicate 32 s)) ∙ hx

-- a look-up of 32 bytes is allowed if each index is below 16
pub places_ok32 : (at : List ℕ) → length at ≡ 32 → ((k : ℕ) → k < 32 → get_or at k 0 < 16) → SwzOk w8 16 32 0 at
places_ok32 at long ok =
    SwzOk-from_Each1 w8 16 2 32 0 at refl (omega arith)
    (Each1-from_get_or (λ j. T (leb 128 j || ltb j 16)) at 0
    (λ i h. let small : get_or at i 0 < 16 = ok i (omega arith) in search rules))

-- the bytes of two blocks
pair_small : (x y : List ℕ) (k : ℕ) → IsBlock x → IsBlock y → k < 32 → get_or (x ++ y) k 0 < 256
pair_small x y k hx hy l = elim (cases_lt k 16) [
  | inl h ↦
      let at : get_or (x ++ y) k 0 ≡ get_or x k 0 = get_or_append_left x y 0 k (omega (arith, hx.length_is)) in
      let small : get_or x k 0 < 256 = hx.bytes k in
      omega arith
  | inr h ↦
      let at : get_or (x ++ y) k 0 ≡ get_or y (k - 16) 0 = get_or-append_right x y 16 k 0 hx.length_is h in
      let small : get_or y (k - 16) 0 < 256 = hy.bytes (k - 16) in
      omega arith
]

-- the high four bits are an index
pub high_place32 : (x y at : List ℕ) → IsBlock x → IsBlock y → ((p : ℕ) → p < 32 → get_or at p 0 ≡ get_or (x ++ y) p 0 / 16)
    → (k : ℕ) → k < 32 → get_or at k 0 < 16
high_place32 x y at hx hy same k l =
    let small : get_or (x ++ y) k 0 < 256 = pair_small x y k hx hy l in omega (arith, same k l)

-- the low four bits are an index
pub low_place32 : (x y at : List ℕ) → ((p : ℕ) → p < 32 → get_or at p 0 ≡ get_or (x ++ y) p 0 % 16)
    → (k : ℕ) → k < 32 → get_or at k 0 < 16
low_place32 x y at same k l = omega (arith, same k l)

-- one of the first sixteen bytes looks the first table up
found_first : (t u at : List ℕ) (k : ℕ) → length t ≡ 16 → length at ≡ 32 → k < 16 → get_or at k 0 < 16
    → get_or (swz_l w8 16 (t ++ u) 0 at) k 0 ≡ get_or t (get_or at k 0) 0
found_first t u at k ht long l small =
    let place : 16 * ((0 + k) / 16) + get_or at k 0 ≡ get_or at k 0 = omega arith in
    get_or-swz_l_below w8 16 (t ++ u) 0 at k (omega arith) small ∙ ap (λ i. get_or (t ++ u) i 0) place
    ∙ get_or_append_left t u 0 (get_or at k 0) (omega arith)

-- one of the last sixteen bytes looks the second table up
found_second : (t u at : List ℕ) (k : ℕ) → length t ≡ 16 → length at ≡ 32 → k < 16 → get_or at (16 + k) 0 < 16
    → get_or (swz_l w8 16 (t ++ u) 0 at) (16 + k) 0 ≡ get_or u (get_or at (16 + k) 0) 0
found_second t u at k ht long l small =
    let n : ℕ = get_or at (16 + k) 0 in
    let place : 16 * ((0 + (16 + k)) / 16) + n ≡ 16 + n = omega arith in
    let own : 16 + n - 16 ≡ n = omega arith in
    get_or-swz_l_below w8 16 (t ++ u) 0 at (16 + k) (omega arith) small ∙ ap (λ i. get_or (t ++ u) i 0) place
    ∙ get_or-append_right t u 16 (16 + n) 0 ht (omega arith) ∙ ap (λ i. get_or u i 0) own

-- the XOR of two look-ups of two words: the first sixteen bytes
pub looked_first : (t t' u u' x y high low : List ℕ) → IsBlock x → IsBlock y → length t ≡ 16 → length u ≡ 16 → length high ≡ 32
    → length low ≡ 32 → ((p : ℕ) → p < 32 → get_or high p 0 ≡ get_or (x ++ y) p 0 / 16)
    → ((p : ℕ) → p < 32 → get_or low p 0 ≡ get_or (x ++ y) p 0 % 16)
    → take 16 (zip2 bit_xor (swz_l w8 16 (t ++ t') 0 high) (swz_l w8 16 (u ++ u') 0 low)) ≡ looked_up t u x
unfolding looked_up
looked_first t t' u u' x y high low hx hy ht hu lh ll eh el =
    let f : ℕ → ℕ = λ (p : ℕ). bit_xor (get_or t (get_or x p 0 / 16) 0) (get_or u (get_or x p 0 % 16) 0) in
    let a : List ℕ = swz_l w8 16 (t ++ t') 0 high in
    let b : List ℕ = swz_l w8 16 (u ++ u') 0 low in
    let la : length a ≡ 32 = length-swz_l w8 16 (t ++ t') 0 high ∙ lh in
    let lb : length b ≡ 32 = length-swz_l w8 16 (u ++ u') 0 low ∙ ll in
    let long : length (zip2 bit_xor a b) ≡ 32 = length-zip2 bit_xor a b (la ∙ sym lb) ∙ la in
    let short : length (take 16 (zip2 bit_xor a b)) ≡ 16 = length-take-le 16 (zip2 bit_xor a b) (omega arith) in
    same_number_lists (take 16 (zip2 bit_xor a b)) (row f) (short ∙ sym (length-row f)) (λ k h.
    let l : k < 16 = omega (arith, short) in
    let own : get_or (x ++ y) k 0 ≡ get_or x k 0 = get_or_append_left x y 0 k (omega (arith, hx.length_is)) in
    get_or-take 16 (zip2 bit_xor a b) k 0 l
    ∙ get_or-zip2 bit_xor a b k 0 0 0 (omega arith) (omega arith)
    ∙ ap₂ bit_xor (found_first t t' high k ht lh l (high_place32 x y high hx hy eh k (omega arith))
    ∙ ap (λ i. get_or t i 0) (eh k (omega arith) ∙ ap (λ n. n / 16) own))
    (found_first u u' low k hu ll l (low_place32 x y low el k (omega arith))
    ∙ ap (λ i. get_or u i 0) (el k (omega arith) ∙ ap (λ n. n % 16) own))
    ∙ sym (row_at f k l))

-- and the last sixteen bytes
pub looked_second : (t t' u u' x y high low : List ℕ) → IsBlock x → IsBlock y → length t ≡ 16 → length u ≡ 16 → length high ≡ 32
    → length low ≡ 32 → ((p : ℕ) → p < 32 → get_or high p 0 ≡ get_or (x ++ y) p 0 / 16)
    → ((p : ℕ) → p < 32 → get_or low p 0 ≡ get_or (x ++ y) p 0 % 16)
    → drop 16 (zip2 bit_xor (swz_l w8 16 (t ++ t') 0 high) (swz_l w8 16 (u ++ u') 0 low)) ≡ looked_up t' u' y
unfolding looked_up
looked_second t t' u u' x y high low hx hy ht hu lh ll eh el =
    let f : ℕ → ℕ = λ (p : ℕ). bit_xor (get_or t' (get_or y p 0 / 16) 0) (get_or u' (get_or y p 0 % 16) 0) in
    let a : List ℕ = swz_l w8 16 (t ++ t') 0 high in
    let b : List ℕ = swz_l w8 16 (u ++ u') 0 low in
    let la : length a ≡ 32 = length-swz_l w8 16 (t ++ t') 0 high ∙ lh in
    let lb : length b ≡ 32 = length-swz_l w8 16 (u ++ u') 0 low ∙ ll in
    let long : length (zip2 bit_xor a b) ≡ 32 = length-zip2 bit_xor a b (la ∙ sym lb) ∙ la in
    let short : length (drop 16 (zip2 bit_xor a b)) ≡ 16 = length-drop 16 (zip2 bit_xor a b) ∙ omega arith in
    same_number_lists (drop 16 (zip2 bit_xor a b)) (row f) (short ∙ sym (length-row f)) (λ k h.
    let l : k < 16 = omega (arith, short) in
    let place : 16 + k - 16 ≡ k = omega arith in
    let own : get_or (x ++ y) (16 + k) 0 ≡ get_or y k 0 =
    get_or-append_right x y 16 (16 + k) 0 hx.length_is (omega arith) ∙ ap (λ i. get_or y i 0) place in
    get_or-drop 16 (zip2 bit_xor a b) k 0
    ∙ get_or-zip2 bit_xor a b (16 + k) 0 0 0 (omega arith) (omega arith)
    ∙ ap₂ bit_xor (found_second t t' high k ht lh l (high_place32 x y high hx hy eh (16 + k) (omega arith))
    ∙ ap (λ i. get_or t' i 0) (eh (16 + k) (omega arith) ∙ ap (λ n. n / 16) own))
    (found_second u u' low k hu ll l (low_place32 x y low el (16 + k) (omega arith))
    ∙ ap (λ i. get_or u' i 0) (el (16 + k) (omega arith) ∙ ap (λ n. n % 16) own))
    ∙ sym (row_at f k l))

-- the XOR of two blocks spells the XOR of their numbers
pub xored : (a b c d : List ℕ) → a ≡ c → b ≡ d → IsBlock c → IsBlock d → le (zip2 bit_xor a b) ≡ bit_xor (le c) (le d)
xored a b c d ea eb hc hd =
    ap₂ (λ x y. le (zip2 bit_xor x y)) ea eb ∙ ap le (zip2_xor bit_xor c d (λ x y. refl))
    ∙ le_xor c d (hc.length_is ∙ sym hd.length_is) hc.bytes hd.bytes

-- the XOR of two blocks is a block
pub xored_block : (a b c d : List ℕ) → a ≡ c → b ≡ d → IsBlock c → IsBlock d → IsBlock (zip2 bit_xor a b)
xored_block a b c d ea eb hc hd =
    subst IsBlock (sym (ap₂ (λ x y. zip2 bit_xor x y) ea eb ∙ zip2_xor bit_xor c d (λ x y. refl))) (xor_block_of c d hc hd)
