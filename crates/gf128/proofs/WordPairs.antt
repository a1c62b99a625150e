-- Two words in 32 bytes, and their XOR.
use Rattle.std.proofs.Common.{◌≡◌, ℕ, zero, suc, ◌+◌, ◌-◌, ◌*◌, ◌/◌, ◌%◌, ◌^◌, ◌<◌, List, [], ◌∷◌, ◌++◌}
use Rattle.std.proofs.Common.{length, take, drop, replicate, get_or, bit_xor, inl, inr, refl, sym, ap, ap₂, ◌∙◌, arith, subst, w8}
use Rattle.std.proofs.lemmas.Bool.{cases_lt}
use Rattle.std.proofs.lemmas.List.{get_or-take, get_or-drop, get_or_past, length-take-le, length-drop, take-append-drop}
use Rattle.std.proofs.lemmas.List.{take-append-le, drop-append-le, take_all, drop_all}
use Rattle.std.proofs.lemmas.Nat.{xor_block, xor_shr, xor_mod, xor_lt}
use Rattle.std.proofs.lemmas.Simd.{swz_l, length-swz_l, length-zip2}
use lib.Lanes.{zip2, digits_l, number_l}
use Rattle.octets.specs.Bytes.{IsBlock, le}
use Rattle.octets.proofs.Numbers.{le_split, power_of_bytes}
use Rattle.octets.proofs.Xors.{zip2_xor, length-xor_bytes, xor_bytes_at}
use Rattle.gf128.specs.Code.Words.{halves_up, halves_down, looked_up, both, IsPair}
use Rattle.gf128.proofs.LaneWords.{le_xor, le_block, le_digits}
use Rattle.gf128.proofs.Moves.{number_of, xor_exchange, xor_shl, shr_small}
use Rattle.gf128.proofs.Pairs.{looked_first, looked_second}

-- ---- halves

-- the first half of a pair is a block
pub first_block : (bs : List ℕ) → IsPair bs → IsBlock (take 16 bs)
first_block bs is = record {
  length_is = length-take-le 16 bs (omega (arith, is.0));
  bytes = λ i. elim (cases_lt i 16) [
    | inl l ↦ subst (λ (n : ℕ). n < 256) (sym (get_or-take 16 bs i 0 l)) (is.1 i)
    | inr l ↦
        let past : get_or (take 16 bs) i 0 ≡ 0 = get_or_past (take 16 bs) i 0 (omega (arith, l, length-take-le 16 bs (omega (arith, is.0)))) in
        omega arith
  ];
}

-- and so is the second half
pub second_block : (bs : List ℕ) → IsPair bs → IsBlock (drop 16 bs)
second_block bs is = record {
  length_is = length-drop 16 bs ∙ omega (arith, is.0);
  bytes = λ i. subst (λ (n : ℕ). n < 256) (sym (get_or-drop 16 bs i 0)) (is.1 (16 + i));
}

-- 32 bytes whose halves are blocks are a pair
pub pair_of_halves : (bs xs ys : List ℕ) → length bs ≡ 32 → take 16 bs ≡ xs → drop 16 bs ≡ ys → IsBlock xs → IsBlock ys → IsPair bs
pair_of_halves bs xs ys long ex ey hx hy = (
  long,
  λ i. elim (cases_lt i 16) [
    | inl l ↦
        let at : get_or bs i 0 ≡ get_or xs i 0 = sym (get_or-take 16 bs i 0 l) ∙ ap (λ (x : List ℕ). get_or x i 0) ex in
        subst (λ (n : ℕ). n < 256) (sym at) (hx.bytes i)
    | inr l ↦
        let place : 16 + (i - 16) ≡ i = omega arith in
        let at : get_or bs i 0 ≡ get_or ys (i - 16) 0 =
        ap (λ (k : ℕ). get_or bs k 0) (sym place) ∙ sym (get_or-drop 16 bs (i - 16) 0) ∙ ap (λ (x : List ℕ). get_or x (i - 16) 0) ey in
        subst (λ (n : ℕ). n < 256) (sym at) (hy.bytes (i - 16))
  ],
)

-- the number that a pair spells, from the words
pub pair_number : (bs : List ℕ) → IsPair bs → le bs ≡ le (take 16 bs) + 2 ^ 128 * le (drop 16 bs)
pair_number bs is =
    le_split bs 16 (omega (arith, is.0)) ∙ ap (λ (p : ℕ). le (take 16 bs) + p * le (drop 16 bs)) (power_of_bytes 16)

-- a pair that spells a number has the two halves of that number as its words
pub pair_words : (bs : List ℕ) (m n : ℕ) → IsPair bs → le bs ≡ m + 2 ^ 128 * n → m < 2 ^ 128 → n < 2 ^ 128
    → both bs ≡ bit_xor m n
pair_words bs m n is e lm ln =
    let whole : le bs ≡ le (take 16 bs) + 2 ^ 128 * le (drop 16 bs) = pair_number bs is in
    let first : le (take 16 bs) < 2 ^ 128 = le_block (take 16 bs) (first_block bs is) in
    let low : le (take 16 bs) ≡ m = omega arith in
    let high : le (drop 16 bs) ≡ n = omega arith in
    ap₂ bit_xor low high

-- two words one after the other
pub joined_words : (xs ys bs : List ℕ) → bs ≡ xs ++ ys → IsBlock xs → IsBlock ys → (take 16 bs ≡ xs) × (drop 16 bs ≡ ys)
joined_words xs ys bs e hx hy = (
  ap (take 16) e ∙ take-append-le 16 xs ys (omega (arith, hx.length_is)) ∙ take_all 16 xs (omega (arith, hx.length_is)),
  ap (drop 16) e ∙ drop-append-le 16 xs ys (omega (arith, hx.length_is))
      ∙ ap (λ (l : List ℕ). l ++ ys) (drop_all 16 xs (omega (arith, hx.length_is))),
)

-- the XOR of the words is a word
pub both_lt : (bs : List ℕ) → IsPair bs → both bs < 2 ^ 128
both_lt bs is =
    xor_lt 128 (le (take 16 bs)) (le (drop 16 bs)) (le_block (take 16 bs) (first_block bs is)) (le_block (drop 16 bs) (second_block bs is))

-- ---- XOR

-- the XOR of two pairs is a pair
pub xor_pair : (xs ys : List ℕ) → IsPair xs → IsPair ys → IsPair (zip2 bit_xor xs ys)
xor_pair xs ys hx hy =
    let same : length xs ≡ length ys = omega (arith, hx.0, hy.0) in
    subst IsPair (sym (zip2_xor bit_xor xs ys (λ x y. refl))) (
      length-xor_bytes xs ys same ∙ hx.0,
      λ i. subst (λ (n : ℕ). n < 256) (sym (xor_bytes_at xs ys i same)) (xor_lt 8 (get_or xs i 0) (get_or ys i 0) (hx.1 i) (hy.1 i)),
    )

-- its words are the XORs of the words
pub both_xor : (xs ys : List ℕ) → IsPair xs → IsPair ys → both (zip2 bit_xor xs ys) ≡ bit_xor (both xs) (both ys)
both_xor xs ys hx hy =
    let a : ℕ = le (take 16 xs) in
    let b : ℕ = le (drop 16 xs) in
    let c : ℕ = le (take 16 ys) in
    let d : ℕ = le (drop 16 ys) in
    let la : a < 2 ^ 128 = le_block (take 16 xs) (first_block xs hx) in
    let lb : b < 2 ^ 128 = le_block (drop 16 xs) (second_block xs hx) in
    let lc : c < 2 ^ 128 = le_block (take 16 ys) (first_block ys hy) in
    let ld : d < 2 ^ 128 = le_block (drop 16 ys) (second_block ys hy) in
    let ex : le xs ≡ b * 2 ^ 128 + a = pair_number xs hx ∙ omega arith in
    let ey : le ys ≡ d * 2 ^ 128 + c = pair_number ys hy ∙ omega arith in
    let number : le (zip2 bit_xor xs ys) ≡ bit_xor a c + 2 ^ 128 * bit_xor b d =
    ap le (zip2_xor bit_xor xs ys (λ x y. refl)) ∙ le_xor xs ys (omega (arith, hx.0, hy.0)) hx.1 hy.1
    ∙ ap₂ bit_xor ex ey ∙ xor_block 128 b d a c la lc ∙ omega arith in
    pair_words (zip2 bit_xor xs ys) (bit_xor a c) (bit_xor b d) (xor_pair xs ys hx hy) number (xor_lt 128 a c la lc) (xor_lt 128 b d lb ld)
    ∙ xor_exchange a c b d

-- ---- lanes of 64 bits

-- digits to base 256 are bytes
digits_small : (k n i : ℕ) → get_or (digits_l 256 k n) i 0 < 256
digits_small zero n i = omega arith
digits_small (suc k) n zero = omega arith
digits_small (suc k) n (suc i) = digits_small k (n / 256) i

length-digits : (k n : ℕ) → length (digits_l 256 k n) ≡ k
length-digits zero n = refl
length-digits (suc k) n = ap suc (length-digits k (n / 256))

-- 32 of them are a pair
pub digits_pair : (n : ℕ) → IsPair (digits_l 256 32 n)
digits_pair n = (length-digits 32 n, λ i. digits_small 32 n i)

-- a word with each of its two lanes changed by f
abbrev lanes_by : (ℕ → ℕ) → ℕ → ℕ
lanes_by f n = f (n % 2 ^ 64) + 2 ^ 64 * f (n / 2 ^ 64)

-- the four lanes of a pair, each changed by f
pub changed_pair : (f : ℕ → ℕ) (bs : List ℕ) → IsPair bs → ((x : ℕ) → x < 2 ^ 64 → f x < 2 ^ 64)
    → both (digits_l 256 32 (number_l (2 ^ 64) (f (number_l 256 bs % 2 ^ 64) ∷ f (number_l 256 bs / 2 ^ 64 % 2 ^ 64)
    ∷ f (number_l 256 bs / 2 ^ 64 / 2 ^ 64 % 2 ^ 64) ∷ f (number_l 256 bs / 2 ^ 64 / 2 ^ 64 / 2 ^ 64 % 2 ^ 64) ∷ [])))
    ≡ bit_xor (lanes_by f (le (take 16 bs))) (lanes_by f (le (drop 16 bs)))
changed_pair f bs is small =
    let n : ℕ = number_l 256 bs in
    let a : ℕ = le (take 16 bs) in
    let b : ℕ = le (drop 16 bs) in
    let la : a < 2 ^ 128 = le_block (take 16 bs) (first_block bs is) in
    let lb : b < 2 ^ 128 = le_block (drop 16 bs) (second_block bs is) in
    let number : n ≡ a + 2 ^ 128 * b = number_of bs ∙ pair_number bs is in
    let p0 : n % 2 ^ 64 ≡ a % 2 ^ 64 = omega arith in
    let p1 : n / 2 ^ 64 % 2 ^ 64 ≡ a / 2 ^ 64 = omega arith in
    let p2 : n / 2 ^ 64 / 2 ^ 64 % 2 ^ 64 ≡ b % 2 ^ 64 = omega arith in
    let p3 : n / 2 ^ 64 / 2 ^ 64 / 2 ^ 64 % 2 ^ 64 ≡ b / 2 ^ 64 = omega arith in
    let s0 : f (a % 2 ^ 64) < 2 ^ 64 = small (a % 2 ^ 64) (omega arith) in
    let s1 : f (a / 2 ^ 64) < 2 ^ 64 = small (a / 2 ^ 64) (omega arith) in
    let s2 : f (b % 2 ^ 64) < 2 ^ 64 = small (b % 2 ^ 64) (omega arith) in
    let s3 : f (b / 2 ^ 64) < 2 ^ 64 = small (b / 2 ^ 64) (omega arith) in
    let of : ℕ → ℕ → ℕ → ℕ → List ℕ = λ (w x y z : ℕ). digits_l 256 32 (number_l (2 ^ 64) (f w ∷ f x ∷ f y ∷ f z ∷ [])) in
    let m : ℕ = number_l (2 ^ 64) (f (a % 2 ^ 64) ∷ f (a / 2 ^ 64) ∷ f (b % 2 ^ 64) ∷ f (b / 2 ^ 64) ∷ []) in
    let m_is : m ≡ lanes_by f a + 2 ^ 128 * lanes_by f b = omega arith in
    let room : 256 ^ 32 ≡ 2 ^ 256 = power_of_bytes 32 in
    let within : m < 256 ^ 32 = omega arith in
    ap both (ap₂ (λ (w x : ℕ). of w x (n / 2 ^ 64 / 2 ^ 64 % 2 ^ 64) (n / 2 ^ 64 / 2 ^ 64 / 2 ^ 64 % 2 ^ 64)) p0 p1
    ∙ ap₂ (λ (y z : ℕ). of (a % 2 ^ 64) (a / 2 ^ 64) y z) p2 p3)
    ∙ pair_words (digits_l 256 32 m) (lanes_by f a) (lanes_by f b) (digits_pair m) (le_digits 32 m within ∙ m_is) (omega arith) (omega arith)

-- the XOR of words whose lanes are changed by f has lanes that are changed so, if f does so to XORs
pub lanes_xor : (f : ℕ → ℕ) (a b : ℕ) → ((x : ℕ) → x < 2 ^ 64 → f x < 2 ^ 64)
    → a < 2 ^ 128 → b < 2 ^ 128
    → ((x y : ℕ) → bit_xor (f x) (f y) ≡ f (bit_xor x y))
    → bit_xor (lanes_by f a) (lanes_by f b) ≡ lanes_by f (bit_xor a b)
lanes_xor f a b small la lb linear =
    let a0 : ℕ = f (a % 2 ^ 64) in
    let a1 : ℕ = f (a / 2 ^ 64) in
    let b0 : ℕ = f (b % 2 ^ 64) in
    let b1 : ℕ = f (b / 2 ^ 64) in
    let s0 : a0 < 2 ^ 64 = small (a % 2 ^ 64) (omega arith) in
    let t0 : b0 < 2 ^ 64 = small (b % 2 ^ 64) (omega arith) in
    let ea : a0 + 2 ^ 64 * a1 ≡ a1 * 2 ^ 64 + a0 = omega arith in
    let eb : b0 + 2 ^ 64 * b1 ≡ b1 * 2 ^ 64 + b0 = omega arith in
    ap₂ bit_xor ea eb ∙ xor_block 64 a1 b1 a0 b0 s0 t0
    ∙ ap₂ (λ (x y : ℕ). x * 2 ^ 64 + y) (linear (a / 2 ^ 64) (b / 2 ^ 64) ∙ ap f (sym (xor_shr a b 64)))
    (linear (a % 2 ^ 64) (b % 2 ^ 64) ∙ ap f (sym (xor_mod a b 64))) ∙ omega arith

-- both words with their lanes shifted up
pub up_pair : (c : ℕ) (bs : List ℕ) → IsPair bs
    → both (digits_l 256 32 (number_l (2 ^ 64) (zip2 (λ a b. a * 2 ^ b % 2 ^ 64) (digits_l (2 ^ 64) 4 (number_l 256 bs)) (replicate 4 c))))
    ≡ halves_up c (both bs)
up_pair c bs is =
    let f : ℕ → ℕ = λ (x : ℕ). x * 2 ^ c % 2 ^ 64 in
    changed_pair f bs is (λ x l. omega arith)
    ∙ lanes_xor f (le (take 16 bs)) (le (drop 16 bs)) (λ x l. omega arith) (le_block (take 16 bs) (first_block bs is))
    (le_block (drop 16 bs) (second_block bs is))
    (λ x y. sym (ap (λ (n : ℕ). n % 2 ^ 64) (xor_shl c x y) ∙ xor_mod (x * 2 ^ c) (y * 2 ^ c) 64))

-- both words with their lanes shifted down
pub down_pair : (c : ℕ) (bs : List ℕ) → IsPair bs
    → both (digits_l 256 32 (number_l (2 ^ 64) (zip2 (λ a b. a / 2 ^ b) (digits_l (2 ^ 64) 4 (number_l 256 bs)) (replicate 4 c))))
    ≡ halves_down c (both bs)
down_pair c bs is =
    let f : ℕ → ℕ = λ (x : ℕ). x / 2 ^ c in
    changed_pair f bs is (λ x l. shr_small c x l)
    ∙ lanes_xor f (le (take 16 bs)) (le (drop 16 bs)) (λ x l. shr_small c x l) (le_block (take 16 bs) (first_block bs is))
    (le_block (drop 16 bs) (second_block bs is)) (λ x y. sym (xor_shr x y c))

-- ---- look-ups

-- the XOR of two look-ups in tables of 32 bytes, by the high and by the low four bits of the bytes of two words
pub looked_halves : (t u x y high low : List ℕ) → IsPair t → IsPair u → IsBlock x → IsBlock y → length high ≡ 32 → length low ≡ 32
    → ((p : ℕ) → p < 32 → get_or high p 0 ≡ get_or (x ++ y) p 0 / 16) → ((p : ℕ) → p < 32 → get_or low p 0 ≡ get_or (x ++ y) p 0 % 16)
    → let z = zip2 bit_xor (swz_l w8 16 t 0 high) (swz_l w8 16 u 0 low) in (length z ≡ 32)
    × (take 16 z ≡ looked_up (take 16 t) (take 16 u) x) × (drop 16 z ≡ looked_up (drop 16 t) (drop 16 u) y)
looked_halves t u x y high low ht hu hx hy lh ll eh el =
    let of : List ℕ → List ℕ → List ℕ = λ (p q : List ℕ). zip2 bit_xor (swz_l w8 16 p 0 high) (swz_l w8 16 q 0 low) in
    let wt : t ≡ take 16 t ++ drop 16 t = sym (take-append-drop 16 t) in
    let wu : u ≡ take 16 u ++ drop 16 u = sym (take-append-drop 16 u) in (
      length-zip2 bit_xor (swz_l w8 16 t 0 high) (swz_l w8 16 u 0 low) (length-swz_l w8 16 t 0 high ∙ lh ∙ sym (length-swz_l w8 16 u 0 low ∙ ll))
          ∙ length-swz_l w8 16 t 0 high ∙ lh,
      ap₂ (λ (p q : List ℕ). take 16 (of p q)) wt wu
          ∙ looked_first (take 16 t) (drop 16 t) (take 16 u) (drop 16 u) x y high low hx hy (first_block t ht).length_is (first_block u hu).length_is
          lh ll eh el,
      ap₂ (λ (p q : List ℕ). drop 16 (of p q)) wt wu
          ∙ looked_second (take 16 t) (drop 16 t) (take 16 u) (drop 16 u) x y high low hx hy (first_block t ht).length_is (first_block u hu).length_is
          lh ll eh el,
    )
