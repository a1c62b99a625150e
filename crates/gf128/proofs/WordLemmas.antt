-- Words of 128 bits as polynomials, and a product bit by bit.
use Rattle.std.proofs.Common.{◌≡◌, ℕ, zero, suc, ◌+◌, ◌-◌, ◌*◌, ◌/◌, ◌%◌, ◌^◌, ◌<◌, ◌≤◌, Bool, true}
use Rattle.std.proofs.Common.{false, ◌&&◌, ◌==◌, List, [], ◌∷◌, ◌++◌, map, drop, take, length, get_or}
use Rattle.std.proofs.Common.{reverse, bit_xor, inl, inr, refl, sym, ap, ap₂, ◌∙◌, arith, zero-add}
use Rattle.std.specs.Int.{w128, from_be_bytes, from_le_bytes, to_be_bytes, to_le_bytes, bytes_high_first}
use Rattle.std.specs.Int.{byte_at}
use Rattle.std.specs.List.{range_with_len}
use Rattle.std.proofs.Math.Nat.{zero-mul, one-mul, mod-lt}
use Rattle.std.proofs.lemmas.Bool.{cases_lt}
use Rattle.std.proofs.lemmas.List.{get_or_past, get_or_append_left, get_or-reverse, length-reverse}
use Rattle.std.proofs.lemmas.List.{reverse-append, drop_more, drop_all, take_all}
use Rattle.std.proofs.lemmas.List.FromFn.{get_or-map-range_with_len, length-map-range_with_len}
use mathlib.Core.Path.{fun_ext}
use Rattle.octets.specs.Bytes.{le, be, IsBlock}
use Rattle.octets.specs.Bits.{bit, is_odd, g, v}
use Rattle.octets.specs.Polynomial.{coefficient, plus, product, residue, Agree}
use Rattle.octets.proofs.Sequence.{plus_comm, mult, mult_comm}
use Rattle.octets.proofs.BitFacts.{bit_suc, bit_zero, bit_of_xor, bit_of_zero}
use Rattle.octets.proofs.Numbers.{be_word, be_bit, be_push, le_word, byte_bit, bytes_high_at}
use Rattle.octets.proofs.Readings.{made_same, g_injective, v_is}
use Rattle.octets.proofs.Residue.{residue_is, residue_lower, residue_step}
use Rattle.octets.proofs.Ring.{residue_more, residue_agree, coefficient_product, residue_of_lower}
use Rattle.octets.proofs.Ring.{the_residue}
use Rattle.gf128.specs.Ghash.{ghash_modulus, IsProduct}
use Rattle.gf128.specs.Polyval.{IsMulX}
use Rattle.gf128.specs.Code.Words.{of_bits, of_word, IsBitsProduct, IsWordProduct, reduction, times_x}

-- ---- words and blocks
pub of_word-be : (bs : List ℕ) → IsBlock bs → of_word (from_be_bytes w128 bs) ≡ g bs
unfolding of_word of_bits g
of_word-be bs block =
    let len : length bs ≡ 16 = block.length_is in
    let n : ℕ = from_be_bytes w128 bs in
    let whole : take 16 bs ≡ bs = take_all 16 bs (omega arith) in
    let same : n ≡ be (take 16 bs) = sym (ap be whole ∙ be_word bs len) in
    let count : 128 ≡ 8 * length bs = omega arith in
    made_same (λ k. bit n (127 - k)) (λ k. bit (get_or bs (k / 8) 0) (7 - k % 8)) 128 (λ k l.
    let at : 127 - k ≡ 8 * 16 - suc k = omega arith in
    ap₂ (λ (x j : ℕ). bit x j) same at
    ∙ ap (λ (x : ℕ). x == 1) (be_bit bs 16 k block.bytes (omega arith) (omega arith)))
    ∙ ap (λ (c : ℕ). map (λ k. bit (get_or bs (k / 8) 0) (7 - k % 8)) (range_with_len 0 c)) count

-- the bytes of a word have the polynomial of the word
pub g-to_be : (n : ℕ) → g (to_be_bytes w128 n) ≡ of_word n
unfolding of_word of_bits g
g-to_be n =
    made_same (λ k. bit (get_or (bytes_high_first 16 n) (k / 8) 0) (7 - k % 8)) (λ k. bit n (127 - k)) 128
    (λ k l.
    let at : 8 * (16 - suc (k / 8)) + (7 - k % 8) ≡ 127 - k = omega arith in
    ap (λ (x : ℕ). bit x (7 - k % 8)) (bytes_high_at 16 n (k / 8) (omega arith))
    ∙ ap (λ (x : ℕ). x == 1) (byte_bit n (16 - suc (k / 8)) (7 - k % 8) (omega arith)) ∙ ap (bit n) at)

-- byte i of a number is below 256
byte_lt : (i n : ℕ) → byte_at i n < 256
byte_lt zero n = mod-lt n (omega arith)
byte_lt (suc i) n = mod-lt (n / 256 ^ suc i) (omega arith)

-- the bytes of a word are a block
pub to_be_block : (n : ℕ) → IsBlock (to_be_bytes w128 n)
to_be_block n = record {
  length_is = refl;
  bytes = λ i. elim (cases_lt i 16) [
    | inl l ↦
        let at : get_or (bytes_high_first 16 n) i 0 ≡ byte_at (16 - suc i) n = bytes_high_at 16 n i l in
        let small : byte_at (16 - suc i) n < 256 = byte_lt (16 - suc i) n in
        omega arith
    | inr l ↦ let past : get_or (to_be_bytes w128 n) i 0 ≡ 0 =
        get_or_past (to_be_bytes w128 n) i 0 l in omega arith
  ];
}

-- if a word and a block have one polynomial, the block is the bytes of the word
pub bytes_of_word : (n : ℕ) (k : List ℕ) → IsBlock k → of_word n ≡ g k → to_be_bytes w128 n ≡ k
bytes_of_word n k block e =
    g_injective 16 (to_be_bytes w128 n) k (to_be_block n) block
    (λ i. ap (λ (p : List Bool). coefficient p i) (g-to_be n ∙ e))

-- ---- bytes in reverse order
pub reverse_block : (y : List ℕ) → IsBlock y → IsBlock (reverse y)
reverse_block y b = record {
  length_is = length-reverse y ∙ b.length_is;
  bytes = λ i. elim (cases_lt i (length y)) [
    | inl l ↦ let e : get_or (reverse y) i 0 ≡ get_or y (length y - 1 - i) 0 =
        get_or-reverse y i 0 l in omega (arith, b.bytes (length y - 1 - i))
    | inr l ↦ let e : get_or (reverse y) i 0 ≡ 0 =
        get_or_past (reverse y) i 0 (omega (arith, length-reverse y)) in omega arith
  ];
}

-- a list that is read least significant byte first spells the number of the reversed list, read most significant byte first
le_reversed : (bs : List ℕ) → le bs ≡ be (reverse bs)
unfolding le be
le_reversed [] = refl
le_reversed (b ∷ bs) =
    let e : reverse (b ∷ bs) ≡ reverse bs ++ b ∷ [] = reverse-append (b ∷ []) bs in
    let rest : le bs ≡ be (reverse bs) = le_reversed bs in
    let all : be (reverse bs ++ b ∷ []) ≡ be (reverse bs) * 256 + b = be_push (reverse bs) b in
    rw (e, all, ← rest) (omega arith)

-- the number of a block, read least significant byte first, has the polynomial of the reversed block
pub of_word-le : (bs : List ℕ) → IsBlock bs → of_word (from_le_bytes w128 bs) ≡ g (reverse bs)
of_word-le bs block =
    ap of_word (sym (le_word bs block.length_is) ∙ le_reversed bs ∙ be_word (reverse bs) (length-reverse bs
    ∙ block.length_is))
    ∙ of_word-be (reverse bs) (reverse_block bs block)

-- the bytes of a word, least significant first and then reversed, are those most significant first
to_le_reversed : (n : ℕ) → reverse (to_le_bytes w128 n) ≡ to_be_bytes w128 n
to_le_reversed n = refl

-- POLYVAL reads the bytes of a word, least significant first, as the word's polynomial from its end
pub v-to_le : (n : ℕ) → v (to_le_bytes w128 n) ≡ reverse (of_word n)
v-to_le n = v_is (to_le_bytes w128 n) ∙ ap (λ (x : List ℕ). reverse (g x)) (to_le_reversed n)
    ∙ ap reverse (g-to_be n)

-- ---- the coefficients of a word
pub of_word_at : (n k : ℕ) → k < 128 → coefficient (of_word n) k ≡ bit n (127 - k)
unfolding of_word of_bits
of_word_at n k h = get_or-map-range_with_len (λ i. bit n (127 - i)) 0 128 k k false h (zero-add k)

-- the polynomial of a word has 128 coefficients
pub length-of_word : (n : ℕ) → length (of_word n) ≡ 128
unfolding of_word of_bits
length-of_word n = length-map-range_with_len (λ i. bit n (127 - i)) 0 128

-- the polynomial of a word has no coefficient from x^128 on
pub of_word_past : (n k : ℕ) → 128 ≤ k → coefficient (of_word n) k ≡ false
of_word_past n k h = get_or_past (of_word n) k false (omega (arith, length-of_word n))

-- the polynomial of an XOR is the sum of the polynomials
pub of_word_xor : (a b k : ℕ) → coefficient (of_word (bit_xor a b)) k ≡ plus (coefficient (of_word a) k)
    (coefficient (of_word b) k)
of_word_xor a b k = elim (cases_lt k 128) [
  | inl l ↦ of_word_at (bit_xor a b) k l ∙ bit_of_xor a b (127 - k) ∙ ap₂ plus (sym (of_word_at a k l))
      (sym (of_word_at b k l))
  | inr l ↦ of_word_past (bit_xor a b) k l ∙ ap₂ plus (sym (of_word_past a k l)) (sym (of_word_past b k l))
]

-- every coefficient of the word 0 is 0
pub of_word_zero : (k : ℕ) → coefficient (of_word 0) k ≡ false
of_word_zero k = elim (cases_lt k 128) [
  | inl h ↦ of_word_at 0 k h ∙ bit_of_zero (127 - k)
  | inr h ↦
      of_word_past 0 k h
]

-- ---- a word times x
bit_past : (n : ℕ) → n < 2 ^ 128 → bit n 128 ≡ false
bit_past n h = let e : n / 2 ^ 128 ≡ 0 = omega arith in ap is_odd e

-- below x^128, a word shifted down by one place is x times the word
half_at : (n k : ℕ) → n < 2 ^ 128 → k < 128 → bit (n / 2) (127 - k) ≡ coefficient (false ∷ of_word n) k
half_at n zero small h = sym (bit_suc n 127) ∙ bit_past n small
half_at n (suc k) small h =
    let e : suc (127 - suc k) ≡ 127 - k = omega arith in
    sym (bit_suc n (127 - suc k)) ∙ ap (bit n) e ∙ sym (of_word_at n k (omega arith))

-- the coefficient of x^128 in x times a word is the lowest bit of the word
top_at : (n : ℕ) → coefficient (false ∷ of_word n) 128 ≡ is_odd n
top_at n = of_word_at n 127 (omega arith) ∙ bit_zero n

-- GHASH's modulus is the word `reduction` and x^128
modulus_is : ghash_modulus ≡ of_word reduction ++ true ∷ []
unfolding of_word of_bits
modulus_is = refl

-- below x^128, the coefficients of the modulus are the bits of `reduction`
modulus_at : (k : ℕ) → k < 128 → coefficient ghash_modulus k ≡ bit reduction (127 - k)
modulus_at k h =
    ap (λ (p : List Bool). coefficient p k) modulus_is
    ∙ get_or_append_left (of_word reduction) (true ∷ []) false k (omega (arith, length-of_word reduction))
    ∙ of_word_at reduction k h

-- the coefficients of `reduction` or 0 are those of the modulus, or false
reduction_at : (c k : ℕ) → c < 2 → k < 128 → bit (c * reduction) (127 - k)
    ≡ ((c == 1) && coefficient ghash_modulus k)
reduction_at zero k h l = ap (λ (x : ℕ). bit x (127 - k)) (zero-mul reduction) ∙ bit_of_zero (127 - k)
reduction_at (suc zero) k h l = ap (λ (x : ℕ). bit x (127 - k)) (one-mul reduction) ∙ sym (modulus_at k l)
reduction_at (suc (suc c)) k h l = absurd (omega arith)

-- the coefficients of x times a word are those of the shifted word, plus those of the modulus if a coefficient of x^128 came out
pub stepped_at : (n k : ℕ) → n < 2 ^ 128 → k < 128
    → coefficient (of_word (times_x n)) k ≡ plus (coefficient (false ∷ of_word n) k)
    (coefficient (false ∷ of_word n) 128 && coefficient ghash_modulus k)
stepped_at n k small l =
    of_word_at (times_x n) k l ∙ bit_of_xor (n / 2) (n % 2 * reduction) (127 - k)
    ∙ ap₂ plus (half_at n k small l) (reduction_at (n % 2) k (omega arith) l
    ∙ ap (λ b. b && coefficient ghash_modulus k) (sym (top_at n)))

-- ---- a product bit by bit

-- p is the product of h and the coefficients of f from place 128 - i on, which are its i lowest bits
abbrev pub IsSoFar : ℕ → ℕ → ℕ → ℕ → Type 0
IsSoFar f h i p = Agree (of_word p) (residue ghash_modulus (product (drop (128 - i) (of_word f))
    (of_word h)))

-- every coefficient of the residue of 0 is 0
residue_zero : (k : ℕ) → coefficient (residue ghash_modulus []) k ≡ false
unfolding residue
residue_zero k = refl

-- every coefficient of a product with 0 is 0
product_zero : (p : List Bool) → Agree (product p (of_word 0)) []
product_zero p k =
    coefficient_product p (of_word 0) k ∙ ap (λ f. mult p f k) (fun_ext of_word_zero) ∙ ap (λ f. f k) (mult_comm p [])

-- the product of any bits and the word 0 is 0
pub multiple_of_zero : (w n : ℕ) → IsBitsProduct w n 0 0
multiple_of_zero w n k =
    let p : List Bool = of_bits w n in
    of_word_zero k
    ∙ sym (residue_agree ghash_modulus (product p (of_word 0)) [] refl (product_zero p) k ∙ residue_zero k)

-- the product of no bits is 0
pub so_far_none : (f h : ℕ) → IsSoFar f h 0 0
so_far_none f h k =
    of_word_zero k
    ∙ sym (ap (λ p. coefficient (residue ghash_modulus (product p (of_word h))) k)
    (drop_all 128 (of_word f) (omega (arith, length-of_word f)))
    ∙ residue_agree ghash_modulus (product [] (of_word h)) [] refl (coefficient_product [] (of_word h)) k
    ∙ residue_zero k)

-- if two polynomials agree, x times each of them agree
pub next_same : (p q : List Bool) → Agree p q → Agree (false ∷ p) (false ∷ q)
next_same p q same zero = refl
next_same p q same (suc i) = same i

-- if p is the product of i bits, then x times p, plus h if bit i of f is set, is the product of i + 1 bits
pub so_far_more : (f h i p q : ℕ) → i < 128 → p < 2 ^ 128
    → ((k : ℕ) → k < 128 → coefficient (of_word q) k ≡ plus (bit f i && coefficient (of_word h) k)
    (coefficient (of_word (times_x p)) k))
    → IsSoFar f h i p → IsSoFar f h (i + 1) q
so_far_more f h i p q l small next held k =
    let j : ℕ = 128 - (i + 1) in
    let rest : List Bool = drop (128 - i) (of_word f) in
    let up : j + 1 ≡ 128 - i = omega arith in
    let place : 127 - j ≡ i = omega arith in
    let split : drop j (of_word f) ≡ bit f i ∷ rest =
    drop_more (of_word f) j false (omega (arith, length-of_word f))
    ∙ ap₂ (λ b n. b ∷ drop n (of_word f)) (of_word_at f j (omega arith) ∙ ap (bit f) place) up in
    let before : List Bool = residue ghash_modulus (product rest (of_word h)) in
    let same : Agree (false ∷ of_word p) (false ∷ before) = next_same (of_word p) before held in
    elim (cases_lt k 128) [
      | inl low ↦
          next k low ∙ ap (plus (bit f i && coefficient (of_word h) k)) (stepped_at p k small low)
          ∙ ap₂ (λ a b. plus (bit f i && coefficient (of_word h) k)
          (plus a (b && coefficient ghash_modulus k))) (same k) (same 128)
          ∙ sym (ap (λ t. coefficient (residue ghash_modulus (product t (of_word h))) k) split
          ∙ residue_more ghash_modulus (bit f i) rest (of_word h) k refl (λ n m. of_word_past h n m))
      | inr high ↦ of_word_past q k high
          ∙ sym (residue_lower ghash_modulus (product (drop j (of_word f)) (of_word h)) k high)
    ]

-- the coefficients of h or 0 are those of h, or false
factor_at : (b h k : ℕ) → b < 2 → coefficient (of_word (b * h)) k ≡ ((b == 1) && coefficient (of_word h) k)
factor_at zero h k l = ap (λ (x : ℕ). coefficient (of_word x) k) (zero-mul h) ∙ of_word_zero k
factor_at (suc zero) h k l = ap (λ (x : ℕ). coefficient (of_word x) k) (one-mul h)
factor_at (suc (suc b)) h k l = absurd (omega arith)

-- a bit times a word is a word
pub bit_times_lt : (b h : ℕ) → b < 2 → h < 2 ^ 128 → b * h < 2 ^ 128
bit_times_lt zero h l small = let e : 0 * h ≡ 0 = zero-mul h in omega arith
bit_times_lt (suc zero) h l small = let e : 1 * h ≡ h = one-mul h in omega arith
bit_times_lt (suc (suc b)) h l small = absurd (omega arith)

-- x times p, plus bit i of f times h, is the product of i + 1 bits
pub so_far_bit : (f h i p : ℕ) → i < 128 → p < 2 ^ 128 → IsSoFar f h i p
    → IsSoFar f h (i + 1) (bit_xor (times_x p) (f / 2 ^ i % 2 * h))
so_far_bit f h i p l small =
    so_far_more f h i p (bit_xor (times_x p) (f / 2 ^ i % 2 * h)) l small (λ k low.
    of_word_xor (times_x p) (f / 2 ^ i % 2 * h) k
    ∙ plus_comm (coefficient (of_word (times_x p)) k) (coefficient (of_word (f / 2 ^ i % 2 * h)) k)
    ∙ ap (λ x. plus x (coefficient (of_word (times_x p)) k)) (factor_at (f / 2 ^ i % 2) h k (omega arith)))

-- the product of all 128 bits is the product of the words
pub so_far_all : (f h i p : ℕ) → i ≡ 128 → IsSoFar f h i p → IsWordProduct f (to_be_bytes w128 h) p
unfolding IsWordProduct
so_far_all f h i p e held =
    let done : IsSoFar f h 128 p = rw e at held in
    let whole : Agree (of_word p) (residue ghash_modulus (product (of_word f) (g (to_be_bytes w128 h)))) =
    rw (g-to_be h) done in
    the_residue ghash_modulus (product (of_word f) (g (to_be_bytes w128 h))) (of_word p) refl whole

-- ---- products of words

-- a product of words is the product of the blocks with the same polynomials
pub block_product : (f p : ℕ) (x y z : List ℕ) → of_word f ≡ g x → IsWordProduct f y p → g z ≡ of_word p
    → IsProduct x y z
unfolding IsProduct IsWordProduct
block_product f p x y z ex is ez = rw (← ex, ez) is

-- the coefficients of a product of words are those of the residue of the product
pub word_product : (x z : ℕ) (y : List ℕ) → IsWordProduct x y z
    → coefficient (of_word z) ≡ coefficient (residue ghash_modulus (product (of_word x) (g y)))
unfolding IsWordProduct
word_product x z y h =
    let p : List Bool = product (of_word x) (g y) in
    sym (fun_ext (h.1 (residue ghash_modulus p) (residue_is ghash_modulus p refl)))

-- ---- `times_x` multiplies a word by x
pub times_x_at : (n k : ℕ) → n < 2 ^ 128 → coefficient (of_word (times_x n)) k
    ≡ coefficient (residue ghash_modulus (false ∷ of_word n)) k
times_x_at n k small =
    let p : List Bool = of_word n in
    let same : Agree (false ∷ residue ghash_modulus p) (false ∷ p) =
    next_same (residue ghash_modulus p) p (residue_of_lower ghash_modulus p refl
    (λ i h. of_word_past n i h)) in
    elim (cases_lt k 128) [
      | inl l ↦
          stepped_at n k small l
          ∙ sym (residue_step ghash_modulus false p k refl
          ∙ ap₂ (λ a b. plus a (b && coefficient ghash_modulus k)) (same k) (same 128))
      | inr l ↦ of_word_past (times_x n) k l ∙ sym (residue_lower ghash_modulus (false ∷ p) k l)
    ]

-- if a block has the polynomial of a word, x times the block has that of `times_x` of the word
pub times_x_is : (n s : ℕ) (x z : List ℕ) → n < 2 ^ 128 → of_word n ≡ g x → s ≡ times_x n → g z ≡ of_word s
    → IsMulX x z
unfolding IsMulX
times_x_is n s x z small ex es ez =
    let same : Agree (g z) (residue ghash_modulus (false ∷ g x)) =
    rw (← ex, ez, es) (λ k. times_x_at n k small) in
    the_residue ghash_modulus (false ∷ g x) (g z) refl same
