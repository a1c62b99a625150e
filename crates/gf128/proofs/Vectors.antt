-- Published vectors, computed by the definitions on words, each product bit by bit.
use Rattle.std.proofs.Common.{◌≡◌, ℕ, zero, suc, ◌+◌, ◌/◌, ◌%◌, ◌*◌, ◌^◌, ◌<◌, ◌≤◌, Bool, true, false, ◌&&◌}
use Rattle.std.proofs.Common.{List, [], ◌∷◌, ◌++◌, reverse, bit_xor, refl, sym, ap, ◌∙◌, arith, subst}
use Rattle.std.specs.Int.{w128, to_be_bytes, to_le_bytes}
use Rattle.std.proofs.lemmas.Nat.{xor_lt}
use Rattle.octets.specs.Bytes.{block_at}
use Rattle.octets.specs.Bits.{bit, g}
use Rattle.octets.specs.Polynomial.{coefficient, plus, Agree}
use Rattle.octets.proofs.Sequence.{plus_comm}
use Rattle.gf128.specs.Ghash.{ghash_sum, ghash}
use Rattle.gf128.specs.Orders.{Order, Straight, Reversed, reading, block_sum}
use Rattle.gf128.specs.Polyval.{polyval, IsReversedMulX}
use Rattle.gf128.specs.Code.Words.{of_word, IsWordProduct, reduction, times_x}
use Rattle.gf128.proofs.WordLemmas.{length-of_word, g-to_be, v-to_le, to_be_block, reverse_block}
use Rattle.gf128.proofs.WordLemmas.{of_word_xor, of_word_zero}
use Rattle.gf128.proofs.WordLemmas.{IsSoFar, so_far_none, so_far_more, so_far_all, times_x_is}
use Rattle.gf128.proofs.Sums.{block_sum_more, block_sum_none, ghash_is_the_only}
use Rattle.gf128.proofs.ByGhash.{polyval_by_sum}

-- the number h, or 0
either : Bool → ℕ → ℕ
either true h = h
either false h = 0

-- the product of the i lowest bits of f and the word h
by_bits : ℕ → ℕ → ℕ → ℕ
by_bits f h zero = 0
by_bits f h (suc i) = bit_xor (times_x (by_bits f h i)) (either (bit f i) h)

-- h or 0 is below 2^128, if h is
either_lt : (b : Bool) (h : ℕ) → h < 2 ^ 128 → either b h < 2 ^ 128
unfolding either
either_lt true h small = small
either_lt false h small = omega arith

-- a word times x is below 2^128
times_x_lt : (n : ℕ) → n < 2 ^ 128 → times_x n < 2 ^ 128
times_x_lt n small = xor_lt 128 (n / 2) (n % 2 * reduction) (omega arith) (omega arith)

-- the product of some bits of f and the word h is below 2^128
by_bits_lt : (f h i : ℕ) → h < 2 ^ 128 → by_bits f h i < 2 ^ 128
unfolding by_bits
by_bits_lt f h zero small = omega arith
by_bits_lt f h (suc i) small =
    xor_lt 128 (times_x (by_bits f h i)) (either (bit f i) h)
    (times_x_lt (by_bits f h i) (by_bits_lt f h i small)) (either_lt (bit f i) h small)

-- the coefficients of h, or of 0, are those of h, or false
either_at : (b : Bool) (h k : ℕ) → coefficient (of_word (either b h)) k ≡ (b && coefficient (of_word h) k)
unfolding either
either_at true h k = refl
either_at false h k = of_word_zero k

-- `by_bits` gives the product of the bits so far
by_bits_is : (f h i : ℕ) → i ≤ 128 → h < 2 ^ 128 → IsSoFar f h i (by_bits f h i)
unfolding by_bits
by_bits_is f h zero l small = so_far_none f h
by_bits_is f h (suc i) l small =
    let p : ℕ = by_bits f h i in
    let t : ℕ = times_x p in
    let e : ℕ = either (bit f i) h in
    let up : i + 1 ≡ suc i = omega arith in
    subst (λ (j : ℕ). IsSoFar f h j (bit_xor t e)) up
    (so_far_more f h i p (bit_xor t e) (omega arith) (by_bits_lt f h i small) (λ k low.
    of_word_xor t e k ∙ plus_comm (coefficient (of_word t) k) (coefficient (of_word e) k)
    ∙ ap (λ b. plus b (coefficient (of_word t) k)) (either_at (bit f i) h k))
    (by_bits_is f h i (omega arith) small))

-- `by_bits` of all 128 bits is the product of the words
product_is : (f h z : ℕ) → h < 2 ^ 128 → by_bits f h 128 ≡ z → IsWordProduct f (to_be_bytes w128 h) z
product_is f h z small e =
    so_far_all f h 128 z refl (subst (IsSoFar f h 128) e (by_bits_is f h 128 (omega arith) small))

-- the sum over two blocks comes from two products, one after the other
sum_of_two : (o : Order) (k m : List ℕ) (a b s t : ℕ) → of_word a ≡ reading o (block_at m 0)
    → of_word b ≡ reading o (block_at m 1) → IsWordProduct (bit_xor 0 a) k s → IsWordProduct (bit_xor s b) k t
    → Agree (of_word t) (block_sum o k m 2)
sum_of_two o k m a b s t ea eb first second =
    block_sum_more o k m s b t 1 (block_sum_more o k m 0 a s 0 (block_sum_none o k m) ea first) eb second

-- GHASH of two blocks is the word that two products give
ghash_of_two : (h a b s t : ℕ) → IsWordProduct (bit_xor 0 a) (to_be_bytes w128 h) s
    → IsWordProduct (bit_xor s b) (to_be_bytes w128 h) t
    → ghash (to_be_bytes w128 h) (to_be_bytes w128 a ++ to_be_bytes w128 b) ≡ to_be_bytes w128 t
unfolding ghash_sum block_sum
ghash_of_two h a b s t first second =
    let k : List ℕ = to_be_bytes w128 h in
    let m : List ℕ = to_be_bytes w128 a ++ to_be_bytes w128 b in
    let same : Agree (g (to_be_bytes w128 t)) (ghash_sum k m 2) =
    rw (g-to_be t) (sum_of_two Straight k m a b s t (sym (g-to_be a)) (sym (g-to_be b)) first second) in
    sym ((ghash_is_the_only k m).1 (to_be_bytes w128 t) (record { is_block = to_be_block t; sum_is = same }))

-- POLYVAL of two blocks is the word that two products with x times the key give
polyval_of_two : (h a b s t : ℕ) → h < 2 ^ 128
    → IsWordProduct (bit_xor 0 a) (to_be_bytes w128 (times_x h)) s
    → IsWordProduct (bit_xor s b) (to_be_bytes w128 (times_x h)) t
    → polyval (to_le_bytes w128 h) (to_le_bytes w128 a ++ to_le_bytes w128 b) ≡ to_le_bytes w128 t
polyval_of_two h a b s t small first second =
    let y : List ℕ = to_le_bytes w128 h in
    let k : List ℕ = to_be_bytes w128 (times_x h) in
    let m : List ℕ = to_le_bytes w128 a ++ to_le_bytes w128 b in
    let times : IsReversedMulX y k =
    times_x_is h (times_x h) (reverse y) k small (sym (g-to_be h)) refl (g-to_be (times_x h)) in
    sym (polyval_by_sum y k m (of_word t) (to_le_bytes w128 t) (reverse_block (to_be_bytes w128 h)
    (to_be_block h)) times (length-of_word t)
    (sum_of_two Reversed k m a b s t (sym (g-to_be a)) (sym (g-to_be b)) first second)
    (reverse_block (to_be_bytes w128 t) (to_be_block t)) (v-to_le t))

-- GHASH of the block of ciphertext and the block of lengths in test case 2 of the GCM specification
ghash_of_blocks : ghash (0x66 ∷ 0xe9 ∷ 0x4b ∷ 0xd4 ∷ 0xef ∷ 0x8a ∷ 0x2c ∷ 0x3b
    ∷ 0x88 ∷ 0x4c ∷ 0xfa ∷ 0x59 ∷ 0xca ∷ 0x34 ∷ 0x2b ∷ 0x2e ∷ [])
    (0x03 ∷ 0x88 ∷ 0xda ∷ 0xce ∷ 0x60 ∷ 0xb6 ∷ 0xa3 ∷ 0x92
    ∷ 0xf3 ∷ 0x28 ∷ 0xc2 ∷ 0xb9 ∷ 0x71 ∷ 0xb2 ∷ 0xfe ∷ 0x78
    ∷ 0x00 ∷ 0x00 ∷ 0x00 ∷ 0x00 ∷ 0x00 ∷ 0x00 ∷ 0x00 ∷ 0x00
    ∷ 0x00 ∷ 0x00 ∷ 0x00 ∷ 0x00 ∷ 0x00 ∷ 0x00 ∷ 0x00 ∷ 0x80 ∷ [])
    ≡ 0xf3 ∷ 0x8c ∷ 0xbb ∷ 0x1a ∷ 0xd6 ∷ 0x92 ∷ 0x23 ∷ 0xdc
    ∷ 0xc3 ∷ 0x45 ∷ 0x7a ∷ 0xe5 ∷ 0xb6 ∷ 0xb0 ∷ 0xf8 ∷ 0x85 ∷ []
unfolding by_bits either
ghash_of_blocks =
    let h : ℕ = 0x66e94bd4ef8a2c3b884cfa59ca342b2e in
    let a : ℕ = 0x0388dace60b6a392f328c2b971b2fe78 in
    let s : ℕ = 0x5e2ec746917062882c85b0685353deb7 in
    let t : ℕ = 0xf38cbb1ad69223dcc3457ae5b6b0f885 in
    ghash_of_two h a 0x80 s t (product_is (bit_xor 0 a) h s (omega arith) refl)
    (product_is (bit_xor s 0x80) h t (omega arith) refl)

-- POLYVAL of the two blocks of RFC 8452, appendix A
polyval_of_blocks : polyval (0x25 ∷ 0x62 ∷ 0x93 ∷ 0x47 ∷ 0x58 ∷ 0x92 ∷ 0x42 ∷ 0x76
    ∷ 0x1d ∷ 0x31 ∷ 0xf8 ∷ 0x26 ∷ 0xba ∷ 0x4b ∷ 0x75 ∷ 0x7b ∷ [])
    (0x4f ∷ 0x4f ∷ 0x95 ∷ 0x66 ∷ 0x8c ∷ 0x83 ∷ 0xdf ∷ 0xb6
    ∷ 0x40 ∷ 0x17 ∷ 0x62 ∷ 0xbb ∷ 0x2d ∷ 0x01 ∷ 0xa2 ∷ 0x62
    ∷ 0xd1 ∷ 0xa2 ∷ 0x4d ∷ 0xdd ∷ 0x27 ∷ 0x21 ∷ 0xd0 ∷ 0x06
    ∷ 0xbb ∷ 0xe4 ∷ 0x5f ∷ 0x20 ∷ 0xd3 ∷ 0xc9 ∷ 0xf3 ∷ 0x62 ∷ [])
    ≡ 0xf7 ∷ 0xa3 ∷ 0xb4 ∷ 0x7b ∷ 0x84 ∷ 0x61 ∷ 0x19 ∷ 0xfa
    ∷ 0xe5 ∷ 0xb7 ∷ 0x86 ∷ 0x6c ∷ 0xf5 ∷ 0xe5 ∷ 0xb7 ∷ 0x7e ∷ []
unfolding by_bits either
polyval_of_blocks =
    let h : ℕ = 0x7b754bba26f8311d7642925847936225 in
    let a : ℕ = 0x62a2012dbb621740b6df838c66954f4f in
    let b : ℕ = 0x62f3c9d3205fe4bb06d02127dd4da2d1 in
    let s : ℕ = 0x776d08511501169c9850ff3745c6dace in
    let t : ℕ = 0x7eb7e5f56c86b7e5fa1961847bb4a3f7 in
    polyval_of_two h a b s t (omega arith) (product_is (bit_xor 0 a) (times_x h) s (omega arith) refl)
    (product_is (bit_xor s b) (times_x h) t (omega arith) refl)
