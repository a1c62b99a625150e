-- The sum with one block more, and the padding of the text.
use Rattle.std.proofs.Common.{◌≡◌, ℕ, zero, suc, ◌-◌, ◌*◌, ◌/◌, ◌<◌, ◌≤◌, Bool, false, List}
use Rattle.std.proofs.Common.{◌++◌, length, bit_xor, refl, sym, ap, ap₂, ◌∙◌, arith}
use Rattle.octets.specs.Bytes.{block_at, IsBlock}
use Rattle.octets.specs.Bits.{g, bytes_of_g}
use Rattle.octets.specs.Polynomial.{coefficient, plus, sum, product, power, sum_of_first, residue, Agree}
use Rattle.octets.proofs.Residue.{residue_lower}
use Rattle.octets.proofs.Ring.{coefficient_sum}
use Rattle.octets.proofs.Spelled.{bytes_of_g_bytes, g_bytes_of}
use mathlib.Core.Path.{fun_ext}
use Rattle.octets.proofs.Sequence.{sum_of}
use Rattle.octets.proofs.Horner.{horner, sum_is, residue_same, product_first, product_second}
use Rattle.octets.proofs.Readings.{g_injective}
use Rattle.octets.proofs.Blocks.{block_at-append}
use Rattle.gf128.specs.Ghash.{ghash_modulus, ghash_sum, ghash, GhashIsTheOnly}
use Rattle.gf128.specs.Orders.{Order, Straight, Reversed, Serves, reading, two_numbers, block_sum}
use Rattle.gf128.specs.Polyval.{IsMulX}
use Rattle.gf128.specs.Code.Words.{of_word, IsWordProduct}
use Rattle.gf128.proofs.FourProducts.{horner_more}
use Rattle.gf128.proofs.WordLemmas.{of_word_zero}

-- sums of equal terms are equal
pub sum_of_first_same : (f e : ℕ → List Bool) (n : ℕ) → ((i : ℕ) → i < n → f i ≡ e i)
    → sum_of_first n f ≡ sum_of_first n e
unfolding sum_of_first
sum_of_first_same f e zero h = refl
sum_of_first_same f e (suc n) h =
    let a : sum_of_first n f ≡ sum_of_first n e = sum_of_first_same f e n (λ i l. h i (omega arith)) in
    let b : f n ≡ e n = h n (omega arith) in
    rw (a, b) refl

-- the sum over n whole blocks of a text is the same if more bytes follow
pub block_sum-append : (o : Order) (k m x : List ℕ) (n : ℕ) → n * 16 ≤ length m
    → block_sum o k (m ++ x) n ≡ block_sum o k m n
unfolding block_sum
block_sum-append o k m x n small =
    sum_of_first_same
    (λ i. residue ghash_modulus (product (reading o (block_at (m ++ x) i)) (power (g k) (n - i))))
    (λ i. residue ghash_modulus (product (reading o (block_at m i)) (power (g k) (n - i)))) n
    (λ i l. ap (λ (b : List ℕ). residue ghash_modulus (product (reading o b) (power (g k) (n - i))))
    (block_at-append m x i (omega arith)))

-- the sum over n + 1 blocks is the sum over n blocks plus the next block, times the key
pub block_sum_step : (o : Order) (k m : List ℕ) (n : ℕ)
    → coefficient (block_sum o k m (suc n))
    ≡ coefficient (residue ghash_modulus (product (sum (block_sum o k m n) (reading o (block_at m n))) (g k)))
unfolding block_sum
block_sum_step o k m n = horner ghash_modulus (λ i. reading o (block_at m i)) (g k) n refl

-- two keys that serve one hash are the same polynomial
serving_key : (o : Order) (h k l : List ℕ) → Serves o h k → Serves o h l → coefficient (g k) ≡ coefficient (g l)
unfolding IsMulX
serving_key Straight h k l a b = ap (λ x. coefficient (g x)) (a ∙ sym b)
serving_key Reversed h k l a b = fun_ext (b.1.1 (g k) a.1.0)

-- two keys that serve one hash give the same sum
pub block_sum_serves : (o : Order) (h k l m : List ℕ) (n : ℕ) → Serves o h k → Serves o h l
    → coefficient (block_sum o k m n) ≡ coefficient (block_sum o l m n)
unfolding block_sum sum_of_first
block_sum_serves o h k l m zero a b = refl
block_sum_serves o h k l m (suc n) a b =
    let x : List Bool = reading o (block_at m n) in
    let p : List Bool = sum (block_sum o k m n) x in
    let q : List Bool = sum (block_sum o l m n) x in
    let same : coefficient p ≡ coefficient q =
    sum_is (block_sum o k m n) x ∙ ap (λ f. sum_of f (coefficient x)) (block_sum_serves o h k l m n a b)
    ∙ sym (sum_is (block_sum o l m n) x) in
    block_sum_step o k m n
    ∙ residue_same ghash_modulus (product p (g k)) (product q (g l)) refl
    (product_first p q (g k) same ∙ product_second q (g k) (g l) (serving_key o h k l a b))
    ∙ sym (block_sum_step o l m n)

-- GHASH's sum over n + 1 blocks is the sum over n blocks plus the next block, times the key
pub ghash_step : (h m : List ℕ) (n : ℕ)
    → coefficient (ghash_sum h m (suc n))
    ≡ coefficient (residue ghash_modulus (product (sum (ghash_sum h m n) (g (block_at m n))) (g h)))
unfolding ghash_sum block_sum
ghash_step h m n = block_sum_step Straight h m n

-- if s is the sum over n blocks, x the word of the next block, and z their XOR times the key, z is the sum over n + 1 blocks
pub block_sum_more : (o : Order) (k m : List ℕ) (s x z n : ℕ) → Agree (of_word s) (block_sum o k m n)
    → of_word x ≡ reading o (block_at m n)
    → IsWordProduct (bit_xor s x) k z → Agree (of_word z) (block_sum o k m (suc n))
unfolding block_sum
block_sum_more o k m s x z n held ex is =
    horner_more (λ i. reading o (block_at m i)) k s x z n held ex is

-- the sum over no blocks is 0
pub block_sum_none : (o : Order) (k m : List ℕ) → Agree (of_word 0) (block_sum o k m 0)
unfolding block_sum sum_of_first
block_sum_none o k m i = of_word_zero i

-- if no term of a sum has coefficient k, the sum does not have it
low_sum : (f : ℕ → List Bool) (n k : ℕ) → ((i : ℕ) → coefficient (f i) k ≡ false)
    → coefficient (sum_of_first n f) k ≡ false
unfolding sum_of_first
low_sum f zero k e = refl
low_sum f (suc n) k e = coefficient_sum (sum_of_first n f) (f n) k ∙ ap₂ plus (low_sum f n k e) (e n)

-- the sum of blocks is of degree below 128
pub block_sum_low : (o : Order) (h m : List ℕ) (n k : ℕ) → 128 ≤ k → coefficient (block_sum o h m n) k ≡ false
unfolding block_sum
block_sum_low o h m n k l =
    low_sum (λ i. residue ghash_modulus (product (reading o (block_at m i)) (power (g h) (n - i)))) n k
    (λ i. residue_lower ghash_modulus (product (reading o (block_at m i)) (power (g h) (n - i))) k l)

-- the law `GhashIsTheOnly`
pub ghash_is_the_only : GhashIsTheOnly
unfolding ghash ghash_sum block_sum
ghash_is_the_only h m =
    let s : List Bool = ghash_sum h m (length m / 16) in
    let same : Agree (g (bytes_of_g 16 s)) s = g_bytes_of 16 s (block_sum_low Straight h m (length m / 16)) in
    let block : IsBlock (bytes_of_g 16 s) = bytes_of_g_bytes 16 s in (
      record { is_block = block; sum_is = same },
      λ y is. g_injective 16 y (bytes_of_g 16 s) is.is_block block (λ k. is.sum_is k ∙ sym (same k)),
    )

-- a block of two numbers has sixteen bytes
pub length-two_numbers : (o : Order) (a b : ℕ) → length (two_numbers o a b) ≡ 16
length-two_numbers Straight a b = refl
length-two_numbers Reversed a b = refl
