-- Products of a word and some bits of a number.
use Rattle.std.proofs.Common.{◌≡◌, ℕ, zero, suc, ◌+◌, ◌-◌, ◌*◌, ◌/◌, ◌%◌, ◌^◌, ◌<◌, ◌≤◌, Bool, true, false}
use Rattle.std.proofs.Common.{◌==◌, List, [], ◌∷◌, ◌++◌, length, replicate, bit_xor, inl}
use Rattle.std.proofs.Common.{inr, refl, sym, ap, ap₂, ◌∙◌, arith, zero-add}
use mathlib.Core.Path.{fun_ext}
use Rattle.std.specs.Int.{w128, to_be_bytes}
use Rattle.std.proofs.Math.Nat.{zero-mul, one-mul}
use Rattle.std.proofs.lemmas.Bool.{cases_lt}
use Rattle.std.proofs.lemmas.List.{get_or_past}
use Rattle.std.proofs.lemmas.List.FromFn.{get_or-map-range_with_len, length-map-range_with_len}
use Rattle.std.proofs.lemmas.Nat.{shr-shr}
use Rattle.std.proofs.lemmas.Nat.Bits.{bit_at_above, bit_at_cat_low, bit_at_cat_high}
use Rattle.octets.specs.Bits.{bit, is_odd, g}
use Rattle.octets.specs.Polynomial.{coefficient, plus, sum, product, residue, Agree}
use Rattle.octets.proofs.Sequence.{sum_of, scaled, plus_false, shift_none}
use Rattle.octets.proofs.Readings.{made_same}
use Rattle.octets.proofs.Ring.{product_is, residue_sum, residue_product, residue_of_lower, the_residue}
use Rattle.octets.proofs.Horner.{sum_is, product_first, product_second, product_swap, product_assoc}
use Rattle.octets.proofs.Horner.{product_of_sum, product_one, residue_same}
use Rattle.octets.proofs.Reversal.{raised, raised_low, raised_high, coefficient_below, times_power}
use Rattle.gf128.specs.Ghash.{ghash_modulus}
use Rattle.gf128.specs.Code.Words.{of_bits, of_word, IsReduced, IsBitsProduct, IsMoved, IsWordProduct}
use Rattle.gf128.proofs.WordLemmas.{of_word_past, of_word_xor, of_word_zero, g-to_be}

-- ---- bits of numbers

-- bit j of a number that is shifted down by i places is bit i + j of the number
pub bit_shr : (n i j : ℕ) → bit (n / 2 ^ i) j ≡ bit n (i + j)
bit_shr n i j = ap is_odd (shr-shr n i j)

-- a number below 2^k has no bit from k on
pub bit_above : (n k j : ℕ) → n < 2 ^ k → k ≤ j → bit n j ≡ false
bit_above n k j small h = ap (λ (x : ℕ). x == 1) (bit_at_above n k j small h)

-- in a * 2^k + b, the bits below place k are those of b
pub bit_low : (a k b j : ℕ) → j < k → bit (a * 2 ^ k + b) j ≡ bit b j
bit_low a k b j h = ap (λ (x : ℕ). x == 1) (bit_at_cat_low a k b j h)

-- in a * 2^k + b, the bits from place k on are those of a, if b is below 2^k
pub bit_high : (a k b j : ℕ) → b < 2 ^ k → k ≤ j → bit (a * 2 ^ k + b) j ≡ bit a (j - k)
bit_high a k b j small h = ap (λ (x : ℕ). x == 1) (bit_at_cat_high a k b j small h)

-- ---- the coefficients of some bits
pub of_bits_at : (w n k : ℕ) → k < w → coefficient (of_bits w n) k ≡ bit n (w - 1 - k)
unfolding of_bits
of_bits_at w n k h = get_or-map-range_with_len (λ i. bit n (w - 1 - i)) 0 w k k false h (zero-add k)

-- the polynomial of w bits has w coefficients
length-of_bits : (w n : ℕ) → length (of_bits w n) ≡ w
unfolding of_bits
length-of_bits w n = length-map-range_with_len (λ i. bit n (w - 1 - i)) 0 w

-- the polynomial of w bits has no coefficient from x^w on
pub of_bits_past : (w n k : ℕ) → w ≤ k → coefficient (of_bits w n) k ≡ false
of_bits_past w n k h = get_or_past (of_bits w n) k false (omega (arith, length-of_bits w n))

-- numbers with the same w lowest bits have the same polynomial of w bits
pub bits_same : (w n m : ℕ) → ((j : ℕ) → j < w → bit n j ≡ bit m j) → of_bits w n ≡ of_bits w m
unfolding of_bits
bits_same w n m e = made_same (λ k. bit n (w - 1 - k)) (λ k. bit m (w - 1 - k)) w
    (λ k l. e (w - 1 - k) (omega arith))

-- a number a * 2^w + b has the same polynomial of w bits as b
pub bits_low : (w a b n : ℕ) → a * 2 ^ w + b ≡ n → of_bits w b ≡ of_bits w n
bits_low w a b n e = bits_same w b n (λ j l. sym (bit_low a w b j l) ∙ ap (λ (x : ℕ). bit x j) e)

-- the polynomial of w + d bits is that of the upper w bits, plus x^w times that of the lower d bits
pub bits_joined : (w d n : ℕ) → coefficient (of_bits (w + d) n)
    ≡ sum_of (coefficient (of_bits w (n / 2 ^ d))) (raised w (coefficient (of_bits d n)))
bits_joined w d n =
    let a : List Bool = of_bits w (n / 2 ^ d) in
    let b : List Bool = of_bits d n in
    fun_ext (λ k. elim (cases_lt k w) [
      | inl l ↦
          let at : d + (w - 1 - k) ≡ w + d - 1 - k = omega arith in
          of_bits_at (w + d) n k (omega arith) ∙ ap (bit n) (sym at) ∙ sym (bit_shr n d (w - 1 - k))
          ∙ sym (of_bits_at w (n / 2 ^ d) k l)
          ∙ sym (ap (plus (coefficient a k)) (raised_low w (coefficient b) k l)
          ∙ plus_false (coefficient a k))
      | inr l ↦
          let low : coefficient (of_bits (w + d) n) k ≡ coefficient b (k - w) = elim (cases_lt k (w + d)) [
            | inl h ↦
                let at : d - 1 - (k - w) ≡ w + d - 1 - k = omega arith in
                of_bits_at (w + d) n k h ∙ ap (bit n) (sym at) ∙ sym (of_bits_at d n (k - w) (omega arith))
            | inr h ↦ of_bits_past (w + d) n k h ∙ sym (of_bits_past d n (k - w) (omega arith))
          ] in
          low ∙ sym (ap₂ plus (of_bits_past w (n / 2 ^ d) k l) (raised_high w (coefficient b) k l))
    ])

-- ---- words as residues

-- the word z has the coefficients of the residue of p, if it is the residue
pub reduced_is : (p : List Bool) (z : ℕ) → IsReduced p z
    → coefficient (of_word z) ≡ coefficient (residue ghash_modulus p)
reduced_is p z is = fun_ext is

-- a residue of p is the residue of any q with the same coefficients
pub reduced_same : (p q : List Bool) (z : ℕ) → coefficient p ≡ coefficient q → IsReduced p z → IsReduced q z
reduced_same p q z e is k = is k ∙ ap (λ f. f k) (residue_same ghash_modulus p q refl e)

-- the residue of a sum is the sum of the residues
pub residue_parts : (p q : List Bool) → coefficient (residue ghash_modulus (sum p q))
    ≡ sum_of (coefficient (residue ghash_modulus p)) (coefficient (residue ghash_modulus q))
residue_parts p q = fun_ext (residue_sum ghash_modulus p q refl) ∙ sum_is (residue ghash_modulus p)
    (residue ghash_modulus q)

-- the XOR of the residues of p and q is the residue of their sum
pub reduced_sum : (p q : List Bool) (a b : ℕ) → IsReduced p a → IsReduced q b
    → IsReduced (sum p q) (bit_xor a b)
reduced_sum p q a b ha hb k =
    of_word_xor a b k ∙ ap₂ plus (ha k) (hb k)
    ∙ sym (ap (λ f. f k) (residue_parts p q))

-- w zeros before the coefficients of a polynomial multiply it by x^w
x_times : (w : ℕ) (p : List Bool) → coefficient (replicate w false ++ p)
    ≡ coefficient (product (replicate w false ++ true ∷ []) p)
x_times w p = fun_ext (coefficient_below w p) ∙ sym (product_is (replicate w false ++ true ∷ []) p
    ∙ fun_ext (times_power w (coefficient p)))

-- x^w may be taken out of the first factor of a product
x_first : (w : ℕ) (p q : List Bool) → coefficient (product (replicate w false ++ p) q)
    ≡ coefficient (replicate w false ++ product p q)
x_first w p q =
    let power : List Bool = replicate w false ++ true ∷ [] in
    product_first (replicate w false ++ p) (product power p) q (x_times w p) ∙ product_assoc power p q
    ∙ sym (x_times w (product p q))

-- x^w may be taken out of the second factor of a product
x_second : (w : ℕ) (p q : List Bool) → coefficient (product p (replicate w false ++ q))
    ≡ coefficient (replicate w false ++ product p q)
x_second w p q =
    let power : List Bool = replicate w false ++ true ∷ [] in
    product_swap p (replicate w false ++ q) ∙ x_first w q p ∙ x_times w (product q p) ∙ product_second power
    (product q p) (product p q) (product_swap q p)
    ∙ sym (x_times w (product p q))

-- x^w times the residue of p has the same residue as x^w times p
pub x_residue : (w : ℕ) (p : List Bool)
    → coefficient (residue ghash_modulus (replicate w false ++ residue ghash_modulus p))
    ≡ coefficient (residue ghash_modulus (replicate w false ++ p))
x_residue w p =
    let m : List Bool = ghash_modulus in
    let power : List Bool = replicate w false ++ true ∷ [] in
    residue_same m (replicate w false ++ residue m p) (product power (residue m p)) refl
    (x_times w (residue m p))
    ∙ fun_ext (residue_product m power p refl)
    ∙ sym (residue_same m (replicate w false ++ p) (product power p) refl (x_times w p))

-- if p and q have the same residue, so have x^w times p and x^w times q
pub x_same : (w : ℕ) (p q : List Bool) → coefficient (residue ghash_modulus p)
    ≡ coefficient (residue ghash_modulus q)
    → coefficient (residue ghash_modulus (replicate w false ++ p))
    ≡ coefficient (residue ghash_modulus (replicate w false ++ q))
x_same w p q e =
    let m : List Bool = ghash_modulus in
    let up : List Bool → List Bool = λ (r : List Bool). replicate w false ++ r in
    sym (x_residue w p)
    ∙ residue_same m (up (residue m p)) (up (residue m q)) refl (fun_ext (coefficient_below w (residue m p))
    ∙ ap (raised w) e ∙ sym (fun_ext (coefficient_below w (residue m q))))
    ∙ x_residue w q

-- a word is its own residue
pub own_residue : (z : ℕ) → IsReduced (of_word z) z
own_residue z k = sym (residue_of_lower ghash_modulus (of_word z) refl (λ i h. of_word_past z i h) k)

-- ---- products of some bits

-- the product of w + d bits and a word is that of the upper w bits, plus x^w times that of the lower d bits
pub product_joined : (w d n h : ℕ) → coefficient (product (of_bits (w + d) n) (of_word h))
    ≡ coefficient (sum (product (of_bits w (n / 2 ^ d)) (of_word h)) (replicate w false
    ++ product (of_bits d n) (of_word h)))
product_joined w d n h =
    let a : List Bool = of_bits w (n / 2 ^ d) in
    let b : List Bool = replicate w false ++ of_bits d n in
    let parts : coefficient (of_bits (w + d) n) ≡ coefficient (sum a b) =
    bits_joined w d n ∙ ap (sum_of (coefficient a)) (sym (fun_ext (coefficient_below w (of_bits d n))))
    ∙ sym (sum_is a b) in
    product_first (of_bits (w + d) n) (sum a b) (of_word h) parts ∙ product_of_sum a b (of_word h)
    ∙ ap (sum_of (coefficient (product a (of_word h)))) (x_first w (of_bits d n) (of_word h))
    ∙ sym (sum_is (product a (of_word h)) (replicate w false ++ product (of_bits d n) (of_word h)))

-- the product with x^w times a word has the same residue as x^w times the product with the word
moved_product : (w h moved : ℕ) (q : List Bool) → IsMoved w h moved
    → coefficient (residue ghash_modulus (product q (of_word moved)))
    ≡ coefficient (residue ghash_modulus (replicate w false ++ product q (of_word h)))
moved_product w h moved q mv =
    let m : List Bool = ghash_modulus in
    let up : List Bool = replicate w false ++ of_word h in
    residue_same m (product q (of_word moved)) (product q (residue m up)) refl
    (product_second q (of_word moved) (residue m up) (fun_ext mv))
    ∙ fun_ext (residue_product m q up refl) ∙ residue_same m (product q up) (replicate w false
    ++ product q (of_word h)) refl (x_second w q (of_word h))

-- the XOR of the product of the upper w bits with h, and of the lower d bits with x^w times h, is the product of all the bits
-- with h
pub joined : (w d n h moved a b : ℕ) → IsMoved w h moved → IsBitsProduct w (n / 2 ^ d) h a
    → IsBitsProduct d n moved b
    → IsBitsProduct (w + d) n h (bit_xor a b)
joined w d n h moved a b mv ha hb =
    let high : List Bool = product (of_bits w (n / 2 ^ d)) (of_word h) in
    let q : List Bool = of_bits d n in
    let low : List Bool = replicate w false ++ product q (of_word h) in
    reduced_same (sum high low) (product (of_bits (w + d) n) (of_word h)) (bit_xor a b)
    (sym (product_joined w d n h))
    (reduced_sum high low a b ha (λ k. hb k ∙ ap (λ f. f k) (moved_product w h moved q mv)))

-- the product of the w lowest bits of a * 2^w + b is that of b
pub product_low : (w a b n h z : ℕ) → a * 2 ^ w + b ≡ n → IsBitsProduct w b h z → IsBitsProduct w n h z
product_low w a b n h z e is = rw (bits_low w a b n e) at is

-- the product of one bit b and a word is b times the word
pub product_bit : (b h : ℕ) → b < 2 → IsBitsProduct 1 b h (b * h)
unfolding of_bits
product_bit zero h l = λ k.
    let m : List Bool = ghash_modulus in
    let none : coefficient (product (false ∷ []) (of_word h)) ≡ coefficient [] =
    product_is (false ∷ []) (of_word h) ∙ ap (sum_of (scaled false (coefficient (of_word h))))
    shift_none in
    ap (λ (x : ℕ). coefficient (of_word x) k) (zero-mul h) ∙ of_word_zero k
    ∙ sym (ap (λ f. f k) (residue_same m (product (false ∷ []) (of_word h)) [] refl none)
    ∙ residue_of_lower m [] refl (λ i l. refl) k)
product_bit (suc zero) h l = λ k.
    ap (λ (x : ℕ). coefficient (of_word x) k) (one-mul h) ∙ own_residue h k
    ∙ ap (λ f. f k) (residue_same ghash_modulus (of_word h) (product (true ∷ []) (of_word h)) refl
    (sym (product_one (of_word h))))
product_bit (suc (suc b)) h l = absurd (omega arith)

-- the upper bit of j times h, XORed with the lower bit times m, is the product of the two bits of j and h, if m is x times h
pub two_bits_by : (h m j : ℕ) → IsMoved 1 h m → j < 4 → IsBitsProduct 2 j h (bit_xor (j / 2 * h) (j % 2 * m))
two_bits_by h m j moved l =
    joined 1 1 j h m (j / 2 * h) (j % 2 * m) moved (product_bit (j / 2) h (omega arith))
    (product_low 1 (j / 2) (j % 2) j m (j % 2 * m) (omega arith)
    (product_bit (j % 2) m (omega arith)))

-- the product of all 128 bits of x and the word h is the product of the words
pub word_product_is : (x h z : ℕ) → IsBitsProduct 128 x h z → IsWordProduct x (to_be_bytes w128 h) z
unfolding IsWordProduct of_word
word_product_is x h z is =
    let agree : Agree (of_word z) (residue ghash_modulus (product (of_word x) (g (to_be_bytes w128 h)))) =
    rw (g-to_be h) is in
    the_residue ghash_modulus (product (of_word x) (g (to_be_bytes w128 h))) (of_word z) refl agree
