-- Products of bytes distribute over sums of bytes.
use Rattle.std.proofs.Common.{◌≡◌, ℕ, Bool, List, refl, sym, ap, ap₂, ◌∙◌, bit_xor}
use mathlib.Core.Path.{fun_ext}
use Rattle.std.specs.Int.Bits.{xor_comm, xor_assoc, xor_self}
use Rattle.octets.specs.Bits.{bit, bits}
use Rattle.octets.specs.Polynomial.{coefficient, plus, sum, Agree, product, residue}
use Rattle.octets.proofs.Sequence.{mult, mult_sum}
use Rattle.octets.proofs.Ring.{coefficient_product, coefficient_sum, residue_agree, residue_sum}
use Rattle.octets.proofs.BitFacts.{bit_number, bit_of_xor, same_bits, bits_of_xor}
use Rattle.aes.specs.Field.{modulus, times}
use Rattle.aes.proofs.FieldFacts.{times_comm, times_swap}

-- a bit of a product of bytes is a coefficient of the residue of the product of their polynomials
bit_times : (x y i : ℕ) → bit (times x y) i ≡ coefficient (residue modulus (product (bits x) (bits y))) i
unfolding times
bit_times x y i = bit_number (residue modulus (product (bits x) (bits y))) i

-- the product of the polynomials of x and a sum is the sum of the products
product_xor : (x y z : ℕ)
    → Agree (product (bits x) (bits (bit_xor y z)))
    (sum (product (bits x) (bits y)) (product (bits x) (bits z)))
product_xor x y z k =
    let p : List Bool = bits x in
    coefficient_product p (bits (bit_xor y z)) k
    ∙ ap (λ h. mult p h k) (fun_ext (λ i. bits_of_xor y z i ∙ coefficient_sum (bits y) (bits z) i))
    ∙ ap (λ h. h k) (mult_sum p (coefficient (bits y)) (coefficient (bits z)))
    ∙ sym (coefficient_sum (product p (bits y)) (product p (bits z)) k
    ∙ ap₂ plus (coefficient_product p (bits y) k) (coefficient_product p (bits z) k))

-- the product with a sum is the sum of the products
pub times_xor : (x y z : ℕ) → times x (bit_xor y z) ≡ bit_xor (times x y) (times x z)
times_xor x y z =
    let p : List Bool = bits x in
    same_bits (times x (bit_xor y z)) (bit_xor (times x y) (times x z))
    (λ i.
    bit_times x (bit_xor y z) i
    ∙ residue_agree modulus (product p (bits (bit_xor y z))) (sum (product p (bits y)) (product p (bits z)))
    refl (product_xor x y z) i
    ∙ residue_sum modulus (product p (bits y)) (product p (bits z)) refl i
    ∙ coefficient_sum (residue modulus (product p (bits y))) (residue modulus (product p (bits z))) i
    ∙ sym (bit_of_xor (times x y) (times x z) i ∙ ap₂ plus (bit_times x y i) (bit_times x z i)))

-- the product with 0 is 0
pub times_zero : (x : ℕ) → times x 0 ≡ 0
times_zero x = times_xor x 0 0 ∙ xor_self (times x 0)

-- the product of 0 and a byte is 0
pub zero_times : (x : ℕ) → times 0 x ≡ 0
zero_times x = times_comm 0 x ∙ times_zero x

-- the product of a sum and a byte is the sum of the products
pub xor_times : (x y z : ℕ) → times (bit_xor x y) z ≡ bit_xor (times x z) (times y z)
xor_times x y z = times_comm (bit_xor x y) z ∙ times_xor z x y ∙ ap₂ bit_xor (times_comm z x) (times_comm z y)

-- products of bytes associate
pub times_assoc : (x y z : ℕ) → times x (times y z) ≡ times (times x y) z
times_assoc x y z = times_swap x y z ∙ ap (times z) (times_comm y x) ∙ times_comm z (times x y)

-- the middle two of four terms may be exchanged
pub xor_exchange : (a b c d : ℕ) → bit_xor (bit_xor a b) (bit_xor c d) ≡ bit_xor (bit_xor a c) (bit_xor b d)
xor_exchange a b c d =
    xor_assoc a b (bit_xor c d)
    ∙ ap (bit_xor a) (sym (xor_assoc b c d) ∙ ap (λ x. bit_xor x d) (xor_comm b c) ∙ xor_assoc c b d)
    ∙ sym (xor_assoc a c (bit_xor b d))
