-- Products of bytes.
use Rattle.std.proofs.Common.{◌≡◌, ℕ, Bool, List, refl, sym, ap, ◌∙◌}
use mathlib.Core.Path.{fun_ext}
use Rattle.octets.specs.Bits.{bits, number}
use Rattle.octets.specs.Polynomial.{coefficient, Agree, product, residue}
use Rattle.octets.proofs.Sequence.{mult, mult_swap, mult_comm}
use Rattle.octets.proofs.Residue.{residue_lower}
use Rattle.octets.proofs.Ring.{product_is, residue_agree, residue_product}
use Rattle.octets.proofs.BitFacts.{number_agree, bits_number}
use Rattle.aes.specs.Field.{modulus, times}

-- the bits of a product of bytes are those of the residue of the product of their polynomials
pub bits_times : (x y : ℕ) → Agree (bits (times x y)) (residue modulus (product (bits x) (bits y)))
unfolding times
bits_times x y = bits_number (residue modulus (product (bits x) (bits y)))
    (λ i h. residue_lower modulus (product (bits x) (bits y)) i h)

-- if q and r agree, so do the products of p with q and with r
product_agree : (p q r : List Bool) → Agree q r → Agree (product p q) (product p r)
product_agree p q r same k =
    ap (λ h. h k) (product_is p q) ∙ ap (λ h. mult p h k) (fun_ext same)
    ∙ sym (ap (λ h. h k) (product_is p r))

-- a product of three bytes is the residue of the product of their polynomials
pub times_through : (z x y : ℕ)
    → times z (times x y) ≡ number (residue modulus (product (bits z) (product (bits x) (bits y))))
unfolding times
times_through z x y =
    let xy : List Bool = product (bits x) (bits y) in
    number_agree (residue modulus (product (bits z) (bits (times x y))))
    (residue modulus (product (bits z) xy))
    (λ k.
    residue_agree modulus (product (bits z) (bits (times x y))) (product (bits z) (residue modulus xy)) refl
    (product_agree (bits z) (bits (times x y)) (residue modulus xy) (bits_times x y)) k
    ∙ residue_product modulus (bits z) xy refl k)

-- products commute
pub times_comm : (x y : ℕ) → times x y ≡ times y x
unfolding times
times_comm x y =
    number_agree (residue modulus (product (bits x) (bits y))) (residue modulus (product (bits y) (bits x)))
    (residue_agree modulus (product (bits x) (bits y)) (product (bits y) (bits x)) refl
    (λ k. ap (λ h. h k) (product_is (bits x) (bits y)) ∙ ap (λ h. h k) (mult_comm (bits x) (bits y))
    ∙ sym (ap (λ h. h k) (product_is (bits y) (bits x)))))

-- z * (x * y) = y * (x * z)
pub times_swap : (z x y : ℕ) → times z (times x y) ≡ times y (times x z)
times_swap z x y =
    let p : List Bool = bits z in
    let q : List Bool = bits x in
    let r : List Bool = bits y in
    times_through z x y
    ∙ number_agree (residue modulus (product p (product q r))) (residue modulus (product r (product q p)))
    (residue_agree modulus (product p (product q r)) (product r (product q p)) refl
    (λ k.
    ap (λ h. h k) (product_is p (product q r) ∙ ap (mult p) (product_is q r)
    ∙ mult_swap p q (coefficient r) ∙ ap (mult q) (mult_comm p r) ∙ mult_swap q r (coefficient p)
    ∙ ap (mult r) (sym (product_is q p)) ∙ sym (product_is r (product q p)))))
    ∙ sym (times_through y x z)
