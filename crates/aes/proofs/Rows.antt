-- The rows of MixColumns as the code adds them, and the round constants.
use Rattle.std.proofs.Common.{◌≡◌, ℕ, ◌+◌, ◌-◌, ◌<◌, true, ◌==◌, List, [], ◌∷◌, get_or, refl, sym, ap, ap₂}
use Rattle.std.proofs.Common.{◌∙◌, arith, bit_xor}
use Rattle.std.specs.Int.Bits.{xor_zero_r}
use Rattle.std.proofs.lemmas.Bool.{eqb-true}
use Rattle.octets.specs.Bits.{number}
use Rattle.octets.specs.Polynomial.{residue}
use Rattle.aes.specs.Field.{times, modulus}
use Rattle.aes.specs.Schedule.{x_power, rcon}
use Rattle.aes.specs.Cipher.{dot}
use Rattle.aes.proofs.Tested.{all_below, all_below_at}

-- the XOR of four products is the dot product of a row and a column
pub dot_is : (k l m n a b c d p q r s : ℕ) → p ≡ times k a → q ≡ times l b → r ≡ times m c → s ≡ times n d
    → bit_xor p (bit_xor q (bit_xor r s)) ≡ dot (k ∷ l ∷ m ∷ n ∷ []) (a ∷ b ∷ c ∷ d ∷ [])
dot_is k l m n a b c d p q r s e f g h =
    ap₂ bit_xor e (ap₂ bit_xor f (ap₂ bit_xor g (h ∙ sym (xor_zero_r (times n d)))))

-- two lists of four items are equal if their items are
pub four : {a b c d p q r s : ℕ} → a ≡ p → b ≡ q → c ≡ r → d ≡ s
    → ◌≡◌ {A = List ℕ} (a ∷ b ∷ c ∷ d ∷ []) (p ∷ q ∷ r ∷ s ∷ [])
four e f g h = ap₂ (λ x y. x ∷ y) e (ap₂ (λ x y. x ∷ y) f (ap₂ (λ x y. x ∷ y) g (ap (λ x. x ∷ []) h)))

-- the first bytes of the round constants, from Rcon[1] on, with 0 before them
abbrev pub constants : List ℕ
constants = 0 ∷ 1 ∷ 2 ∷ 4 ∷ 8 ∷ 16 ∷ 32 ∷ 64 ∷ 128 ∷ 27 ∷ 54 ∷ []

-- each constant after the first is a power of x, tested at each one
constants_computed : all_below (λ j. get_or constants (j + 1) 0 == number (residue modulus (x_power j))) 10
    ≡ true
unfolding residue
constants_computed = refl

-- each constant after the first is a power of x
constant_at : (j : ℕ) → j < 10 → get_or constants (j + 1) 0 ≡ number (residue modulus (x_power j))
constant_at j h =
    eqb-true (get_or constants (j + 1) 0) (number (residue modulus (x_power j)))
    (all_below_at (λ j. get_or constants (j + 1) 0 == number (residue modulus (x_power j))) 10 j
    constants_computed h)

-- a constant and three zeros are the round constant
pub rcon_is : (j : ℕ) → 0 < j → j < 11 → ◌≡◌ {A = List ℕ} (get_or constants j 0 ∷ 0 ∷ 0 ∷ 0 ∷ []) (rcon j)
unfolding rcon
rcon_is j low high =
    let e : (j - 1) + 1 ≡ j = omega arith in
    ap (λ x. x ∷ 0 ∷ 0 ∷ 0 ∷ []) (ap (λ i. get_or constants i 0) (sym e) ∙ constant_at (j - 1) (omega arith))
