-- Bytes as elements of the field of polynomials over two elements modulo x^8+x^4+x^3+x+1 (FIPS 197, 4), and
-- the S-box (5.1.1).
use Rattle.std.specs.Prelude.{◌≡◌, ℕ, ◌+◌, ◌%◌, ◌<◌, Bool, true, false, ◌==◌, List, [], ◌∷◌, map, unwrap_or}
use Rattle.std.specs.Prelude.{position, ◌⊎◌}
use Rattle.std.specs.List.{range_with_len}
use Rattle.octets.specs.Bits.{bit, bits, number}
use Rattle.octets.specs.Polynomial.{plus, product, residue}

-- x^8+x^4+x^3+x+1 (4.2)
abbrev pub modulus : List Bool
modulus = true ∷ true ∷ false ∷ true ∷ true ∷ false ∷ false ∷ false ∷ true ∷ []

-- the product of two bytes: the residue of the product of their polynomials (4.2)
unfoldable pub times : ℕ → ℕ → ℕ
times x y = number (residue modulus (product (bits x) (bits y)))

-- the inverse of a byte: the byte y with x * y = 1, and 0 for 0 (4.4)
unfoldable pub inverse : ℕ → ℕ
inverse x = unwrap_or (position (λ y. times x y == 1) (range_with_len 0 256)) 0

-- y is the only byte such that x * y = 1, or both are 0
abbrev pub IsInverse : ℕ → ℕ → Type 0
IsInverse x y = ((x ≡ 0) × (y ≡ 0))
    ⊎ ((y < 256) × (times x y ≡ 1) × ((z : ℕ) → z < 256 → times x z ≡ 1 → z ≡ y))

-- the affine map: bit i is b_i + b_(i+4) + b_(i+5) + b_(i+6) + b_(i+7) + c_i, indices modulo 8, with c = 63
-- (5.1.1)
unfoldable pub affine : ℕ → ℕ
affine y =
    let b : ℕ → Bool = λ i. bit y (i % 8) in
    number (map (λ i. plus (b i)
    (plus (b (i + 4)) (plus (b (i + 5)) (plus (b (i + 6)) (plus (b (i + 7)) (bit 0x63 i))))))
    (range_with_len 0 8))

-- the S-box (5.1.1)
unfoldable pub sbox : ℕ → ℕ
sbox x = affine (inverse x)
