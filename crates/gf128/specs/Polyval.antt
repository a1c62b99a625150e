-- POLYVAL (RFC 8452, 3 and appendix A). A block is read by `v`: the bit of weight 1 of byte 0 is the
-- coefficient of x^0.
use Rattle.std.specs.Prelude.{◌≡◌, ℕ, zero, suc, ◌/◌, ◌%◌, ◌<◌, ◌≤◌, Bool, true, false, List, [], ◌∷◌, ◌++◌}
use Rattle.std.specs.Prelude.{length, replicate, reverse}
use Rattle.octets.specs.Bytes.{block_at, IsBlock}
use Rattle.octets.specs.Bits.{g, v, bytes_of_g, bytes_of_v}
use Rattle.octets.specs.Polynomial.{coefficient, sum, product, residue, Agree, IsTheResidue}
use Rattle.gf128.specs.Ghash.{ghash_modulus, ghash}

-- the modulus of POLYVAL's field: x^128+x^127+x^126+x^121+1
abbrev pub polyval_modulus : List Bool
polyval_modulus =
    true ∷ (replicate 120 false ++ true ∷ false ∷ false ∷ false ∷ false ∷ true ∷ true ∷ true ∷ [])

-- x^128
abbrev pub x_to_128 : List Bool
x_to_128 = replicate 128 false ++ true ∷ []

-- c is of degree below 128, and c * x^128 and a * b have one residue
pub record IsDot (a : List Bool) (b : List Bool) (c : List Bool) : Type 0 where
  pub low : (k : ℕ) → 128 ≤ k → coefficient c k ≡ false
  pub same : Agree (residue polyval_modulus (product c x_to_128)) (residue polyval_modulus (product a b))

-- x^-128 = x^127+x^124+x^121+x^114+1
abbrev pub x_to_minus_128 : List Bool
x_to_minus_128 =
    true ∷ (replicate 113 false ++ true ∷ (replicate 6 false ++ true ∷ false ∷ false ∷ true ∷ false ∷ false
    ∷ true ∷ []))

-- dot(a, b), which is a * b * x^-128
unfoldable pub dot : List Bool → List Bool → List Bool
dot a b = residue polyval_modulus (product (product a b) x_to_minus_128)

-- S_n: S_0 is 0, and S_n is the dot of S_(n-1) + X_n and H, where X_1, X_2 .. are the blocks of m
unfoldable pub polyval_sum : List ℕ → List ℕ → ℕ → List Bool
polyval_sum h m zero = []
polyval_sum h m (suc n) = dot (sum (polyval_sum h m n) (v (block_at m n))) (v h)

-- POLYVAL under h of m, which is whole blocks
unfoldable pub polyval : List ℕ → List ℕ → List ℕ
polyval h m = bytes_of_v 16 (polyval_sum h m (length m / 16))

-- mulX of h: h times x, where h is read as GHASH reads a block (appendix A)
unfoldable pub mul_x : List ℕ → List ℕ
mul_x h = bytes_of_g 16 (residue ghash_modulus (false ∷ g h))

-- s is S_n, for any `dot` that has the defining property
unfoldable pub IsPolyvalSum : List ℕ → List ℕ → ℕ → List Bool → Type 0
IsPolyvalSum h m zero s = Agree s []
IsPolyvalSum h m (suc n) s = (t : List Bool) × IsPolyvalSum h m n t × IsDot (sum t (v (block_at m n)))
    (v h) s

-- y is a block whose polynomial is S_n for the n blocks of m
pub record IsPolyval (h : List ℕ) (m : List ℕ) (y : List ℕ) : Type 0 where
  pub is_block : IsBlock y
  pub sum_is : IsPolyvalSum h m (length m / 16) (v y)

-- the block k is h times x
unfoldable pub IsMulX : List ℕ → List ℕ → Type 0
IsMulX h k = IsTheResidue ghash_modulus (false ∷ g h) (g k)

-- the block k is mulX of the reversed h
abbrev pub IsReversedMulX : List ℕ → List ℕ → Type 0
IsReversedMulX h k = IsMulX (reverse h) k

-- r is m with the bytes of each block reversed
abbrev pub AreReversed : List ℕ → List ℕ → Type 0
AreReversed m r = (length r ≡ length m) × ((i : ℕ) → i < length m / 16
    → block_at r i ≡ reverse (block_at m i))

-- dot is the only c of degree below 128 such that c * x^128 and a * b have one residue
abbrev pub DotIsTheOnly : Type 0
DotIsTheOnly = (a b : List Bool) → IsDot a b (dot a b) × ((c : List Bool) → IsDot a b c → Agree c (dot a b))

-- POLYVAL is the only block whose polynomial is S_n for the n blocks of m
abbrev pub PolyvalIsTheOnly : Type 0
PolyvalIsTheOnly = (h m : List ℕ) → IsPolyval h m (polyval h m) × ((y : List ℕ) → IsPolyval h m y
    → y ≡ polyval h m)

-- POLYVAL is the byte reverse of GHASH under mulX of the reversed key over the reversed blocks
abbrev pub PolyvalByGhash : Type 0
PolyvalByGhash = (h m r : List ℕ) → IsBlock h → length m % 16 ≡ 0 → AreReversed m r
    → polyval h m ≡ reverse (ghash (mul_x (reverse h)) r)
