-- GHASH and POLYVAL as one sum in GHASH's field. They differ in the order in which they read the bytes of a block.
use Rattle.std.specs.Prelude.{◌≡◌, ℕ, zero, suc, ◌-◌, Bool, List, [], ◌++◌, reverse, length, get_or}
use Rattle.std.specs.Int.{w64, to_be_bytes, to_le_bytes}
use Rattle.octets.specs.Bytes.{block_at, IsBlock}
use Rattle.octets.specs.Bits.{g}
use Rattle.octets.specs.Polynomial.{Agree, sum, product, power, sum_of_first, residue}
use Rattle.gf128.specs.Ghash.{ghash_modulus, ghash}
use Rattle.gf128.specs.Polyval.{IsReversedMulX, polyval}
use Rattle.gf128.specs.Code.Words.{of_word}

-- GHASH reads the bytes of a block from the first to the last, POLYVAL from the last to the first
pub data Order : Type 0 where
  Straight : Order
  Reversed : Order

-- the polynomial of a block
abbrev pub reading : Order → List ℕ → List Bool
reading Straight b = g b
reading Reversed b = g (reverse b)

-- a block of two numbers of 8 bytes each: GHASH's have the most significant byte first, POLYVAL's the least significant one
-- (SP 800-38D, 7.1; RFC 8452, 4)
abbrev pub two_numbers : Order → ℕ → ℕ → List ℕ
two_numbers Straight a b = to_be_bytes w64 a ++ to_be_bytes w64 b
two_numbers Reversed a b = to_le_bytes w64 a ++ to_le_bytes w64 b

-- products with k compute the hash under h: k is h for GHASH, and mulX of the reversed h for POLYVAL
abbrev pub Serves : Order → List ℕ → List ℕ → Type 0
Serves Straight h k = k ≡ h
Serves Reversed h k = IsBlock h × IsReversedMulX h k

-- the hash under h of m, which is whole blocks
abbrev pub hash_by : Order → List ℕ → List ℕ → List ℕ
hash_by Straight h m = ghash h m
hash_by Reversed h m = polyval h m

-- the sum of the residues of X_i * K^(n-i+1), where X_1 .. X_n are the first n blocks of m
unfoldable pub block_sum : Order → List ℕ → List ℕ → ℕ → List Bool
block_sum o k m n = sum_of_first n
    (λ i. residue ghash_modulus (product (reading o (block_at m i)) (power (g k) (n - i))))

-- Y_n of SP 800-38D, 6.4, where Y_0 is s and X_1 .. X_n are the first n blocks: Y_i is (Y_(i-1) + X_i) * K
unfoldable pub sum_after : Order → List ℕ → List Bool → List (List ℕ) → ℕ → List Bool
sum_after o k s blocks zero = s
sum_after o k s blocks (suc n) =
    residue ghash_modulus (product (sum (sum_after o k s blocks n) (reading o (get_or blocks n []))) (g k))

-- if the word s is the sum before the blocks, the word z is the sum after them
abbrev pub IsSumAfter : Order → List ℕ → ℕ → List (List ℕ) → ℕ → Type 0
IsSumAfter o k s blocks z = Agree (of_word z) (sum_after o k (of_word s) blocks (length blocks))
