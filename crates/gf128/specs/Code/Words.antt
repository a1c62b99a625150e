-- Words of 128 bits as polynomials.
use Rattle.std.specs.Prelude.{◌≡◌, ℕ, zero, suc, ◌+◌, ◌-◌, ◌*◌, ◌/◌, ◌%◌, ◌^◌, Bool, false, List, [], ◌∷◌, ◌++◌}
use Rattle.std.specs.Prelude.{◌<◌, length, take, drop, get_or, slice_index, map, replicate, bit_xor}
use Rattle.std.specs.List.{range_with_len}
use Rattle.octets.specs.Bytes.{le}
use Rattle.octets.specs.Bits.{bit, g}
use Rattle.octets.specs.Polynomial.{Agree, sum, product, power, sum_of_first, residue}
use Rattle.octets.specs.Polynomial.{IsTheResidue}
use Rattle.gf128.specs.Ghash.{ghash_modulus}

-- the polynomial of the w lowest bits of a number: the bit of weight 2^(w-1) is the coefficient of x^0
unfoldable pub of_bits : ℕ → ℕ → List Bool
of_bits w n = map (λ k. bit n (w - 1 - k)) (range_with_len 0 w)

-- the polynomial of a word: the bit of weight 2^127 is the coefficient of x^0
unfoldable pub of_word : ℕ → List Bool
of_word n = of_bits 128 n

-- the word z is the product of the word x and the block y in GHASH's field
unfoldable pub IsWordProduct : ℕ → List ℕ → ℕ → Type 0
IsWordProduct x y z = IsTheResidue ghash_modulus (product (of_word x) (g y)) (of_word z)

-- the word z is the residue of p
abbrev pub IsReduced : List Bool → ℕ → Type 0
IsReduced p z = Agree (of_word z) (residue ghash_modulus p)

-- the word z is the product of the w lowest bits of n and the word h
abbrev pub IsBitsProduct : ℕ → ℕ → ℕ → ℕ → Type 0
IsBitsProduct w n h z = IsReduced (product (of_bits w n) (of_word h)) z

-- the product of each byte and the polynomial p is the sum of an entry of each table
abbrev pub AreMultiples : List Bool → (ℕ → ℕ) → (ℕ → ℕ) → Type 0
AreMultiples p high low =
    (n : ℕ) → n < 256 → IsReduced (product (of_bits 8 n) p) (bit_xor (high (n / 16)) (low (n % 16)))

-- the word z is x^w times the word h
abbrev pub IsMoved : ℕ → ℕ → ℕ → Type 0
IsMoved w h z = IsReduced (replicate w false ++ of_word h) z

-- the sum of the products of the w lowest bits of each number and its word
abbrev pub products : ℕ → List (ℕ × ℕ) → List Bool
products w [] = []
products w (p ∷ rest) = sum (product (of_bits w p.0) (of_word p.1)) (products w rest)

-- the word z is the sum of a * y^4, b * y^3, c * y^2 and d * y in GHASH's field
unfoldable pub IsFourProducts : ℕ → ℕ → ℕ → ℕ → List ℕ → ℕ → Type 0
IsFourProducts a b c d y z =
    Agree (of_word z) (sum_of_first 4
    (λ i. residue ghash_modulus (product (of_word (get_or (a ∷ b ∷ c ∷ d ∷ []) i 0))
    (power (g y) (4 - i)))))

-- the coefficients of GHASH's modulus below x^128, as a word
abbrev pub reduction : ℕ
reduction = 0xe1000000000000000000000000000000

-- a word times x
abbrev pub times_x : ℕ → ℕ
times_x n = bit_xor (n / 2) (n % 2 * reduction)

-- the word n with each of its two halves of 64 bits shifted up by c places
abbrev pub halves_up : ℕ → ℕ → ℕ
halves_up c n = n % 2 ^ 64 * 2 ^ c % 2 ^ 64 + 2 ^ 64 * (n / 2 ^ 64 * 2 ^ c % 2 ^ 64)

-- the word n with each of its two halves of 64 bits shifted down by c places
abbrev pub halves_down : ℕ → ℕ → ℕ
halves_down c n = n % 2 ^ 64 / 2 ^ c + 2 ^ 64 * (n / 2 ^ 64 / 2 ^ c)

-- the number of 256 bits that three words make, the second one moved up by 64 places and the third by 128
abbrev pub total : ℕ → ℕ → ℕ → ℕ
total a b c = bit_xor a (bit_xor (b * 2 ^ 64) (c * 2 ^ 128))

-- a number of 256 bits, reduced: the bit of weight 2^255 is the coefficient of x^0, and those of weight below 2^7 are 0
abbrev pub folded_wide : ℕ → ℕ
folded_wide n =
    let f : ℕ = n % 2 ^ 128 in
    bit_xor (n / 2 ^ 128) (bit_xor f (bit_xor (f / 2 ^ 1) (bit_xor (f / 2 ^ 2) (f / 2 ^ 7))))

-- the first q words, word j moved up by j + 1 bytes
unfoldable pub placed : (ℕ → ℕ) → ℕ → ℕ
placed r zero = 0
placed r (suc q) = bit_xor (placed r q) (r q * 2 ^ (8 * q + 8))

-- what a pair of tables of sixteen bytes gives for the high and the low four bits of each of sixteen bytes
unfoldable pub looked_up : List ℕ → List ℕ → List ℕ → List ℕ
looked_up high low x =
    map (λ p. bit_xor (get_or high (slice_index x p / 16) 0) (get_or low (slice_index x p % 16) 0)) (range_with_len 0 16)

-- the table at an index
abbrev pub table_at : List (List ℕ) → ℕ → List ℕ
table_at tables j = get_or tables j []

-- entry n of sixteen tables: byte j of the number is byte n of table j
unfoldable pub entry : List (List ℕ) → ℕ → ℕ
entry tables n = le (map (λ j. get_or (table_at tables j) n 0) (range_with_len 0 16))

-- all entries of all tables are bytes
abbrev pub AreBytes : List (List ℕ) → Type 0
AreBytes tables = (j n : ℕ) → get_or (table_at tables j) n 0 < 256

-- the tables hold the bytes of the multiples of the word h
pub record AreTables (h : ℕ) (high : List (List ℕ)) (low : List (List ℕ)) : Type 0 where
  pub high_bytes : AreBytes high
  pub low_bytes : AreBytes low
  pub filled : AreMultiples (of_word h) (entry high) (entry low)

-- the sum of those of four numbers at which n has a bit, that of weight 8 for the first one
abbrev pub mixed : ℕ → ℕ → ℕ → ℕ → ℕ → ℕ
mixed n a b c d = bit_xor (bit_xor (n / 4 / 2 * a) (n / 4 % 2 * b)) (bit_xor (n % 4 / 2 * c) (n % 4 % 2 * d))

-- the word that tables at index j give for the bytes x
abbrev pub looked_word : List (List ℕ) → List (List ℕ) → List ℕ → ℕ → ℕ
looked_word high low x j = le (looked_up (table_at high j) (table_at low j) x)

-- the sum of the words that the tables at index j of four multipliers give, each for bytes of its own
abbrev pub looked_four : (ℕ → ℕ) → (ℕ → ℕ) → (ℕ → ℕ) → (ℕ → ℕ) → ℕ → ℕ
looked_four p q r s j = bit_xor (bit_xor (p j) (q j)) (bit_xor (r j) (s j))

-- 32 bytes
abbrev pub IsPair : List ℕ → Type 0
IsPair bs = (length bs ≡ 32) × ((i : ℕ) → get_or bs i 0 < 256)

-- the XOR of the two words that 32 bytes spell
abbrev pub both : List ℕ → ℕ
both bs = bit_xor (le (take 16 bs)) (le (drop 16 bs))

-- the first half of each table of 32 bytes, and the second half
abbrev pub first_tables : List (List ℕ) → List (List ℕ)
first_tables tables = map (take 16) tables

abbrev pub second_tables : List (List ℕ) → List (List ℕ)
second_tables tables = map (drop 16) tables

-- the blocks in groups of four are these blocks in the same order
abbrev pub AreFours : List (List (List ℕ)) → List (List ℕ) → Type 0
AreFours fours blocks =
    (n j : ℕ) → n < length fours → j < 4 → get_or (get_or fours n []) j [] ≡ get_or blocks (n * 4 + j) []
