-- The key schedule (FIPS 197, 5.2). A word is a list of four bytes. A key has Nk words: 4, 6 or 8.
use Rattle.std.specs.Prelude.{◌≡◌, ℕ, zero, suc, ◌+◌, ◌-◌, ◌*◌, ◌/◌, ◌%◌, ◌<◌, ◌≤◌, Bool, true, false, ◌&&◌}
use Rattle.std.specs.Prelude.{◌==◌, nat_lt, List, [], ◌∷◌, ◌++◌, map, take, drop, get_or, length, replicate}
use Rattle.std.specs.Prelude.{bit_xor, if◌then◌else◌}
use Rattle.std.specs.List.{range_with_len}
use Rattle.octets.specs.Bits.{number}
use Rattle.octets.specs.Polynomial.{residue}
use Rattle.aes.specs.Field.{modulus, sbox}

-- the XOR of two words, byte by byte
unfoldable pub xor_word : List ℕ → List ℕ → List ℕ
xor_word v w = map (λ i. bit_xor (get_or v i 0) (get_or w i 0)) (range_with_len 0 4)

-- SubWord: the S-box at each byte
abbrev pub sub_word : List ℕ → List ℕ
sub_word w = map sbox w

-- RotWord: (a, b, c, d) to (b, c, d, a)
abbrev pub rot_word : List ℕ → List ℕ
rot_word w = get_or w 1 0 ∷ get_or w 2 0 ∷ get_or w 3 0 ∷ get_or w 0 0 ∷ []

-- x^n
abbrev pub x_power : ℕ → List Bool
x_power n = replicate n false ++ true ∷ []

-- Rcon: x^(j-1) and three zero bytes
unfoldable pub rcon : ℕ → List ℕ
rcon j = number (residue modulus (x_power (j - 1))) ∷ 0 ∷ 0 ∷ 0 ∷ []

-- Nk, the number of words in a key, and Nr, the number of rounds of its cipher (5)
abbrev pub key_words : List ℕ → ℕ
key_words key = length key / 4

abbrev pub round_count : List ℕ → ℕ
round_count key = key_words key + 6

-- temp, computed from the previous word t: word i is the sum of temp and the word Nk places back
unfoldable pub temp : ℕ → ℕ → List ℕ → List ℕ
temp nk i t =
    if i % nk == 0 then xor_word (sub_word (rot_word t)) (rcon (i / nk))
    else if (nk == 8) && (i % 8 == 4) then sub_word t
    else t

-- word i, where ws holds the words before it
unfoldable pub next_word : List ℕ → List (List ℕ) → ℕ → List ℕ
next_word key ws i =
    if nat_lt i (key_words key) then take 4 (drop (4 * i) key)
    else xor_word (get_or ws (i - key_words key) []) (temp (key_words key) i (get_or ws (i - 1) []))

-- the first n words of the schedule
unfoldable pub words : List ℕ → ℕ → List (List ℕ)
words key zero = []
words key (suc n) = words key n ++ next_word key (words key n) n ∷ []

-- the whole schedule
abbrev pub schedule : List ℕ → List (List ℕ)
schedule key = words key (4 * (round_count key + 1))

-- word i of the schedule
abbrev pub word : List ℕ → ℕ → List ℕ
word key i = get_or (schedule key) i []

-- a word before word Nk is the key's; any other is the sum of the word Nk places back and temp
abbrev pub MeetsRecurrence : Type 0
MeetsRecurrence = (key : List ℕ) (i : ℕ) → 0 < key_words key → i < 4 * (round_count key + 1)
    → (i < key_words key → word key i ≡ take 4 (drop (4 * i) key))
    × (key_words key ≤ i → word key i
    ≡ xor_word (word key (i - key_words key)) (temp (key_words key) i (word key (i - 1))))
