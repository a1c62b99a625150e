-- AES Key Wrap with Padding (RFC 5649, 3 and 4; SP 800-38F, 6.3). The register is that of RFC 3394.
use Rattle.std.specs.Prelude.{◌≡◌, ℕ, ◌+◌, ◌-◌, ◌*◌, ◌/◌, ◌%◌, ◌^◌, ◌<◌, ◌≤◌, List, [], ◌∷◌, ◌++◌, length}
use Rattle.std.specs.Prelude.{take, drop, replicate, ◌==◌, if◌then◌else◌}
use Rattle.std.specs.Int.{bytes_high_first}
use Rattle.octets.specs.Bytes.{AreBytes}
use Rattle.aes.specs.Cipher.{cipher, IsKey}
use Rattle.keywrap.specs.Wrapping.{steps}

-- the constant of the alternative initial value (3)
abbrev pub constant : List ℕ
constant = 0xa6 ∷ 0x59 ∷ 0x59 ∷ 0xa6 ∷ []

-- the alternative initial value for a text of n bytes: the constant, then n in four bytes, most significant byte first (3)
abbrev pub alternative_value : ℕ → List ℕ
alternative_value n = constant ++ bytes_high_first 4 n

-- a text followed by the fewest zero bytes that make its length a multiple of 8 (4.1)
abbrev pub padded : List ℕ → List ℕ
padded text = text ++ replicate ((8 - length text % 8) % 8) 0

-- the transformation of A and n blocks: their cipher if n is 1, else the register after the 6n steps of RFC 3394 (4.1)
unfoldable pub transformed : List ℕ → List ℕ → List ℕ
transformed key s = if length s == 16 then cipher key s else steps key (6 * ((length s - 8) / 8)) s

-- the wrapping of a text with padding
abbrev pub padded_wrapping : List ℕ → List ℕ → List ℕ
padded_wrapping key text = transformed key (alternative_value (length text) ++ padded text)

-- the length of a text to pad is at least 1 and fits in 32 bits
pub record HasPaddableLength (text : List ℕ) : Type 0 where
  pub least : 1 ≤ length text
  pub most : length text < 2 ^ 32

-- bytes are A and at least one whole block of eight bytes
pub record HasBlocks (wrapped : List ℕ) : Type 0 where
  pub least : 16 ≤ length wrapped
  pub whole : length wrapped % 8 ≡ 0

-- bytes have room for A and for a text of n bytes with its padding
pub record HasPaddedRoom (bytes : List ℕ) (n : ℕ) : Type 0 where
  pub least : 1 ≤ n
  pub room : length bytes ≡ 8 + (n + (8 - n % 8) % 8)

-- text is a text to pad, and wrapped is its wrapping with padding
pub record UnwrappedPadded (key : List ℕ) (wrapped : List ℕ) (text : List ℕ) : Type 0 where
  pub length_is : HasPaddableLength text
  pub bytes : AreBytes (length text) text
  pub is : wrapped ≡ padded_wrapping key text

-- the bytes had room for A and for a text of n bytes, which began at offset 8, and are now its wrapping with padding
abbrev pub WrappedPaddedInPlace : List ℕ → List ℕ → ℕ → List ℕ → Type 0
WrappedPaddedInPlace key room n bytes =
    HasPaddedRoom room n × UnwrappedPadded key bytes (take n (drop 8 room))

-- the bytes were a wrapping with padding, and are now the alternative initial value for n, its text of n bytes, and the zeros
-- after it
abbrev pub UnwrappedPaddedInPlace : List ℕ → List ℕ → ℕ → List ℕ → Type 0
UnwrappedPaddedInPlace key wrapped n bytes = (8 + n ≤ length bytes)
    × UnwrappedPadded key wrapped (take n (drop 8 bytes))
    × (bytes ≡ alternative_value n ++ padded (take n (drop 8 bytes)))

-- an output is the text of n bytes of a wrapping with padding, and the zeros after it
abbrev pub UnwrappedPaddedTo : List ℕ → List ℕ → ℕ → List ℕ → Type 0
UnwrappedPaddedTo key wrapped n output = (n ≤ length output)
    × UnwrappedPadded key wrapped (take n output)
    × (output ≡ padded (take n output))

-- wrapped is a valid wrapping with padding: it is the wrapping of some text
abbrev pub IsPaddedWrapping : List ℕ → List ℕ → Type 0
IsPaddedWrapping key wrapped = (text : List ℕ) × UnwrappedPadded key wrapped text

-- a wrapping with padding has only one text, and is eight bytes longer than the padded text
abbrev pub HasOnePaddedText : Type 0
HasOnePaddedText = (key : List ℕ) → IsKey key → (wrapped text : List ℕ) → UnwrappedPadded key wrapped text
    → (length wrapped ≡ length (padded text) + 8)
    × ((other : List ℕ) → UnwrappedPadded key wrapped other → other ≡ text)
