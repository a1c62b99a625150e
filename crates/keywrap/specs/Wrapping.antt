-- AES Key Wrap (RFC 3394, 2.2; SP 800-38F, 6.1 and 6.2). The register is a list of bytes: A is its first
-- eight bytes, R[1] the next eight, and so on to R[n].
use Rattle.std.specs.Prelude.{◌≡◌, ℕ, zero, suc, ◌+◌, ◌*◌, ◌/◌, ◌%◌, ◌≤◌, List, ◌++◌, take, drop, length}
use Rattle.std.specs.Prelude.{replicate}
use Rattle.std.specs.Int.{bytes_high_first}
use Rattle.octets.specs.Bytes.{AreBytes, xor_bytes}
use Rattle.aes.specs.Cipher.{cipher, IsKey}

-- step t (2.2.1): with B the cipher of A and R[1], A becomes the first half of B XOR t, where t is written in eight bytes, most
-- significant first; each other block moves down one place, and R[n] becomes the second half of B
unfoldable pub step : List ℕ → ℕ → List ℕ → List ℕ
step key t s =
    let b = cipher key (take 16 s) in
    xor_bytes (take 8 b) (bytes_high_first 8 t) ++ (drop 16 s ++ drop 8 b)

-- the register after the steps 1 to t
unfoldable pub steps : List ℕ → ℕ → List ℕ → List ℕ
steps key zero s = s
steps key (suc t) s = step key (suc t) (steps key t s)

-- the register after the 6n steps for a text of n blocks, where A begins as `first`
abbrev pub wrapping_from : List ℕ → List ℕ → List ℕ → List ℕ
wrapping_from first key text = steps key (6 * (length text / 8)) (first ++ text)

-- the default initial value (2.2.3.1)
abbrev pub initial_value : List ℕ
initial_value = replicate 8 0xa6

-- the wrapping of a text
abbrev pub wrapping : List ℕ → List ℕ → List ℕ
wrapping key text = wrapping_from initial_value key text

-- a text has whole blocks of eight bytes, and at least two (2)
pub record HasTextLength (text : List ℕ) : Type 0 where
  pub least : 16 ≤ length text
  pub whole : length text % 8 ≡ 0

-- a wrapping has one more block than a text
pub record HasWrappedLength (wrapped : List ℕ) : Type 0 where
  pub least : 24 ≤ length wrapped
  pub whole : length wrapped % 8 ≡ 0

-- text can be wrapped, and wrapped is its wrapping
pub record Unwrapped (key : List ℕ) (wrapped : List ℕ) (text : List ℕ) : Type 0 where
  pub length_is : HasTextLength text
  pub bytes : AreBytes (length text) text
  pub is : wrapped ≡ wrapping key text

-- the bytes were a wrapping, and are now the default initial value and its text
abbrev pub UnwrappedInPlace : List ℕ → List ℕ → List ℕ → Type 0
UnwrappedInPlace key wrapped bytes = Unwrapped key wrapped (drop 8 bytes) × (take 8 bytes ≡ initial_value)

-- wrapped is a valid wrapping: it is the wrapping of some text
abbrev pub IsWrapping : List ℕ → List ℕ → Type 0
IsWrapping key wrapped = (text : List ℕ) × Unwrapped key wrapped text

-- a wrapping has only one text, and is eight bytes longer
abbrev pub HasOneText : Type 0
HasOneText = (key : List ℕ) → IsKey key → (wrapped text : List ℕ) → Unwrapped key wrapped text
    → (length wrapped ≡ length text + 8) × ((other : List ℕ) → Unwrapped key wrapped other → other ≡ text)
