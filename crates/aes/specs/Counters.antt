-- Counter blocks, and the stream of bytes that they give (SP 800-38D, 6.2 and 6.5; RFC 8452, 4).
use Rattle.std.specs.Prelude.{◌≡◌, ℕ, ◌+◌, ◌/◌, ◌%◌, ◌^◌, List, ◌++◌, take, drop, get_or}
use Rattle.std.specs.Int.{bytes_high_first, bytes_low_first}
use Rattle.octets.specs.Bytes.{IsBlock, le, be}
use Rattle.aes.specs.Cipher.{cipher}

-- b after j times inc32: the number that its last four bytes spell, most significant byte first, plus j modulo 2^32
-- (SP 800-38D, 6.2)
unfoldable pub up_be : List ℕ → ℕ → List ℕ
up_be b j = take 12 b ++ bytes_high_first 4 ((be (drop 12 b) + j) % 2 ^ 32)

-- b after j steps of the number that its first four bytes spell, least significant byte first, modulo 2^32 (RFC 8452, 4)
unfoldable pub up_le : List ℕ → ℕ → List ℕ
up_le b j = bytes_low_first 0 4 ((le (take 4 b) + j) % 2 ^ 32) ++ drop 4 b

-- byte i of the stream under a key: byte i mod 16 of the cipher of block i / 16, where block j is `up first
-- j` (SP 800-38D, 6.5; RFC 8452, 4)
unfoldable pub counter_byte : (List ℕ → ℕ → List ℕ) → List ℕ → List ℕ → ℕ → ℕ
counter_byte up key first i = get_or (cipher key (up first (i / 16))) (i % 16) 0

-- 0 steps lead from a block to itself, and j + 1 steps to the block one step after the j-th
abbrev pub CountsOn : (List ℕ → ℕ → List ℕ) → Type 0
CountsOn up = (b : List ℕ) → IsBlock b → (up b 0 ≡ b) × ((j : ℕ) → up b (j + 1) ≡ up (up b j) 1)
