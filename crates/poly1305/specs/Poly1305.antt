-- The one-time authenticator Poly1305 (RFC 8439, 2.5) in closed form.
use Rattle.std.specs.Prelude.{ℕ, ◌+◌, ◌-◌, ◌*◌, ◌%◌, ◌^◌, List, length, take, drop, bit_and}
use Rattle.std.specs.Int.{w128, to_le_bytes}
use Rattle.octets.specs.Bytes.{le, sum_below, block_at, block_count}

-- the modulus
abbrev pub prime : ℕ
prime = 2 ^ 130 - 5

-- the key's first half as a little-endian number, with 22 of its bits cleared ('clamped')
abbrev pub r_of : List ℕ → ℕ
r_of key = bit_and (le (take 16 key)) 0x0ffffffc0ffffffc0ffffffc0fffffff

-- the key's second half as a little-endian number
abbrev pub s_of : List ℕ → ℕ
s_of key = le (drop 16 key)

-- the number of a block: its bytes as a little-endian number, with one more bit set after the last byte
abbrev pub block_number : List ℕ → ℕ
block_number b = le b + 2 ^ (8 * length b)

-- c_0 * r^q + c_1 * r^(q-1) + .. + c_(q-1) * r, where c_i is the number of block i of m
unfoldable pub block_sum : ℕ → List ℕ → ℕ → ℕ
block_sum r m q = sum_below (λ i. block_number (block_at m i) * r ^ (q - i)) q

-- the tag of m: the sum over all its blocks modulo 2^130 - 5, plus s, modulo 2^128, as 16 bytes, the least
-- significant first
unfoldable pub poly1305 : List ℕ → List ℕ → List ℕ
poly1305 key m = to_le_bytes w128 ((block_sum (r_of key) m (block_count m) % prime + s_of key) % 2 ^ 128)
