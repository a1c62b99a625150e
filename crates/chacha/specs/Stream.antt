-- The ChaCha20 key stream from a counter on (RFC 8439, 2.4).
use Rattle.std.specs.Prelude.{ℕ, ◌+◌, ◌/◌, ◌%◌, ◌^◌, ◌<◌, List, slice_index}
use Rattle.chacha.specs.Block.{block}

-- byte i of the key stream from counter first on
unfoldable pub key_stream_byte : List ℕ → List ℕ → ℕ → ℕ → ℕ
key_stream_byte key nonce first i = slice_index (block key (first + i / 64) nonce) (i % 64)

-- byte i of the key stream from counter first on exists: the counter of its block is below 2^32
abbrev pub HasByte : ℕ → ℕ → Type 0
HasByte first i = first + i / 64 < 2 ^ 32
