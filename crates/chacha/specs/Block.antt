-- The ChaCha20 block (RFC 8439, 2.1 to 2.3). A word is a number below 2^32, and a state is a list of sixteen words.
use Rattle.std.specs.Prelude.{ℕ, zero, suc, ◌+◌, ◌*◌, ◌%◌, ◌^◌, List, [], ◌∷◌, ◌++◌}
use Rattle.std.specs.Prelude.{take, drop, map, flat_map, bit_xor, slice_index, slice_set}
use Rattle.std.specs.List.{range_with_len}
use Rattle.std.specs.Int.{w32, rotate_left, to_le_bytes}
use Rattle.octets.specs.Bytes.{le}

-- a += b; d ^= a; d <<<= n, on the words at places a, b and d of a state (2.1)
unfoldable pub add_xor_rotate : ℕ → ℕ → ℕ → ℕ → List ℕ → List ℕ
add_xor_rotate a b d n s =
    let sum = (slice_index s a + slice_index s b) % 2 ^ 32 in
    slice_set (slice_set s a sum) d (rotate_left w32 (bit_xor (slice_index s d) sum) n)

-- the quarter round on the words at places a, b, c and d of a state (2.1, 2.2)
unfoldable pub quarter_round : ℕ → ℕ → ℕ → ℕ → List ℕ → List ℕ
quarter_round a b c d s =
    add_xor_rotate c d b 7 (add_xor_rotate a b d 8 (add_xor_rotate c d b 12 (add_xor_rotate a b d 16 s)))

-- the quarter round on each column of the state, read as four rows of four words (2.3)
unfoldable pub column_round : List ℕ → List ℕ
column_round s =
    quarter_round 3 7 11 15 (quarter_round 2 6 10 14 (quarter_round 1 5 9 13 (quarter_round 0 4 8 12 s)))

-- the quarter round on each diagonal (2.3)
unfoldable pub diagonal_round : List ℕ → List ℕ
diagonal_round s =
    quarter_round 3 4 9 14 (quarter_round 2 7 8 13 (quarter_round 1 6 11 12 (quarter_round 0 5 10 15 s)))

-- the state after n double rounds: the columns, then the diagonals (2.3)
unfoldable pub double_rounds : ℕ → List ℕ → List ℕ
double_rounds zero s = s
double_rounds (suc n) s = diagonal_round (column_round (double_rounds n s))

-- the sums of the words of two states, place by place (2.3)
unfoldable pub added : List ℕ → List ℕ → List ℕ
added [] ys = []
added (x ∷ xs) [] = []
added (x ∷ xs) (y ∷ ys) = (x + y) % 2 ^ 32 ∷ added xs ys

-- the words written one after the other, each with its lowest byte first (2.3)
unfoldable pub serialized : List ℕ → List ℕ
serialized words = flat_map (to_le_bytes w32) words

-- the 64 bytes of the block that starts from a state: ten double rounds, the start added, written out (2.3)
unfoldable pub block_from : List ℕ → List ℕ
block_from s = serialized (added (double_rounds 10 s) s)

-- the first n words that a list of bytes spells, lowest byte first
abbrev pub words_of : ℕ → List ℕ → List ℕ
words_of n bytes = map (λ i. le (take 4 (drop (4 * i) bytes))) (range_with_len 0 n)

-- four constants, eight words of the key, the counter, three words of the nonce (2.3)
unfoldable pub initial_state : List ℕ → ℕ → List ℕ → List ℕ
initial_state key counter nonce =
    0x61707865 ∷ 0x3320646e ∷ 0x79622d32 ∷ 0x6b206574 ∷ words_of 8 key ++ counter ∷ words_of 3 nonce

-- the 64 bytes of the block of a key of 32 bytes, a counter below 2^32 and a nonce of 12 bytes (2.3)
unfoldable pub block : List ℕ → ℕ → List ℕ → List ℕ
block key counter nonce = block_from (initial_state key counter nonce)
