-- The lengths of states and blocks.
use Rattle.std.proofs.Common.{◌≡◌, ℕ, zero, suc, ◌*◌, List, [], ◌∷◌, length, set, refl, ap, ◌∙◌, arith}
use Rattle.std.proofs.lemmas.List.{length-set, length-append}
use Rattle.std.specs.Int.{w32, to_le_bytes}
use Rattle.chacha.specs.Block.{add_xor_rotate, quarter_round, column_round, diagonal_round, double_rounds}
use Rattle.chacha.specs.Block.{added, serialized, block_from, initial_state, block}

-- a step of the quarter round leaves the number of words unchanged
length-add_xor_rotate : (a b d n : ℕ) (s : List ℕ) → length (add_xor_rotate a b d n s) ≡ length s
unfolding add_xor_rotate
length-add_xor_rotate a b d n s = length-set (set s a _) d _ ∙ length-set s a _

-- a quarter round leaves the number of words unchanged
length-quarter_round : (a b c d : ℕ) (s : List ℕ) → length (quarter_round a b c d s) ≡ length s
unfolding quarter_round
length-quarter_round a b c d s =
    length-add_xor_rotate c d b 7 _ ∙ length-add_xor_rotate a b d 8 _ ∙ length-add_xor_rotate c d b 12 _
    ∙ length-add_xor_rotate a b d 16 s

-- a round of the columns leaves the number of words unchanged
pub length-column_round : (s : List ℕ) → length (column_round s) ≡ length s
unfolding column_round
length-column_round s =
    length-quarter_round 3 7 11 15 _ ∙ length-quarter_round 2 6 10 14 _ ∙ length-quarter_round 1 5 9 13 _
    ∙ length-quarter_round 0 4 8 12 s

-- a round of the diagonals leaves the number of words unchanged
length-diagonal_round : (s : List ℕ) → length (diagonal_round s) ≡ length s
unfolding diagonal_round
length-diagonal_round s =
    length-quarter_round 3 4 9 14 _ ∙ length-quarter_round 2 7 8 13 _ ∙ length-quarter_round 1 6 11 12 _
    ∙ length-quarter_round 0 5 10 15 s

-- double rounds leave the number of words unchanged
pub length-double_rounds : (n : ℕ) (s : List ℕ) → length (double_rounds n s) ≡ length s
unfolding double_rounds
length-double_rounds zero s = refl
length-double_rounds (suc n) s =
    length-diagonal_round (column_round (double_rounds n s)) ∙ length-column_round (double_rounds n s)
    ∙ length-double_rounds n s

-- the sum of two states of one length has that length
length-added : (x y : List ℕ) → length x ≡ length y → length (added x y) ≡ length y
unfolding added
length-added [] y same = same
length-added (a ∷ x) [] same = absurd (omega arith)
length-added (a ∷ x) (b ∷ y) same = ap suc (length-added x y (omega arith))

-- serialized words have four bytes each
pub length-serialized : (words : List ℕ) → length (serialized words) ≡ 4 * length words
unfolding serialized
length-serialized [] = refl
length-serialized (w ∷ words) =
    omega (arith, length-append (to_le_bytes w32 w) (serialized words), length-serialized words)

-- the initial state has sixteen words
pub length-initial_state : (key : List ℕ) (counter : ℕ) (nonce : List ℕ)
    → length (initial_state key counter nonce) ≡ 16
unfolding initial_state
length-initial_state key counter nonce = refl

-- a block has 64 bytes
pub length-block : (key : List ℕ) (counter : ℕ) (nonce : List ℕ) → length (block key counter nonce) ≡ 64
unfolding block block_from
length-block key counter nonce =
    let s = initial_state key counter nonce in
    length-serialized (added (double_rounds 10 s) s)
    ∙ ap (λ (n : ℕ). 4 * n) (length-added (double_rounds 10 s) s (length-double_rounds 10 s)
    ∙ length-initial_state key counter nonce)
