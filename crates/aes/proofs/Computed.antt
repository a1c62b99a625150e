-- The cipher computed: the S-box through its table, and the products with 2 and 3 by doubling.
use Rattle.std.proofs.Common.{◌≡◌, ℕ, zero, suc, ◌+◌, ◌-◌, ◌*◌, ◌/◌, ◌%◌, ◌<◌, cond, ◌&&◌, ◌==◌}
use Rattle.std.proofs.Common.{nat_lt, List, [], ◌∷◌, ◌++◌, map, take, drop, get_or, refl, sym, ap, ap₂, ◌∙◌}
use Rattle.std.proofs.Common.{bit_xor}
use mathlib.Core.Path.{fun_ext}
use Rattle.octets.specs.Bytes.{IsBlock}
use Rattle.aes.specs.Schedule.{xor_word, sub_word, rot_word, rcon, key_words, round_count, temp}
use Rattle.aes.specs.Schedule.{next_word, words, schedule}
use Rattle.aes.specs.Cipher.{at, grid, sub_bytes, shift_rows, mix_column, mix_columns, add_round_key, rounds}
use Rattle.aes.specs.Cipher.{cipher, IsKey}
use Rattle.aes.proofs.Tables.{sbox_table}
use Rattle.aes.proofs.Tables.{sbox_at}
use Rattle.aes.proofs.Multiples.{single_is, double, double_is, triple, triple_by}
use Rattle.aes.proofs.Rows.{dot_is, four}
use Rattle.aes.proofs.Steps.{AreWords, sub_block, shift_block}
use Rattle.aes.proofs.Permutation.{rot_word_is, words_are, rounds_block}

-- each item of a list is below 256
abbrev Small : List ℕ → Type 0
Small s = (i : ℕ) → get_or s i 0 < 256

-- ---- the schedule
abbrev sub_word_by_table : List ℕ → List ℕ
sub_word_by_table w = map (λ x. get_or sbox_table x 0) w

-- SubWord of a list of bytes is the table's entry at each byte
sub_word_is : (w : List ℕ) → Small w → sub_word w ≡ sub_word_by_table w
sub_word_is [] h = refl
sub_word_is (x ∷ w) h = ap₂ (λ y ys. y ∷ ys) (sym (sbox_at x (h 0))) (sub_word_is w (λ i. h (suc i)))

-- `temp`, with the table in place of SubWord
abbrev temp_by_table : ℕ → ℕ → List ℕ → List ℕ
temp_by_table nk i t =
    cond (i % nk == 0) (xor_word (sub_word_by_table (rot_word t)) (rcon (i / nk)))
    (cond ((nk == 8) && (i % 8 == 4)) (sub_word_by_table t) t)

-- `temp_by_table` computes `temp` of a list of bytes
temp_is : (nk i : ℕ) (t : List ℕ) → Small t → temp nk i t ≡ temp_by_table nk i t
unfolding temp
temp_is nk i t h =
    ap₂ (λ v w. cond (i % nk == 0) (xor_word v (rcon (i / nk))) (cond ((nk == 8) && (i % 8 == 4)) w t))
    (sub_word_is (rot_word t) (rot_word_is t h)) (sub_word_is t h)

-- word i with the table in place of the S-box, where ws holds the words before it
abbrev next_by_table : List ℕ → List (List ℕ) → ℕ → List ℕ
next_by_table key ws i =
    cond (nat_lt i (key_words key)) (take 4 (drop (4 * i) key))
    (xor_word (get_or ws (i - key_words key) []) (temp_by_table (key_words key) i (get_or ws (i - 1) [])))

-- `next_by_table` computes `next_word`, if every byte of the words ws is below 256
next_is : (key : List ℕ) (ws : List (List ℕ)) (i : ℕ) → AreWords ws
    → next_word key ws i ≡ next_by_table key ws i
unfolding next_word
next_is key ws i h =
    ap (λ w. cond (nat_lt i (key_words key)) (take 4 (drop (4 * i) key))
    (xor_word (get_or ws (i - key_words key) []) w))
    (temp_is (key_words key) i (get_or ws (i - 1) []) (h (i - 1)))

-- the first n words, with the table in place of the S-box
unfoldable pub words_by_table : List ℕ → ℕ → List (List ℕ)
words_by_table key zero = []
words_by_table key (suc n) = let ws : List (List ℕ) = words_by_table key n in
    ws ++ next_by_table key ws n ∷ []

-- `words_by_table` computes the words of a key of bytes
words_is : (key : List ℕ) (n : ℕ) → Small key → words key n ≡ words_by_table key n
unfolding words words_by_table
words_is key zero h = refl
words_is key (suc n) h =
    ap (λ w. words key n ++ w ∷ []) (next_is key (words key n) n (words_are key n h))
    ∙ ap (λ ws. ws ++ next_by_table key ws n ∷ []) (words_is key n h)

-- the whole schedule, with the table in place of the S-box
abbrev pub schedule_by_table : List ℕ → List (List ℕ)
schedule_by_table key = words_by_table key (4 * (round_count key + 1))

-- `schedule_by_table` computes the schedule of a key
pub schedule_is : (key : List ℕ) → IsKey key → schedule key ≡ schedule_by_table key
schedule_is key k = words_is key (4 * (round_count key + 1)) k.bytes

-- ---- the rounds
unfoldable pub sub_by_table : List ℕ → List ℕ
sub_by_table s = grid (λ r c. get_or sbox_table (at s r c) 0)

-- SubBytes of a list of bytes is the table's entry at each byte
sub_is : (s : List ℕ) → Small s → sub_bytes s ≡ sub_by_table s
unfolding sub_bytes sub_by_table
sub_is s h = ap grid (fun_ext (λ r. fun_ext (λ c. sym (sbox_at (at s r c) (h (r + 4 * c))))))

-- the product of the matrix and a column, computed by doubling
abbrev mixed : ℕ → ℕ → ℕ → ℕ → List ℕ
mixed a b c d =
    bit_xor (double a) (bit_xor (triple b) (bit_xor c d))
    ∷ bit_xor a (bit_xor (double b) (bit_xor (triple c) d)) ∷
    bit_xor a (bit_xor b (bit_xor (double c) (triple d)))
    ∷ bit_xor (triple a) (bit_xor b (bit_xor c (double d))) ∷ []

-- `mixed` computes the product of the matrix and a column of bytes
mixed_is : (a b c d : ℕ) → a < 256 → b < 256 → c < 256 → d < 256
    → mix_column (a ∷ b ∷ c ∷ d ∷ []) ≡ mixed a b c d
unfolding mix_column
mixed_is a b c d ha hb hc hd =
    four
    (sym (dot_is 2 3 1 1 a b c d (double a) (triple b) c d (sym (double_is a ha)) (sym (triple_by b hb))
    (sym (single_is c hc)) (sym (single_is d hd))))
    (sym (dot_is 1 2 3 1 a b c d a (double b) (triple c) d (sym (single_is a ha)) (sym (double_is b hb))
    (sym (triple_by c hc)) (sym (single_is d hd))))
    (sym (dot_is 1 1 2 3 a b c d a b (double c) (triple d) (sym (single_is a ha)) (sym (single_is b hb))
    (sym (double_is c hc)) (sym (triple_by d hd))))
    (sym (dot_is 3 1 1 2 a b c d (triple a) b c (double d) (sym (triple_by a ha)) (sym (single_is b hb))
    (sym (single_is c hc)) (sym (double_is d hd))))

-- MixColumns, computed by doubling
unfoldable pub mix_by_doubling : List ℕ → List ℕ
mix_by_doubling s = grid (λ r c. get_or (mixed (at s 0 c) (at s 1 c) (at s 2 c) (at s 3 c)) r 0)

-- `mix_by_doubling` computes MixColumns of a list of bytes
mix_is : (s : List ℕ) → Small s → mix_columns s ≡ mix_by_doubling s
unfolding mix_columns mix_by_doubling
mix_is s h =
    ap grid (fun_ext (λ r. fun_ext
    (λ c. ap (λ v. get_or v r 0)
    (mixed_is (at s 0 c) (at s 1 c) (at s 2 c) (at s 3 c) (h (0 + 4 * c)) (h (1 + 4 * c)) (h (2 + 4 * c))
    (h (3 + 4 * c))))))

-- the state after n rounds, by the table and by doubling
unfoldable pub rounds_computed : List (List ℕ) → ℕ → List ℕ → List ℕ
rounds_computed ws zero s = add_round_key ws 0 s
rounds_computed ws (suc n) s =
    add_round_key ws (suc n) (mix_by_doubling (shift_rows (sub_by_table (rounds_computed ws n s))))

-- `rounds_computed` computes the state after n rounds
rounds_is : (ws : List (List ℕ)) (n : ℕ) (s : List ℕ) → AreWords ws → IsBlock s
    → rounds ws n s ≡ rounds_computed ws n s
unfolding rounds rounds_computed
rounds_is ws zero s hw h = refl
rounds_is ws (suc n) s hw h =
    let t : List ℕ = rounds ws n s in
    let b : IsBlock t = rounds_block ws n s hw h in
    ap (add_round_key ws (suc n)) (
    mix_is (shift_rows (sub_bytes t)) (shift_block (sub_bytes t) (sub_block t b)).bytes
    ∙ ap (λ x. mix_by_doubling (shift_rows x)) (sub_is t b.bytes ∙ ap sub_by_table (rounds_is ws n s hw h)))

-- the cipher with the words of a schedule, by the table and by doubling
unfoldable pub cipher_computed : List (List ℕ) → ℕ → List ℕ → List ℕ
cipher_computed ws n s = add_round_key ws n (shift_rows (sub_by_table (rounds_computed ws (n - 1) s)))

-- `cipher_computed` computes the cipher, where ws is the schedule by the table
pub cipher_is_computed : (key s : List ℕ) (ws : List (List ℕ)) → IsKey key → IsBlock s
    → schedule_by_table key ≡ ws
    → cipher key s ≡ cipher_computed ws (round_count key) s
unfolding cipher cipher_computed
cipher_is_computed key s ws k h e =
    let n : ℕ = round_count key - 1 in
    let t : List ℕ = rounds (schedule key) n s in
    let hw : AreWords (schedule key) = words_are key (4 * (round_count key + 1)) k.bytes in
    let b : IsBlock t = rounds_block (schedule key) n s hw h in
    ap (λ x. add_round_key (schedule key) (round_count key) (shift_rows x))
    (sub_is t b.bytes ∙ ap sub_by_table (rounds_is (schedule key) n s hw h))
    ∙ ap (λ v. add_round_key v (round_count key) (shift_rows (sub_by_table (rounds_computed v n s))))
    (schedule_is key k ∙ e)
