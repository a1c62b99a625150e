-- Columns as words: their sums, rotations and bytes.
use Rattle.std.proofs.Common.{◌≡◌, ℕ, ◌+◌, ◌*◌, ◌/◌, ◌%◌, ◌^◌, ◌<◌, true, ◌==◌}
use Rattle.std.proofs.Common.{List, [], ◌∷◌, ◌++◌, get_or, length, zero, suc, refl, sym, ap, ap₂, ◌∙◌}
use Rattle.std.proofs.Common.{arith, bit_or, bit_xor, w32}
use Rattle.std.specs.Int.{bytes_low_first, rotate_left, from_le_bytes}
use Rattle.std.proofs.lemmas.Nat.{xor_shr, xor_mod, or_shifted}
use Rattle.std.proofs.lemmas.Bool.{eqb-true}
use Rattle.aes.specs.Field.{times, sbox}
use Rattle.aes.specs.Schedule.{xor_word}
use Rattle.aes.specs.Cipher.{sub_bytes, shift_rows, mix_column, mix_columns, add_round_key}
use Rattle.aes.specs.Code.Columns.{column_of, columns_of, state_of}
use Rattle.aes.proofs.Tables.{sbox_table}
use Rattle.aes.specs.declared.round_table.TheConstants.{TABLE}
use Rattle.aes.proofs.Tested.{all_below, all_below_at}
use Rattle.aes.proofs.Multiples.{single_is, double, double_is, triple, triple_by}
use Rattle.aes.proofs.Tables.{sbox_at}
use Rattle.aes.proofs.Rows.{four, dot_is}
use Rattle.aes.proofs.Steps.{sbox_small, times_small, quad}

-- byte k of an XOR is the XOR of the bytes
xor_byte : (x y k : ℕ) → bit_xor x y / 2 ^ k % 256 ≡ bit_xor (x / 2 ^ k % 256) (y / 2 ^ k % 256)
xor_byte x y k = ap (λ (z : ℕ). z % 2 ^ 8) (xor_shr x y k) ∙ xor_mod (x / 2 ^ k) (y / 2 ^ k) 8

-- the column of the XOR of two words is the sum of their columns
pub column_xor : (x y : ℕ) → column_of (bit_xor x y) ≡ xor_word (column_of x) (column_of y)
unfolding column_of xor_word
column_xor x y = four (xor_mod x y 8) (xor_byte x y 8) (xor_byte x y 16) (xor_byte x y 24)

-- rotating a word left by 8 bits moves its column down by one row, around the end
moved_one : (x : ℕ) → x < 2 ^ 32
    → column_of (rotate_left w32 x 8)
    ≡ get_or (column_of x) 3 0 ∷ get_or (column_of x) 0 0 ∷ get_or (column_of x) 1 0
    ∷ get_or (column_of x) 2 0 ∷ []
unfolding column_of
moved_one x h =
    let rest : x * 2 ^ 8 % 2 ^ 32 ≡ x % 2 ^ 24 * 2 ^ 8 = omega arith in
    let top : x / 2 ^ 24 < 2 ^ 8 = omega arith in
    let sum : rotate_left w32 x 8 ≡ x % 2 ^ 24 * 2 ^ 8 + x / 2 ^ 24 =
    ap (λ (z : ℕ). bit_or z (x / 2 ^ 24)) rest ∙ or_shifted (x % 2 ^ 24) 8 (x / 2 ^ 24) top in
    four (omega arith) (omega arith) (omega arith) (omega arith)

-- rotating a word left by 16 bits moves its column down by two rows
moved_two : (x : ℕ) → x < 2 ^ 32
    → column_of (rotate_left w32 x 16)
    ≡ get_or (column_of x) 2 0 ∷ get_or (column_of x) 3 0 ∷ get_or (column_of x) 0 0
    ∷ get_or (column_of x) 1 0 ∷ []
unfolding column_of
moved_two x h =
    let rest : x * 2 ^ 16 % 2 ^ 32 ≡ x % 2 ^ 16 * 2 ^ 16 = omega arith in
    let top : x / 2 ^ 16 < 2 ^ 16 = omega arith in
    let sum : rotate_left w32 x 16 ≡ x % 2 ^ 16 * 2 ^ 16 + x / 2 ^ 16 =
    ap (λ (z : ℕ). bit_or z (x / 2 ^ 16)) rest ∙ or_shifted (x % 2 ^ 16) 16 (x / 2 ^ 16) top in
    four (omega arith) (omega arith) (omega arith) (omega arith)

-- rotating a word left by 24 bits moves its column down by three rows
moved_three : (x : ℕ) → x < 2 ^ 32
    → column_of (rotate_left w32 x 24)
    ≡ get_or (column_of x) 1 0 ∷ get_or (column_of x) 2 0 ∷ get_or (column_of x) 3 0
    ∷ get_or (column_of x) 0 0 ∷ []
unfolding column_of
moved_three x h =
    let rest : x * 2 ^ 24 % 2 ^ 32 ≡ x % 2 ^ 8 * 2 ^ 24 = omega arith in
    let top : x / 2 ^ 8 < 2 ^ 24 = omega arith in
    let sum : rotate_left w32 x 24 ≡ x % 2 ^ 8 * 2 ^ 24 + x / 2 ^ 8 =
    ap (λ (z : ℕ). bit_or z (x / 2 ^ 8)) rest ∙ or_shifted (x % 2 ^ 8) 24 (x / 2 ^ 8) top in
    four (omega arith) (omega arith) (omega arith) (omega arith)

-- the column of a word that four bytes spell is these bytes
pub column_back : (a b c d n : ℕ) → a < 256 → b < 256 → c < 256 → d < 256
    → n ≡ from_le_bytes w32 (a ∷ b ∷ c ∷ d ∷ []) → column_of n ≡ a ∷ b ∷ c ∷ d ∷ []
unfolding column_of
column_back a b c d n ha hb hc hd e = four (omega arith) (omega arith) (omega arith) (omega arith)

-- byte k of a word, as `to_le_bytes` gives it, is row k of its column
pub column_row : (w k : ℕ) (bs : List ℕ) → bs ≡ bytes_low_first 0 4 w
    → get_or bs k 0 ≡ get_or (column_of w) k 0
unfolding column_of
column_row w k bs e = ap (λ l. get_or l k 0) e

-- the four bytes of a word, as `to_le_bytes` gives them, are its column
pub column_rows : (w : ℕ) (bs : List ℕ) → bs ≡ bytes_low_first 0 4 w
    → get_or bs 0 0 ∷ get_or bs 1 0 ∷ get_or bs 2 0 ∷ get_or bs 3 0 ∷ [] ≡ column_of w
unfolding column_of
column_rows w bs e = ap (λ l. get_or l 0 0 ∷ get_or l 1 0 ∷ get_or l 2 0 ∷ get_or l 3 0 ∷ []) e

-- every row of a column is a byte
pub column_small : (w k : ℕ) → get_or (column_of w) k 0 < 256
unfolding column_of
column_small w zero = omega arith
column_small w (suc zero) = omega arith
column_small w (suc (suc zero)) = omega arith
column_small w (suc (suc (suc zero))) = omega arith
column_small w (suc (suc (suc (suc k)))) = omega arith

-- ---- the table
-- the word of a table entry: the column 2s, s, s, 3s of the S-box value s
abbrev mixed_entry : ℕ → ℕ
mixed_entry s = from_le_bytes w32 (double s ∷ s ∷ s ∷ triple s ∷ [])

-- each entry of the table is the word of its S-box value, tested at each entry
table_computed : all_below (λ x. get_or TABLE x 0 == mixed_entry (get_or sbox_table x 0)) 256 ≡ true
table_computed = refl

-- an entry of the table has the column 2s, s, s, 3s of the S-box value s
pub table_at : (x : ℕ) → x < 256
    → column_of (get_or TABLE x 0) ≡ times 2 (sbox x) ∷ sbox x ∷ sbox x ∷ times 3 (sbox x) ∷ []
table_at x h =
    let s : ℕ = sbox x in
    let small : s < 256 = sbox_small x h in
    column_back (times 2 s) s s (times 3 s) (get_or TABLE x 0) (times_small 2 s) small small (times_small 3 s)
    (eqb-true (get_or TABLE x 0) (mixed_entry (get_or sbox_table x 0))
    (all_below_at (λ x. get_or TABLE x 0 == mixed_entry (get_or sbox_table x 0)) 256 x table_computed h)
    ∙ ap mixed_entry (sbox_at x h)
    ∙ ap (from_le_bytes w32) (four (sym (double_is s small)) refl refl (sym (triple_by s small))))

-- ---- a column of the next state is the XOR of four entries, each moved down by the row of its byte, and the key's word
-- a word has the column 2s, s, s, 3s
abbrev IsEntry : ℕ → ℕ → Type 0
IsEntry s w = (w < 2 ^ 32) × (column_of w ≡ times 2 s ∷ s ∷ s ∷ times 3 s ∷ [])

pub mixed_is : (a b c d key s t u v : ℕ) → a < 256 → b < 256 → c < 256 → d < 256
    → IsEntry a s → IsEntry b t → IsEntry c u → IsEntry d v
    → column_of (bit_xor (bit_xor s (bit_xor (rotate_left w32 t 8) (bit_xor (rotate_left w32 u 16)
    (rotate_left w32 v 24)))) key)
    ≡ xor_word (mix_column (a ∷ b ∷ c ∷ d ∷ [])) (column_of key)
unfolding mix_column xor_word
mixed_is a b c d key s t u v ha hb hc hd es et eu ev =
    let t1 : ℕ = rotate_left w32 t 8 in
    let u2 : ℕ = rotate_left w32 u 16 in
    let v3 : ℕ = rotate_left w32 v 24 in
    let second : column_of t1 ≡ times 3 b ∷ times 2 b ∷ b ∷ b ∷ [] =
    moved_one t et.0 ∙ ap (λ l. get_or l 3 0 ∷ get_or l 0 0 ∷ get_or l 1 0 ∷ get_or l 2 0 ∷ []) et.1 in
    let third : column_of u2 ≡ c ∷ times 3 c ∷ times 2 c ∷ c ∷ [] =
    moved_two u eu.0 ∙ ap (λ l. get_or l 2 0 ∷ get_or l 3 0 ∷ get_or l 0 0 ∷ get_or l 1 0 ∷ []) eu.1 in
    let fourth : column_of v3 ≡ d ∷ d ∷ times 3 d ∷ times 2 d ∷ [] =
    moved_three v ev.0 ∙ ap (λ l. get_or l 1 0 ∷ get_or l 2 0 ∷ get_or l 3 0 ∷ get_or l 0 0 ∷ []) ev.1 in
    let a1 : a ≡ times 1 a = sym (single_is a ha) in
    let b1 : b ≡ times 1 b = sym (single_is b hb) in
    let c1 : c ≡ times 1 c = sym (single_is c hc) in
    let d1 : d ≡ times 1 d = sym (single_is d hd) in
    column_xor (bit_xor s (bit_xor t1 (bit_xor u2 v3))) key
    ∙ ap (λ l. xor_word l (column_of key)) (
    column_xor s (bit_xor t1 (bit_xor u2 v3))
    ∙ ap₂ xor_word es.1 (column_xor t1 (bit_xor u2 v3) ∙ ap₂ xor_word second (column_xor u2 v3 ∙ ap₂ xor_word third fourth))
    ∙ four
    (dot_is 2 3 1 1 a b c d (times 2 a) (times 3 b) c d refl refl c1 d1)
    (dot_is 1 2 3 1 a b c d a (times 2 b) (times 3 c) d a1 refl refl d1)
    (dot_is 1 1 2 3 a b c d a b (times 2 c) (times 3 d) a1 b1 refl refl)
    (dot_is 3 1 1 2 a b c d (times 3 a) b c (times 2 d) refl b1 c1 refl))

-- ---- four columns
-- four columns that are equal to four others are, joined, equal to the others joined
pub joined : {p q r s a b c d : List ℕ} → p ≡ a → q ≡ b → r ≡ c → s ≡ d
    → p ++ (q ++ (r ++ (s ++ []))) ≡ a ++ (b ++ (c ++ (d ++ [])))
joined e f g h = ap₂ (λ x y. x ++ y) e (ap₂ (λ x y. x ++ y) f (ap₂ (λ x y. x ++ y) g (ap (λ x. x ++ []) h)))

-- the S-box at row 0 of the first column, row 1 of the second, row 2 of the third and row 3 of the fourth
abbrev pub subbed : ℕ → ℕ → ℕ → ℕ → List ℕ
subbed a b c d = sbox (get_or (column_of a) 0 0) ∷ sbox (get_or (column_of b) 1 0)
    ∷ sbox (get_or (column_of c) 2 0) ∷ sbox (get_or (column_of d) 3 0) ∷ []

-- if each column is that of a round, the state is that of a round
pub round_is : (a b c d k l m n p q r s : ℕ)
    → column_of p ≡ xor_word (mix_column (subbed a b c d)) (column_of k)
    → column_of q ≡ xor_word (mix_column (subbed b c d a)) (column_of l)
    → column_of r ≡ xor_word (mix_column (subbed c d a b)) (column_of m)
    → column_of s ≡ xor_word (mix_column (subbed d a b c)) (column_of n)
    → state_of (p ∷ q ∷ r ∷ s ∷ [])
    ≡ add_round_key (columns_of (k ∷ l ∷ m ∷ n ∷ [])) 0
    (mix_columns (shift_rows (sub_bytes (state_of (a ∷ b ∷ c ∷ d ∷ [])))))
unfolding column_of xor_word mix_column sub_bytes shift_rows mix_columns add_round_key
round_is a b c d k l m n p q r s e f g h = joined e f g h

-- if each column is that of the last round, the state is that of the last round
pub last_is : (a b c d k l m n p q r s : ℕ)
    → column_of p ≡ xor_word (subbed a b c d) (column_of k)
    → column_of q ≡ xor_word (subbed b c d a) (column_of l)
    → column_of r ≡ xor_word (subbed c d a b) (column_of m)
    → column_of s ≡ xor_word (subbed d a b c) (column_of n)
    → state_of (p ∷ q ∷ r ∷ s ∷ [])
    ≡ add_round_key (columns_of (k ∷ l ∷ m ∷ n ∷ [])) 0
    (shift_rows (sub_bytes (state_of (a ∷ b ∷ c ∷ d ∷ []))))
unfolding column_of xor_word sub_bytes shift_rows add_round_key
last_is a b c d k l m n p q r s e f g h = joined e f g h

-- XORing the words of a state with those of a key is AddRoundKey
pub added_is : (a b c d k l m n : ℕ)
    → state_of (bit_xor a k ∷ bit_xor b l ∷ bit_xor c m ∷ bit_xor d n ∷ [])
    ≡ add_round_key (columns_of (k ∷ l ∷ m ∷ n ∷ [])) 0 (state_of (a ∷ b ∷ c ∷ d ∷ []))
unfolding column_of xor_word add_round_key
added_is a b c d k l m n = joined (column_xor a k) (column_xor b l) (column_xor c m) (column_xor d n)

-- the state of four words has sixteen bytes
pub state_long : (ws : List ℕ) → length ws ≡ 4 → length (state_of ws) ≡ 16
unfolding column_of
state_long ws h = ap (λ l. length (state_of l)) (sym (quad ws h))
