-- Sixteen bytes that are computed place by place, the words that they spell, and rows and columns of sixteen such words.
use Rattle.std.proofs.Common.{◌≡◌, ℕ, zero, suc, ◌+◌, ◌*◌, ◌/◌, ◌^◌, ◌<◌, ◌≤◌, Bool, false, List, []}
use Rattle.std.proofs.Common.{◌++◌, map, length, get_or, replicate, bit_xor, inl, inr, refl, sym, ap, ap₂, ◌∙◌}
use Rattle.std.proofs.Common.{◌==◌, arith, zero-add, suc-add}
use mathlib.Core.Path.{fun_ext}
use Rattle.std.specs.List.{range_with_len}
use Rattle.std.specs.Int.{byte_at}
use Rattle.std.proofs.lemmas.Bool.{cases_lt}
use Rattle.std.proofs.lemmas.List.{get_or_past}
use Rattle.std.proofs.lemmas.List.FromFn.{get_or-map-range_with_len, length-map-range_with_len}
use Rattle.octets.specs.Bytes.{IsBlock, le}
use Rattle.octets.specs.Polynomial.{coefficient, sum}
use Rattle.octets.proofs.Numbers.{byte_bit, le_byte}
use Rattle.octets.proofs.Sequence.{Sequence, none, sum_of, sum_exchange, shift, shift_none}
use Rattle.octets.proofs.Horner.{sum_is}
use Rattle.octets.proofs.Reversal.{raised, coefficient_below}
use Rattle.octets.proofs.Xors.{is_xor}
use Rattle.gf128.specs.Code.Words.{of_bits, of_word}
use Rattle.gf128.proofs.BitParts.{bit_shr, bits_same, bits_joined, of_bits_past}
use Rattle.gf128.proofs.Folds.{raised_sum}
use Rattle.gf128.proofs.LaneWords.{le_xor}

-- ---- sixteen bytes

-- f 0 to f 15
abbrev pub row : (ℕ → ℕ) → List ℕ
row f = map f (range_with_len 0 16)

-- entry i is f i
pub row_at : (f : ℕ → ℕ) (i : ℕ) → i < 16 → get_or (row f) i 0 ≡ f i
row_at f i l = get_or-map-range_with_len f 0 16 i i 0 l (zero-add i)

-- there are sixteen
pub length-row : (f : ℕ → ℕ) → length (row f) ≡ 16
length-row f = length-map-range_with_len f 0 16

-- each is a byte, if each f i is one
pub row_small : (f : ℕ → ℕ) (i : ℕ) → ((j : ℕ) → f j < 256) → get_or (row f) i 0 < 256
row_small f i small = elim (cases_lt i 16) [
  | inl l ↦ let at : get_or (row f) i 0 ≡ f i = row_at f i l in omega (arith, small i)
  | inr l ↦ let past : get_or (row f) i 0 ≡ 0 = get_or_past (row f) i 0 (omega (arith, length-row f)) in omega arith
]

-- they are a block
pub row_block : (f : ℕ → ℕ) → ((j : ℕ) → f j < 256) → IsBlock (row f)
row_block f small = record { length_is = length-row f; bytes = λ i. row_small f i small }

-- the XOR of two rows spells the XOR of their numbers
pub le_row_xor : (f h : ℕ → ℕ) → ((j : ℕ) → f j < 256) → ((j : ℕ) → h j < 256)
    → le (row (λ j. bit_xor (f j) (h j))) ≡ bit_xor (le (row f)) (le (row h))
le_row_xor f h sf sh =
    let both : ℕ → ℕ = λ (j : ℕ). bit_xor (f j) (h j) in
    let same : length (row f) ≡ length (row h) = length-row f ∙ sym (length-row h) in
    ap le (is_xor (row both) (row f) (row h) (length-row both ∙ sym (length-row f)) same
    (λ i l.
    let small : i < 16 = omega (arith, length-row both) in
    row_at both i small ∙ sym (ap₂ bit_xor (row_at f i small) (row_at h i small))))
    ∙ le_xor (row f) (row h) same (λ i. row_small f i sf) (λ i. row_small h i sh)

-- ---- sums by Horner's rule

-- f (n - 1) + x^8 f (n - 2) + .. + x^(8 n - 8) f 0
unfoldable pub horner_of : (ℕ → Sequence) → ℕ → Sequence
horner_of f zero = none
horner_of f (suc n) = sum_of (f n) (raised 8 (horner_of f n))

-- x^n times 0 is 0
pub raised_none : (n : ℕ) → raised n none ≡ none
raised_none zero = refl
raised_none (suc n) = ap shift (raised_none n) ∙ shift_none

-- x^m times x^n
pub raised_twice : (m n : ℕ) (f : Sequence) → raised m (raised n f) ≡ raised (m + n) f
raised_twice zero n f = ap (λ (k : ℕ). raised k f) (sym (zero-add n))
raised_twice (suc m) n f = ap shift (raised_twice m n f) ∙ ap (λ (k : ℕ). raised k f) (sym (suc-add m n))

-- the sum of terms that are all 0 is 0
horner_none : (n : ℕ) → horner_of (λ p. none) n ≡ none
unfolding horner_of
horner_none zero = refl
horner_none (suc n) = ap (λ (s : Sequence). sum_of none (raised 8 s)) (horner_none n) ∙ ap (sum_of none) (raised_none 8)

-- a sum plus x^8 times another is the sum of the terms so added
horner_sum : (f h : ℕ → Sequence) (n : ℕ) → sum_of (horner_of f n) (raised 8 (horner_of h n))
    ≡ horner_of (λ p. sum_of (f p) (raised 8 (h p))) n
unfolding horner_of
horner_sum f h zero = ap (sum_of none) (raised_none 8)
horner_sum f h (suc n) =
    let a : Sequence = horner_of f n in
    let b : Sequence = horner_of h n in
    ap (sum_of (sum_of (f n) (raised 8 a))) (raised_sum 8 (h n) (raised 8 b))
    ∙ sum_exchange (f n) (raised 8 a) (raised 8 (h n)) (raised 8 (raised 8 b))
    ∙ ap (sum_of (sum_of (f n) (raised 8 (h n)))) (sym (raised_sum 8 a (raised 8 b)) ∙ ap (raised 8) (horner_sum f h n))

-- the sum over rows of the sums over columns is the sum over columns of the sums over rows
pub horner_exchange : (e : ℕ → ℕ → Sequence) (m n : ℕ)
    → horner_of (λ j. horner_of (e j) n) m ≡ horner_of (λ p. horner_of (λ j. e j p) m) n
unfolding horner_of
horner_exchange e zero n = sym (horner_none n)
horner_exchange e (suc m) n =
    ap (λ (s : Sequence). sum_of (horner_of (e m) n) (raised 8 s)) (horner_exchange e m n)
    ∙ horner_sum (e m) (λ p. horner_of (λ j. e j p) m) n

-- the sum as a polynomial
unfoldable pub horner_list : (ℕ → List Bool) → ℕ → List Bool
horner_list f zero = []
horner_list f (suc n) = sum (f n) (replicate 8 false ++ horner_list f n)

-- its coefficients are the sum of those of the terms
pub horner_list_at : (f : ℕ → List Bool) (n : ℕ) → coefficient (horner_list f n)
    ≡ horner_of (λ p. coefficient (f p)) n
unfolding horner_of horner_list
horner_list_at f zero = refl
horner_list_at f (suc n) =
    let rest : List Bool = horner_list f n in
    sum_is (f n) (replicate 8 false ++ rest)
    ∙ ap (sum_of (coefficient (f n))) (fun_ext (coefficient_below 8 rest) ∙ ap (raised 8) (horner_list_at f n))

-- ---- the bytes of a word

-- byte i of a number has the bits of the number shifted down by 8 i places
pub byte_of_number : (n i : ℕ) → of_bits 8 (byte_at i n) ≡ of_bits 8 (n / 2 ^ (8 * i))
byte_of_number n i = bits_same 8 (byte_at i n) (n / 2 ^ (8 * i)) (λ j h.
    ap (λ (x : ℕ). x == 1) (byte_bit n i j h) ∙ sym (bit_shr n (8 * i) j))

-- the polynomial of the q lowest bytes is the sum of those of the bytes
lowest_bytes : (f : ℕ → ℕ) (q : ℕ) → q ≤ 16 → ((j : ℕ) → f j < 256) → coefficient (of_bits (8 * q) (le (row f)))
    ≡ horner_of (λ p. coefficient (of_bits 8 (f p))) q
unfolding horner_of
lowest_bytes f zero l small = fun_ext (λ k. of_bits_past (8 * zero) (le (row f)) k (omega arith))
lowest_bytes f (suc q) l small =
    let n : ℕ = le (row f) in
    let more : 8 * suc q ≡ 8 + 8 * q = omega arith in
    let here : of_bits 8 (n / 2 ^ (8 * q)) ≡ of_bits 8 (f q) =
    sym (byte_of_number n q) ∙ ap (of_bits 8) (le_byte (row f) q (λ j. row_small f j small) ∙ row_at f q (omega arith)) in
    ap (λ (w : ℕ). coefficient (of_bits w n)) more ∙ bits_joined 8 (8 * q) n
    ∙ ap₂ (λ (a b : Sequence). sum_of a (raised 8 b)) (ap coefficient here) (lowest_bytes f q (omega arith) small)

-- the polynomial of a word is the sum of those of its bytes
pub word_of_row : (f : ℕ → ℕ) → ((j : ℕ) → f j < 256)
    → coefficient (of_word (le (row f))) ≡ horner_of (λ p. coefficient (of_bits 8 (f p))) 16
unfolding of_word
word_of_row f small = lowest_bytes f 16 (omega arith) small

-- sixteen words in rows have the sum of the sixteen words in columns
pub rows_and_columns : (e : ℕ → ℕ → ℕ) → ((j p : ℕ) → e j p < 256)
    → horner_of (λ j. coefficient (of_word (le (row (e j))))) 16
    ≡ horner_of (λ p. coefficient (of_word (le (row (λ j. e j p))))) 16
rows_and_columns e small =
    ap (λ (f : ℕ → Sequence). horner_of f 16) (fun_ext (λ j. word_of_row (e j) (small j)))
    ∙ horner_exchange (λ j p. coefficient (of_bits 8 (e j p))) 16 16
    ∙ sym (ap (λ (f : ℕ → Sequence). horner_of f 16) (fun_ext (λ p. word_of_row (λ j. e j p) (λ j. small j p))))
