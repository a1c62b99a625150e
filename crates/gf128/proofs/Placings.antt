-- Sixteen words, each moved up by one byte more than the one before it, as one number of 256 bits.
use Rattle.std.proofs.Common.{◌≡◌, ℕ, zero, suc, ◌+◌, ◌-◌, ◌*◌, ◌^◌, ◌<◌, ◌≤◌, Bool, false, List, ◌++◌, replicate}
use Rattle.std.proofs.Common.{bit_xor, inl, inr, refl, sym, ap, ap₂, ◌∙◌, arith}
use mathlib.Core.Path.{fun_ext}
use Rattle.std.proofs.lemmas.Bool.{cases_lt}
use Rattle.std.proofs.lemmas.Nat.{pow_pos, xor_lt, shl_below}
use Rattle.std.proofs.Math.Nat.{pow-le-pow_right}
use Rattle.octets.specs.Bits.{bit}
use Rattle.octets.specs.Polynomial.{coefficient, plus}
use Rattle.octets.proofs.BitFacts.{bit_of_xor, bit_of_zero}
use Rattle.octets.proofs.Sequence.{Sequence, sum_of, plus_comm}
use Rattle.octets.proofs.Reversal.{raised, raised_low, raised_high, coefficient_below}
use Rattle.octets.proofs.Horner.{residue_same}
use Rattle.gf128.specs.Ghash.{ghash_modulus}
use Rattle.gf128.specs.Code.Words.{of_bits, of_word, folded_wide, placed, IsMoved}
use Rattle.gf128.proofs.WordLemmas.{of_word_at, of_word_past}
use Rattle.gf128.proofs.BitParts.{bit_above, bit_low, bit_high, of_bits_at, of_bits_past}
use Rattle.gf128.proofs.Folds.{raised_sum, wide_folded_at}
use Rattle.gf128.proofs.Rows.{horner_of, raised_none, raised_twice}

-- no word is placed
pub placed_none : (r : ℕ → ℕ) → placed r 0 ≡ 0
unfolding placed
placed_none r = refl

-- one word more is placed
pub placed_more : (r : ℕ → ℕ) (j n w before after s : ℕ) → before ≡ placed r j → w ≡ r j → after ≡ bit_xor before (w * 2 ^ s)
    → s ≡ 8 * j + 8 → j + 1 ≡ n → after ≡ placed r n
unfolding placed
placed_more r j n w before after s held is all e at =
    let up : suc j ≡ n = omega arith in
    all ∙ ap₂ (λ (p x : ℕ). bit_xor p (x * 2 ^ s)) held is ∙ ap (λ (i : ℕ). bit_xor (placed r j) (r j * 2 ^ i)) e
    ∙ ap (placed r) up

-- a number moved up has no bit below
pub moved_low : (n s j : ℕ) → j < s → bit (n * 2 ^ s) j ≡ false
moved_low n s j l =
    let whole : n * 2 ^ s ≡ n * 2 ^ s + 0 = omega arith in
    ap (λ (x : ℕ). bit x j) whole ∙ bit_low n s 0 j l ∙ bit_of_zero j

-- above, its bits are those of the number
moved_high : (n s j : ℕ) → s ≤ j → bit (n * 2 ^ s) j ≡ bit n (j - s)
moved_high n s j l =
    let whole : n * 2 ^ s ≡ n * 2 ^ s + 0 = omega arith in
    ap (λ (x : ℕ). bit x j) whole ∙ bit_high n s 0 j (pow_pos s) l

-- the polynomial of an XOR of numbers is the sum of their polynomials
of_bits_xor : (w a b : ℕ) → coefficient (of_bits w (bit_xor a b)) ≡ sum_of (coefficient (of_bits w a)) (coefficient (of_bits w b))
of_bits_xor w a b = fun_ext (λ k. elim (cases_lt k w) [
  | inl l ↦ of_bits_at w (bit_xor a b) k l ∙ bit_of_xor a b (w - 1 - k)
      ∙ sym (ap₂ plus (of_bits_at w a k l) (of_bits_at w b k l))
  | inr l ↦ of_bits_past w (bit_xor a b) k l ∙ sym (ap₂ plus (of_bits_past w a k l) (of_bits_past w b k l))
])

-- a word that is moved up by s places is the word times a power of x
pub moved_word : (n s d : ℕ) → s + d ≡ 128 → n < 2 ^ 128 → coefficient (of_bits 256 (n * 2 ^ s))
    ≡ raised d (coefficient (of_word n))
moved_word n s d at small = fun_ext (λ k.
    elim (cases_lt k d) [
      | inl h ↦
          of_bits_at 256 (n * 2 ^ s) k (omega arith) ∙ moved_high n s (255 - k) (omega arith)
          ∙ bit_above n 128 (255 - k - s) small (omega arith) ∙ sym (raised_low d (coefficient (of_word n)) k h)
      | inr h ↦
          elim (cases_lt (k - d) 128) [
            | inl r ↦
                let same : 255 - k - s ≡ 127 - (k - d) = omega arith in
                of_bits_at 256 (n * 2 ^ s) k (omega arith) ∙ moved_high n s (255 - k) (omega arith)
                ∙ ap (bit n) same ∙ sym (of_word_at n (k - d) r)
            | inr r ↦ elim (cases_lt k 256) [
              | inl t ↦ of_bits_at 256 (n * 2 ^ s) k t ∙ moved_low n s (255 - k) (omega arith)
              | inr t ↦ of_bits_past 256 (n * 2 ^ s) k t
            ] ∙ sym (of_word_past n (k - d) r)
          ]
          ∙ sym (raised_high d (coefficient (of_word n)) k h)
    ])

-- every coefficient of 256 bits that are 0 is 0
zero_bits : (k : ℕ) → coefficient (of_bits 256 0) k ≡ false
zero_bits k = elim (cases_lt k 256) [
  | inl l ↦ of_bits_at 256 0 k l ∙ bit_of_zero (255 - k)
  | inr l ↦ of_bits_past 256 0 k l
]

-- the words that are placed are a sum by Horner's rule
pub placed_sum : (r : ℕ → ℕ) (q : ℕ) → q ≤ 16 → ((j : ℕ) → r j < 2 ^ 128)
    → coefficient (of_bits 256 (placed r q)) ≡ raised (8 * (16 - q)) (horner_of (λ j. coefficient (of_word (r j))) q)
unfolding placed horner_of
placed_sum r zero l small = fun_ext zero_bits ∙ sym (raised_none (8 * (16 - zero)))
placed_sum r (suc q) l small =
    let d : ℕ = 8 * (16 - suc q) in
    let more : 8 * (16 - q) ≡ d + 8 = omega arith in
    let before : Sequence = horner_of (λ j. coefficient (of_word (r j))) q in
    let word : Sequence = coefficient (of_word (r q)) in
    of_bits_xor 256 (placed r q) (r q * 2 ^ (8 * q + 8))
    ∙ ap₂ sum_of (placed_sum r q (omega arith) small ∙ ap (λ (i : ℕ). raised i before) more ∙ sym (raised_twice d 8 before))
    (moved_word (r q) (8 * q + 8) d (omega arith) (small q))
    ∙ sym (raised_sum d (raised 8 before) word)
    ∙ ap (raised d) (fun_ext (λ k. plus_comm (raised 8 before k) (word k)))

-- the lowest byte of what is placed is 0
pub placed_low : (r : ℕ → ℕ) (q j : ℕ) → j < 7 → bit (placed r q) j ≡ false
unfolding placed
placed_low r zero j l = bit_of_zero j
placed_low r (suc q) j l =
    bit_of_xor (placed r q) (r q * 2 ^ (8 * q + 8)) j
    ∙ ap₂ plus (placed_low r q j l) (moved_low (r q) (8 * q + 8) j (omega arith))

-- what is placed has 256 bits
pub placed_lt : (r : ℕ → ℕ) (q : ℕ) → q ≤ 16 → ((j : ℕ) → r j < 2 ^ 128) → placed r q < 2 ^ 256
unfolding placed
placed_lt r zero l small = pow_pos 256
placed_lt r (suc q) l small =
    let fits : r q * 2 ^ (8 * q + 8) < 2 ^ (128 + (8 * q + 8)) = shl_below (r q) 128 (8 * q + 8) (small q) in
    let room : 2 ^ (128 + (8 * q + 8)) ≤ 2 ^ 256 = pow-le-pow_right {n = 2} (omega arith) {i = 128 + (8 * q + 8)} {j = 256} (omega arith) in
    xor_lt 256 (placed r q) (r q * 2 ^ (8 * q + 8)) (placed_lt r q (omega arith) small) (omega arith)

-- a word that is moved up by 128 - i places and reduced is x^i times the word
pub moved_folded : (n s i : ℕ) → s + i ≡ 128 → 7 ≤ s → n < 2 ^ 128 → IsMoved i n (folded_wide (n * 2 ^ s))
moved_folded n s i at room small k =
    let m : List Bool = ghash_modulus in
    let fits : n * 2 ^ s < 2 ^ (128 + s) = shl_below n 128 s small in
    let within : 2 ^ (128 + s) ≤ 2 ^ 256 = pow-le-pow_right {n = 2} (omega arith) {i = 128 + s} {j = 256} (omega arith) in
    let same : coefficient (of_bits 256 (n * 2 ^ s)) ≡ coefficient (replicate i false ++ of_word n) =
    moved_word n s i at small ∙ sym (fun_ext (coefficient_below i (of_word n))) in
    ap (λ f. f k) (wide_folded_at (n * 2 ^ s) (omega (arith, fits, within)) (λ j l. moved_low n s j (omega arith))
    ∙ residue_same m (of_bits 256 (n * 2 ^ s)) (replicate i false ++ of_word n) refl same)
