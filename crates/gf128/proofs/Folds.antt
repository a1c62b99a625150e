-- The bits that are shifted out below a word are collected in a half word and folded in at the end.
use Rattle.std.proofs.Common.{◌≡◌, ℕ, zero, suc, ◌+◌, ◌-◌, ◌*◌, ◌/◌, ◌%◌, ◌^◌, ◌<◌, ◌≤◌, Bool, true, false}
use Rattle.std.proofs.Common.{List, [], ◌∷◌, ◌++◌, replicate, bit_xor, inl, inr, refl, sym, ap, ap₂, ◌∙◌}
use Rattle.std.proofs.Common.{arith}
use mathlib.Core.Path.{fun_ext}
use Rattle.std.proofs.lemmas.Bool.{cases_lt}
use Rattle.octets.specs.Bits.{bit}
use Rattle.octets.specs.Polynomial.{coefficient, plus, residue}
use Rattle.octets.proofs.Sequence.{Sequence, sum_of, shift, mult, mult_comm, shift_sum, plus_false}
use Rattle.octets.proofs.Ring.{residue_of_lower}
use Rattle.octets.proofs.Reversal.{raised, raised_low, raised_high, times_power, residue_by}
use Rattle.gf128.specs.Ghash.{ghash_modulus}
use Rattle.gf128.specs.Code.Words.{of_bits, of_word, folded_wide}
use Rattle.gf128.proofs.BitParts.{bit_shr, bit_above, bit_low}
use Rattle.gf128.proofs.BitParts.{bits_joined, bits_low}
use Rattle.gf128.proofs.WordLemmas.{of_word_at, of_word_past, of_word_xor}

-- shifting a word down by i places multiplies it by x^i, below x^128
pub of_word_shr : (n i k : ℕ) → n < 2 ^ 128 → k < 128 → coefficient (of_word (n / 2 ^ i)) k
    ≡ raised i (coefficient (of_word n)) k
of_word_shr n i k small l =
    of_word_at (n / 2 ^ i) k l ∙ bit_shr n i (127 - k)
    ∙ elim (cases_lt k i) [
      | inl h ↦ bit_above n 128 (i + (127 - k)) small (omega arith)
          ∙ sym (raised_low i (coefficient (of_word n)) k h)
      | inr h ↦
          let at : i + (127 - k) ≡ 127 - (k - i) = omega arith in
          ap (bit n) at ∙ sym (raised_high i (coefficient (of_word n)) k h ∙ of_word_at n (k - i)
          (omega arith))
    ]

-- ---- the modulus times a polynomial

-- x^n times a sum is the sum of x^n times each term
pub raised_sum : (n : ℕ) (e f : Sequence) → raised n (sum_of e f) ≡ sum_of (raised n e) (raised n f)
raised_sum zero e f = refl
raised_sum (suc n) e f = ap shift (raised_sum n e f) ∙ shift_sum (raised n e) (raised n f)

-- q + x q + x^2 q + x^7 q, which is q times the modulus without x^128
abbrev pub low_multiple : Sequence → Sequence
low_multiple q = sum_of q (sum_of (raised 1 q) (sum_of (raised 2 q) (raised 7 q)))

-- q times the modulus is the sum of q shifted to each of the places of x^128+x^7+x^2+x+1
modulus_times : (q : Sequence) → mult ghash_modulus q
    ≡ sum_of q (sum_of (raised 1 q) (sum_of (raised 2 q) (sum_of (raised 7 q) (raised 128 q))))
modulus_times q =
    let top : mult (replicate 120 false ++ true ∷ []) q ≡ raised 120 q = fun_ext (times_power 120 q) in
    let inner : raised 5 (sum_of q (raised 121 q)) ≡ sum_of (raised 5 q) (raised 126 q) =
    raised_sum 5 q (raised 121 q) in
    let second : shift (sum_of q (sum_of (raised 5 q) (raised 126 q))) ≡ sum_of (raised 1 q)
    (sum_of (raised 6 q) (raised 127 q)) =
    raised_sum 1 q (sum_of (raised 5 q) (raised 126 q)) ∙ ap (sum_of (raised 1 q))
    (raised_sum 1 (raised 5 q) (raised 126 q)) in
    let third : shift (sum_of q (sum_of (raised 1 q) (sum_of (raised 6 q) (raised 127 q))))
    ≡ sum_of (raised 1 q) (sum_of (raised 2 q) (sum_of (raised 7 q) (raised 128 q))) =
    raised_sum 1 q (sum_of (raised 1 q) (sum_of (raised 6 q) (raised 127 q)))
    ∙ ap (sum_of (raised 1 q)) (raised_sum 1 (raised 1 q) (sum_of (raised 6 q) (raised 127 q))
    ∙ ap (sum_of (raised 2 q)) (raised_sum 1 (raised 6 q) (raised 127 q))) in
    let form : Sequence → Sequence =
    λ (f : Sequence). sum_of q (shift (sum_of q (shift (sum_of q (raised 5 (sum_of q (shift f))))))) in
    let start : mult ghash_modulus q ≡ form (mult (replicate 120 false ++ true ∷ []) q) = refl in
    start ∙ ap form top
    ∙ ap (λ (f : Sequence). sum_of q (shift (sum_of q (shift (sum_of q f))))) inner
    ∙ ap (λ (f : Sequence). sum_of q (shift (sum_of q f))) second
    ∙ ap (sum_of q) third

-- ---- folding

-- a bit that is added twice cancels
cancel : (a b : Bool) → a ≡ plus b (plus a b)
cancel true true = refl
cancel true false = refl
cancel false true = refl
cancel false false = refl

-- ---- a number of 256 bits

-- `folded_wide n` is the residue of the 256 bits of n, if its seven lowest bits are 0
pub wide_folded_at : (n : ℕ) → n < 2 ^ 256 → ((j : ℕ) → j < 7 → bit n j ≡ false) → coefficient (of_word (folded_wide n))
    ≡ coefficient (residue ghash_modulus (of_bits 256 n))
unfolding of_word
wide_folded_at n small low_bits =
    let m : List Bool = ghash_modulus in
    let z : ℕ = n / 2 ^ 128 in
    let f : ℕ = n % 2 ^ 128 in
    let q : Sequence = coefficient (of_word f) in
    let lf : f < 2 ^ 128 = omega arith in
    let whole : z * 2 ^ 128 + f ≡ n = omega arith in
    let parts : (k : ℕ) → coefficient (of_bits 256 n) k ≡ plus (coefficient (of_word z) k) (raised 128 q k) = λ k.
    ap (λ e. e k) (bits_joined 128 128 n
    ∙ ap (λ (p : List Bool). sum_of (coefficient (of_bits 128 z)) (raised 128 (coefficient p))) (sym (bits_low 128 z f n whole))) in
    let own : (i : ℕ) → i < 7 → bit f i ≡ false = λ i h.
    sym (bit_low z 128 f i (omega arith)) ∙ ap (λ (x : ℕ). bit x i) whole ∙ low_bits i h in
    let down : (i k : ℕ) → k < 128 → coefficient (of_word (f / 2 ^ i)) k ≡ raised i q k = λ i k l. of_word_shr f i k lf l in
    let low : (k : ℕ) → k < 128 → coefficient (of_word (folded_wide n)) k ≡ plus (coefficient (of_word z) k)
    (low_multiple q k) = λ k l.
    of_word_xor z (bit_xor f (bit_xor (f / 2 ^ 1) (bit_xor (f / 2 ^ 2) (f / 2 ^ 7)))) k
    ∙ ap (plus (coefficient (of_word z) k))
    (of_word_xor f (bit_xor (f / 2 ^ 1) (bit_xor (f / 2 ^ 2) (f / 2 ^ 7))) k
    ∙ ap (plus (q k)) (of_word_xor (f / 2 ^ 1) (bit_xor (f / 2 ^ 2) (f / 2 ^ 7)) k
    ∙ ap₂ plus (down 1 k l) (of_word_xor (f / 2 ^ 2) (f / 2 ^ 7) k ∙ ap₂ plus (down 2 k l) (down 7 k l)))) in
    let by : (k : ℕ) → coefficient (of_bits 256 n) k ≡ plus (mult (of_word f) (coefficient m) k)
    (coefficient (of_word (folded_wide n)) k) = λ k.
    let times : mult (of_word f) (coefficient m) k
    ≡ plus (q k) (plus (raised 1 q k) (plus (raised 2 q k) (plus (raised 7 q k) (raised 128 q k)))) =
    ap (λ e. e k) (mult_comm (of_word f) m ∙ modulus_times q) in
    elim (cases_lt k 128) [
      | inl l ↦
          let none : plus (raised 7 q k) (raised 128 q k) ≡ raised 7 q k =
          ap (plus (raised 7 q k)) (raised_low 128 q k l) ∙ plus_false (raised 7 q k) in
          parts k ∙ ap (plus (coefficient (of_word z) k)) (raised_low 128 q k l) ∙ plus_false (coefficient (of_word z) k)
          ∙ cancel (coefficient (of_word z) k) (low_multiple q k)
          ∙ sym (ap₂ plus (times ∙ ap (λ b. plus (q k) (plus (raised 1 q k) (plus (raised 2 q k) b))) none)
          (low k l))
      | inr l ↦
          let none : (i : ℕ) → i ≤ 7 → q (k - i) ≡ false = λ i h. elim (cases_lt (k - i) 128) [
            | inl r ↦ of_word_at f (k - i) r ∙ own (127 - (k - i)) (omega (arith, h, l, r))
            | inr r ↦ of_word_past f (k - i) r
          ] in
          let past : (i : ℕ) → i ≤ 7 → raised i q k ≡ false = λ i h. raised_high i q k (omega (arith, h, l)) ∙ none i h in
          let all : mult (of_word f) (coefficient m) k ≡ raised 128 q k =
          times ∙ ap₂ plus (past 0 (omega arith)) (ap₂ plus (past 1 (omega arith))
          (ap₂ plus (past 2 (omega arith)) (ap (λ b. plus b (raised 128 q k)) (past 7 (omega arith))))) in
          parts k ∙ ap (λ b. plus b (raised 128 q k)) (of_word_past z k l)
          ∙ sym (ap₂ plus all (of_word_past (folded_wide n) k l) ∙ plus_false (raised 128 q k))
    ] in
    sym (residue_by m (of_bits 256 n) (of_word (folded_wide n)) (of_word f) refl by
    ∙ fun_ext (residue_of_lower m (of_word (folded_wide n)) refl (λ i h. of_word_past (folded_wide n) i h)))
