-- The checks of an unwrapped register, on the numbers that its bytes spell.
use Rattle.std.proofs.Common.{◌≡◌, ℕ, ◌+◌, ◌-◌, ◌*◌, ◌/◌, ◌%◌, ◌^◌, ◌<◌, ◌≤◌, ◌↔◌, List, [], ◌∷◌, take}
use Rattle.std.proofs.Common.{drop, length, replicate, refl, sym, ap, ap₂, ◌∙◌, subst, arith, length-drop}
use Rattle.std.proofs.Math.Nat.{mul_comm}
use Rattle.std.proofs.Math.Seq.{drop-drop}
use Rattle.std.proofs.lemmas.Nat.{div-mul-add, shr-shr, be_bytes_4, be_bytes_8}
use Rattle.std.specs.Int.{w32, w64, from_be_bytes, from_le_bytes, to_be_bytes}
use Rattle.octets.specs.Bytes.{AreBytes, le}
use Rattle.octets.proofs.Numbers.{le_is, le_split, le_small, le_zeros, power_of_bytes}
use Rattle.keywrap.specs.Wrapping.{initial_value}
use Rattle.keywrap.specs.Padded.{constant}
use Rattle.keywrap.specs.Code.Padded.{IsPaddedStart, stated}
use Rattle.keywrap.proofs.Bytes.{bytes_take}

-- numbers that spell 0 are zeros
pub spell_zero : (xs : List ℕ) → le xs ≡ 0 → xs ≡ replicate (length xs) 0
unfolding le
spell_zero [] e = refl
spell_zero (x ∷ xs) e =
    let first : x ≡ 0 = omega arith in
    let rest : le xs ≡ 0 = omega arith in
    ap₂ (λ y ys. y ∷ ys) first (spell_zero xs rest)

-- the number of eight bytes without the first 8 - count bytes, which are shifted out, is that of the others
pub shifted : (bs : List ℕ) (count n : ℕ) → AreBytes 8 bs → count < 8
    → n ≡ from_le_bytes w64 bs / 2 ^ 8 / 2 ^ (8 * (7 - count % 8))
    → n ≡ le (drop (8 - count) bs)
shifted bs count n b few e =
    let k : ℕ = 8 - count in
    let spelled : le bs ≡ from_le_bytes w64 bs = le_is w64 bs (omega arith) b.length_is in
    let within : k ≤ length bs = omega (arith, b.length_is) in
    let split : le bs ≡ le (take k bs) + 256 ^ k * le (drop k bs) = le_split bs k within in
    let front : AreBytes k (take k bs) = bytes_take k 8 bs (omega arith) b in
    let low : le (take k bs) < 256 ^ k =
    subst (λ (j : ℕ). le (take k bs) < 256 ^ j) front.length_is (le_small (take k bs) front.bytes) in
    let places : 8 + 8 * (7 - count % 8) ≡ 8 * k = omega arith in
    let turned : le bs ≡ le (drop k bs) * 256 ^ k + le (take k bs) =
    omega (arith, split, mul_comm (256 ^ k) (le (drop k bs))) in
    e ∙ shr-shr (from_le_bytes w64 bs) 8 (8 * (7 - count % 8))
    ∙ ap (λ (j : ℕ). from_le_bytes w64 bs / 2 ^ j) places
    ∙ ap (λ (p : ℕ). from_le_bytes w64 bs / p) (sym (power_of_bytes k))
    ∙ ap (λ (x : ℕ). x / 256 ^ k) (sym spelled ∙ turned)
    ∙ div-mul-add (le (drop k bs)) (256 ^ k) (le (take k bs)) low

-- this number is 0 exactly if the others are zeros
pub none_behind : (bs : List ℕ) (count n : ℕ) → AreBytes 8 bs → count < 8
    → n ≡ from_le_bytes w64 bs / 2 ^ 8 / 2 ^ (8 * (7 - count % 8))
    → (n ≡ 0) ↔ (drop (8 - count) bs ≡ replicate count 0)
none_behind bs count n b few e =
    let is : n ≡ le (drop (8 - count) bs) = shifted bs count n b few e in
    let long : length (drop (8 - count) bs) ≡ count = length-drop (8 - count) bs ∙ omega (arith, b.length_is) in (
      λ z. spell_zero (drop (8 - count) bs) (sym is ∙ z) ∙ ap (λ (m : ℕ). replicate m 0) long,
      λ z. is ∙ ap le z ∙ le_zeros count,
    )

-- four bytes spell the number of the constant exactly if they are the constant
pub is_constant : (bs : List ℕ) (n : ℕ) → AreBytes 4 bs → n ≡ from_be_bytes w32 bs
    → (n ≡ 0xa65959a6) ↔ (bs ≡ constant)
is_constant bs n b e = (
  λ z. sym (be_bytes_4 bs n b.length_is b.bytes e) ∙ ap (to_be_bytes w32) z,
  λ z. e ∙ ap (from_be_bytes w32) z,
)

-- eight bytes spell the number of the default initial value exactly if they are this value
pub is_initial : (bs : List ℕ) (n : ℕ) → AreBytes 8 bs → n ≡ from_be_bytes w64 bs
    → (n ≡ 0xa6a6a6a6a6a6a6a6) ↔ (bs ≡ initial_value)
is_initial bs n b e = (
  λ z. sym (be_bytes_8 bs n b.length_is b.bytes e) ∙ ap (to_be_bytes w64) z,
  λ z. e ∙ ap (from_be_bytes w64) z,
)

-- the sum of three numbers, each of which is 0 exactly if one of the checks holds, is 0 exactly if all of them hold
pub start_by : (first blocks last : List ℕ) (x count y : ℕ) → 8 ≤ length blocks
    → (x ≡ 0) ↔ (take 4 first ≡ constant)
    → (count < 8 → (y ≡ 0) ↔ (drop (8 - count) last ≡ replicate count 0))
    → last ≡ drop (length blocks - 8) blocks
    → (count < 8 → stated first ≤ length blocks)
    → (stated first ≤ length blocks → count ≡ length blocks - stated first)
    → (x + count / 8 + y ≡ 0) ↔ IsPaddedStart first blocks
start_by first blocks last x count y some right none is fits back = (
  λ z.
      let small : count < 8 = omega arith in
      let within : stated first ≤ length blocks = fits small in
      let at : count ≡ length blocks - stated first = back within in
      let place : length blocks - 8 + (8 - count) ≡ stated first = omega arith in
      let zero_x : x ≡ 0 = omega arith in
      let zero_y : y ≡ 0 = omega arith in
      record {
        constant_is = right.0 zero_x;
        least = within;
        few = omega arith;
        zeros = sym (ap (λ (j : ℕ). drop j blocks) place)
            ∙ sym (drop-drop (8 - count) (length blocks - 8) blocks) ∙ sym (ap (drop (8 - count)) is)
            ∙ (none small).0 zero_y ∙ ap (λ (m : ℕ). replicate m 0) at;
      },
  λ s.
      let at : count ≡ length blocks - stated first = back s.least in
      let small : count < 8 = omega (arith, s.least, s.few) in
      let place : length blocks - 8 + (8 - count) ≡ stated first = omega (arith, s.least, s.few) in
      let zero_x : x ≡ 0 = right.1 s.constant_is in
      let zero_y : y ≡ 0 =
      (none small).1 (ap (drop (8 - count)) is ∙ drop-drop (8 - count) (length blocks - 8) blocks
      ∙ ap (λ (j : ℕ). drop j blocks) place ∙ s.zeros ∙ ap (λ (m : ℕ). replicate m 0) (sym at)) in
      omega arith,
)
