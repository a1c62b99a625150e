-- A word as two halves of 64 bits that are shifted one by one, and three words as one number of 256 bits.
use Rattle.std.proofs.Common.{◌≡◌, ℕ, ◌+◌, ◌*◌, ◌/◌, ◌%◌, ◌^◌, ◌<◌, ◌≤◌, Bool, List, [], ◌∷◌}
use Rattle.std.proofs.Common.{replicate, bit_xor, refl, sym, ap, ap₂, ◌∙◌, arith, subst}
use lib.Bits.{xor_zero_l, xor_zero_r}
use lib.Lanes.{zip2, digits_l, number_l}
use Rattle.std.specs.Int.{w128, to_le_bytes}
use Rattle.std.proofs.Math.Nat.{mul_assoc, mul_comm, mul-mod_left, add-mul, zero-mul}
use Rattle.std.proofs.lemmas.Nat.{xor_block, xor_shr, xor_mod, xor_comm, pow-add, pow_pos, shl-shr, shr-shr}
use Rattle.std.proofs.lemmas.Nat.{mod-pow-add, shr_below, shr_le}
use Rattle.octets.specs.Bytes.{IsBlock, le}
use Rattle.octets.specs.Bits.{bit}
use Rattle.octets.specs.Polynomial.{plus}
use Rattle.octets.proofs.BitFacts.{bit_of_xor, same_bits}
use Rattle.octets.proofs.Numbers.{le_halves}
use Rattle.octets.proofs.Sequence.{plus_assoc, exchange}
use Rattle.gf128.specs.Code.Words.{halves_up, halves_down, total}
use Rattle.gf128.proofs.LaneWords.{le_block}

-- ---- XOR

-- XOR is associative
pub xor_assoc : (a b c : ℕ) → bit_xor (bit_xor a b) c ≡ bit_xor a (bit_xor b c)
xor_assoc a b c =
    same_bits (bit_xor (bit_xor a b) c) (bit_xor a (bit_xor b c)) (λ j.
    bit_of_xor (bit_xor a b) c j ∙ ap (λ (t : Bool). plus t (bit c j)) (bit_of_xor a b j)
    ∙ plus_assoc (bit a j) (bit b j) (bit c j)
    ∙ sym (bit_of_xor a (bit_xor b c) j ∙ ap (plus (bit a j)) (bit_of_xor b c j)))

-- the second and the third of four numbers change places
pub xor_exchange : (a b c d : ℕ) → bit_xor (bit_xor a b) (bit_xor c d) ≡ bit_xor (bit_xor a c) (bit_xor b d)
xor_exchange a b c d =
    same_bits (bit_xor (bit_xor a b) (bit_xor c d)) (bit_xor (bit_xor a c) (bit_xor b d)) (λ j.
    bit_of_xor (bit_xor a b) (bit_xor c d) j ∙ ap₂ plus (bit_of_xor a b j) (bit_of_xor c d j)
    ∙ exchange (bit a j) (bit b j) (bit c j) (bit d j)
    ∙ sym (bit_of_xor (bit_xor a c) (bit_xor b d) j ∙ ap₂ plus (bit_of_xor a c j) (bit_of_xor b d j)))

-- the last two of three numbers change places
xor_swap : (a b c : ℕ) → bit_xor (bit_xor a b) c ≡ bit_xor (bit_xor a c) b
xor_swap a b c = xor_assoc a b c ∙ ap (bit_xor a) (xor_comm b c) ∙ sym (xor_assoc a c b)

-- the XOR of two numbers that are moved up is the moved XOR
pub xor_shl : (k a b : ℕ) → bit_xor a b * 2 ^ k ≡ bit_xor (a * 2 ^ k) (b * 2 ^ k)
xor_shl k a b =
    let some : 0 < 2 ^ k = pow_pos k in
    let block : bit_xor (a * 2 ^ k + 0) (b * 2 ^ k + 0) ≡ bit_xor a b * 2 ^ k + bit_xor 0 0 =
    xor_block k a b 0 0 some some in
    let first : a * 2 ^ k ≡ a * 2 ^ k + 0 = omega arith in
    let second : b * 2 ^ k ≡ b * 2 ^ k + 0 = omega arith in
    let end : bit_xor a b * 2 ^ k + bit_xor 0 0 ≡ bit_xor a b * 2 ^ k = omega (arith, xor_zero_l 0) in
    sym (ap₂ bit_xor first second ∙ block ∙ end)

-- ---- halves of 64 bits

-- two halves as sixteen bytes
pub two_halves : (a b : ℕ) → a < 2 ^ 64 → b < 2 ^ 64
    → digits_l 256 16 (number_l (2 ^ 64) (a ∷ b ∷ [])) ≡ to_le_bytes w128 (a + 2 ^ 64 * b)
two_halves a b la lb =
    let n : ℕ = a + 2 ^ 64 * b in
    let low : n % 2 ^ 64 ≡ a = omega arith in
    let high : n / 2 ^ 64 ≡ b = omega arith in
    sym (ap₂ (λ (x y : ℕ). digits_l 256 16 (number_l (2 ^ 64) (x ∷ y ∷ []))) low high) ∙ le_halves n

-- the number of bytes, as the vectors have it
pub number_of : (bs : List ℕ) → number_l 256 bs ≡ le bs
unfolding le
number_of [] = refl
number_of (b ∷ bs) = ap (λ (x : ℕ). b + 256 * x) (number_of bs)

-- the two halves of a block, each changed by f
pub changed_halves : (f : ℕ → ℕ) (bs : List ℕ) → IsBlock bs → ((x : ℕ) → x < 2 ^ 64 → f x < 2 ^ 64)
    → digits_l 256 16 (number_l (2 ^ 64) (f (number_l 256 bs % 2 ^ 64) ∷ f (number_l 256 bs / 2 ^ 64 % 2 ^ 64) ∷ []))
    ≡ to_le_bytes w128 (f (le bs % 2 ^ 64) + 2 ^ 64 * f (le bs / 2 ^ 64))
changed_halves f bs is small =
    let n : ℕ = le bs in
    let whole : n < 2 ^ 128 = le_block bs is in
    let high : n / 2 ^ 64 % 2 ^ 64 ≡ n / 2 ^ 64 = omega arith in
    ap (λ (x : ℕ). digits_l 256 16 (number_l (2 ^ 64) (f (x % 2 ^ 64) ∷ f (x / 2 ^ 64 % 2 ^ 64) ∷ []))) (number_of bs)
    ∙ ap (λ (y : ℕ). digits_l 256 16 (number_l (2 ^ 64) (f (n % 2 ^ 64) ∷ f y ∷ []))) high
    ∙ two_halves (f (n % 2 ^ 64)) (f (n / 2 ^ 64)) (small (n % 2 ^ 64) (omega arith)) (small (n / 2 ^ 64) (omega arith))

-- a number below 2^64 that is shifted down is below 2^64
pub shr_small : (c x : ℕ) → x < 2 ^ 64 → x / 2 ^ c < 2 ^ 64
shr_small c x l = let less : x / 2 ^ c ≤ x = shr_le x c in omega arith

-- both halves shifted up
pub up_halves : (c : ℕ) (bs : List ℕ) → IsBlock bs
    → digits_l 256 16 (number_l (2 ^ 64) (zip2 (λ a b. a * 2 ^ b % 2 ^ 64) (digits_l (2 ^ 64) 2 (number_l 256 bs)) (replicate 2 c)))
    ≡ to_le_bytes w128 (halves_up c (le bs))
up_halves c bs is = changed_halves (λ (x : ℕ). x * 2 ^ c % 2 ^ 64) bs is (λ x l. omega arith)

-- both halves shifted down
pub down_halves : (c : ℕ) (bs : List ℕ) → IsBlock bs
    → digits_l 256 16 (number_l (2 ^ 64) (zip2 (λ a b. a / 2 ^ b) (digits_l (2 ^ 64) 2 (number_l 256 bs)) (replicate 2 c)))
    ≡ to_le_bytes w128 (halves_down c (le bs))
down_halves c bs is = changed_halves (λ (x : ℕ). x / 2 ^ c) bs is (λ x l. shr_small c x l)

-- `halves_up` gives a word
pub halves_up_lt : (c n : ℕ) → halves_up c n < 2 ^ 128
halves_up_lt c n = omega arith

-- `halves_down` gives a word
pub halves_down_lt : (c n : ℕ) → n < 2 ^ 128 → halves_down c n < 2 ^ 128
halves_down_lt c n small =
    let low : n % 2 ^ 64 / 2 ^ c < 2 ^ 64 = shr_small c (n % 2 ^ 64) (omega arith) in
    let high : n / 2 ^ 64 / 2 ^ c < 2 ^ 64 = shr_small c (n / 2 ^ 64) (omega arith) in
    omega arith

-- what a half loses on its way up is what it gives shifted down; the rest is a multiple of 2^c
half_parts : (v c e : ℕ) → c + e ≡ 64 → (v * 2 ^ c ≡ v / 2 ^ e * 2 ^ 64 + v * 2 ^ c % 2 ^ 64)
    × (v * 2 ^ c % 2 ^ 64 ≡ v % 2 ^ e * 2 ^ c)
half_parts v c e at =
    let out : v * 2 ^ c / 2 ^ 64 ≡ v / 2 ^ e =
    ap (λ (k : ℕ). v * 2 ^ c / 2 ^ k) (sym at) ∙ sym (shr-shr (v * 2 ^ c) c e) ∙ ap (λ (x : ℕ). x / 2 ^ e) (shl-shr v c) in
    let turned : e + c ≡ 64 = omega arith in
    let rest : v * 2 ^ c % 2 ^ 64 ≡ v % 2 ^ e * 2 ^ c =
    ap (λ (k : ℕ). v * 2 ^ c % 2 ^ k) (sym turned) ∙ mod-pow-add (v * 2 ^ c) e c
    ∙ ap₂ (λ (x y : ℕ). x % 2 ^ e * 2 ^ c + y) (shl-shr v c) (mul-mod_left v (2 ^ c)) ∙ omega arith in
    (omega arith, rest)

-- a word times 2^c, where the halves are shifted up, plus 2^64 times what they lose
pub moved_up : (r c e : ℕ) → c + e ≡ 64 → r < 2 ^ 128
    → bit_xor (halves_up c r) (halves_down e r * 2 ^ 64) ≡ r * 2 ^ c
moved_up r c e at small =
    let low : ℕ = r % 2 ^ 64 in
    let high : ℕ = r / 2 ^ 64 in
    let q0 : ℕ = low * 2 ^ c % 2 ^ 64 in
    let q1 : ℕ = high * 2 ^ c % 2 ^ 64 in
    let p0 : ℕ = low / 2 ^ e in
    let p1 : ℕ = high / 2 ^ e in
    let t : ℕ = high % 2 ^ e in
    let first = half_parts low c e at in
    let second = half_parts high c e at in
    let some : 0 < 2 ^ c = pow_pos c in
    let whole : r ≡ high * 2 ^ 64 + low = omega arith in
    let split : r * 2 ^ c ≡ high * 2 ^ c * 2 ^ 64 + low * 2 ^ c =
    ap (λ (x : ℕ). x * 2 ^ c) whole ∙ add-mul (high * 2 ^ 64) low (2 ^ c)
    ∙ ap (λ (x : ℕ). x + low * 2 ^ c) (mul_assoc high (2 ^ 64) (2 ^ c) ∙ ap (λ (x : ℕ). high * x) (mul_comm (2 ^ 64) (2 ^ c))
    ∙ sym (mul_assoc high (2 ^ c) (2 ^ 64))) in
    let below : p0 < 2 ^ c = shr_below low c e (subst (λ (k : ℕ). low < 2 ^ k) (sym at) (omega arith)) in
    let none : 0 * 2 ^ c ≡ 0 = zero-mul (2 ^ c) in
    let more : t * 2 ^ c ≡ t * 2 ^ c + 0 = omega arith in
    let less : p0 ≡ 0 * 2 ^ c + p0 = omega (arith, none) in
    let apart : bit_xor q1 p0 ≡ q1 + p0 =
    ap₂ bit_xor (second.1 ∙ more) less
    ∙ xor_block c t 0 0 p0 some below ∙ ap₂ (λ (x y : ℕ). x * 2 ^ c + y) (xor_zero_r t) (xor_zero_l p0)
    ∙ ap (λ (x : ℕ). x + p0) (sym second.1) in
    let l0 : q0 < 2 ^ 64 = omega arith in
    let l1 : q1 < 2 ^ 64 = omega arith in
    let s0 : p0 < 2 ^ 64 = shr_small e low (omega arith) in
    let q1_is : q1 ≡ 0 * 2 ^ 64 + q1 = omega arith in
    let p_is : p0 + 2 ^ 64 * p1 ≡ p1 * 2 ^ 64 + p0 = omega arith in
    let upper : bit_xor q1 (p0 + 2 ^ 64 * p1) ≡ p1 * 2 ^ 64 + (q1 + p0) =
    ap₂ bit_xor q1_is p_is
    ∙ xor_block 64 0 p1 q1 p0 l1 s0 ∙ ap₂ (λ (x y : ℕ). x * 2 ^ 64 + y) (xor_zero_l p1) apart in
    let up_is : halves_up c r ≡ q1 * 2 ^ 64 + q0 = omega arith in
    let down_is : halves_down e r * 2 ^ 64 ≡ (p0 + 2 ^ 64 * p1) * 2 ^ 64 + 0 = omega arith in
    let all : bit_xor (halves_up c r) (halves_down e r * 2 ^ 64) ≡ (p1 * 2 ^ 64 + (q1 + p0)) * 2 ^ 64 + q0 =
    ap₂ bit_xor up_is down_is
    ∙ xor_block 64 q1 (p0 + 2 ^ 64 * p1) q0 0 l0 (omega arith)
    ∙ ap₂ (λ (x y : ℕ). x * 2 ^ 64 + y) upper (xor_zero_r q0) in
    all ∙ omega (arith, split, first.0, second.0)

-- a number that is moved up by s places and then down by s + i is moved down by i
pub moved_back : (n s i k : ℕ) → s + i ≡ k → n * 2 ^ s / 2 ^ k ≡ n / 2 ^ i
moved_back n s i k at =
    ap (λ (j : ℕ). n * 2 ^ s / 2 ^ j) (sym at) ∙ sym (shr-shr (n * 2 ^ s) s i) ∙ ap (λ (x : ℕ). x / 2 ^ i) (shl-shr n s)

-- a word shifted down: the halves are shifted down, and the lower one takes what the upper one loses
pub shifted_is : (r c e : ℕ) → c + e ≡ 64 → r < 2 ^ 128
    → bit_xor (halves_up c (r / 2 ^ 64)) (halves_down e r) ≡ r / 2 ^ e
shifted_is r c e at small =
    let low : ℕ = r % 2 ^ 64 in
    let high : ℕ = r / 2 ^ 64 in
    let q0 : ℕ = low * 2 ^ c % 2 ^ 64 in
    let q1 : ℕ = high * 2 ^ c % 2 ^ 64 in
    let d : ℕ = halves_down e r in
    let own : high % 2 ^ 64 ≡ high = omega arith in
    let none : high / 2 ^ 64 ≡ 0 = omega arith in
    let one_half : halves_up c high ≡ q1 =
    ap₂ (λ (x y : ℕ). x * 2 ^ c % 2 ^ 64 + 2 ^ 64 * (y * 2 ^ c % 2 ^ 64)) own none
    ∙ ap (λ (x : ℕ). q1 + 2 ^ 64 * (x % 2 ^ 64)) (zero-mul (2 ^ c)) ∙ omega arith in
    let l0 : q0 < 2 ^ 64 = omega arith in
    let up_is : halves_up c r ≡ q1 * 2 ^ 64 + q0 = omega arith in
    let above : halves_up c r / 2 ^ 64 ≡ q1 = omega (arith, up_is, l0) in
    ap₂ bit_xor (one_half ∙ sym above) (sym (shl-shr d 64))
    ∙ sym (xor_shr (halves_up c r) (d * 2 ^ 64) 64) ∙ ap (λ (x : ℕ). x / 2 ^ 64) (moved_up r c e at small) ∙ moved_back r c e 64 at

-- what falls out of a word that is shifted down by less than a half, at the top of a word
pub fallen_out : (n c : ℕ) → n < 2 ^ 128 → halves_up c n * 2 ^ 64 % 2 ^ 128 ≡ n * 2 ^ (64 + c) % 2 ^ 128
fallen_out n c small =
    let low : ℕ = n % 2 ^ 64 in
    let high : ℕ = n / 2 ^ 64 in
    let whole : n ≡ high * 2 ^ 64 + low = omega arith in
    let split : n * 2 ^ c ≡ high * 2 ^ c * 2 ^ 64 + low * 2 ^ c =
    ap (λ (x : ℕ). x * 2 ^ c) whole ∙ add-mul (high * 2 ^ 64) low (2 ^ c)
    ∙ ap (λ (x : ℕ). x + low * 2 ^ c) (mul_assoc high (2 ^ 64) (2 ^ c) ∙ ap (λ (x : ℕ). high * x) (mul_comm (2 ^ 64) (2 ^ c))
    ∙ sym (mul_assoc high (2 ^ c) (2 ^ 64))) in
    let all : n * 2 ^ (64 + c) ≡ n * 2 ^ c * 2 ^ 64 =
    ap (λ (x : ℕ). n * x) (pow-add 2 64 c ∙ mul_comm (2 ^ 64) (2 ^ c)) ∙ sym (mul_assoc n (2 ^ c) (2 ^ 64)) in
    omega (arith, split, all)

-- the lower half in the place of the upper one
pub half_above : (bs : List ℕ) → IsBlock bs → digits_l 256 16 (number_l (2 ^ 64) (0 ∷ number_l 256 bs % 2 ^ 64 ∷ []))
    ≡ to_le_bytes w128 (le bs * 2 ^ 64 % 2 ^ 128)
half_above bs is =
    let n : ℕ = le bs in
    let small : n < 2 ^ 128 = le_block bs is in
    let number : 0 + 2 ^ 64 * (n % 2 ^ 64) ≡ n * 2 ^ 64 % 2 ^ 128 = omega arith in
    ap (λ (x : ℕ). digits_l 256 16 (number_l (2 ^ 64) (0 ∷ x % 2 ^ 64 ∷ []))) (number_of bs)
    ∙ two_halves 0 (n % 2 ^ 64) (omega arith) (omega arith) ∙ ap (to_le_bytes w128) number

-- the upper half in the place of the lower one
pub half_below : (bs : List ℕ) → IsBlock bs → digits_l 256 16 (number_l (2 ^ 64) (number_l 256 bs / 2 ^ 64 % 2 ^ 64 ∷ 0 ∷ []))
    ≡ to_le_bytes w128 (le bs / 2 ^ 64)
half_below bs is =
    let n : ℕ = le bs in
    let small : n < 2 ^ 128 = le_block bs is in
    let number : n / 2 ^ 64 % 2 ^ 64 + 2 ^ 64 * 0 ≡ n / 2 ^ 64 = omega arith in
    ap (λ (x : ℕ). digits_l 256 16 (number_l (2 ^ 64) (x / 2 ^ 64 % 2 ^ 64 ∷ 0 ∷ []))) (number_of bs)
    ∙ two_halves (n / 2 ^ 64 % 2 ^ 64) 0 (omega arith) (omega arith) ∙ ap (to_le_bytes w128) number

-- ---- three words as one number

-- a word that is moved by less than a half
pub total_low : (a b c r i e : ℕ) → i + e ≡ 64 → r < 2 ^ 128
    → total (bit_xor a (halves_up i r)) (bit_xor b (halves_down e r)) c ≡ bit_xor (total a b c) (r * 2 ^ i)
total_low a b c r i e at small =
    let u : ℕ = halves_up i r in
    let d : ℕ = halves_down e r in
    ap (λ (x : ℕ). bit_xor (bit_xor a u) (bit_xor x (c * 2 ^ 128))) (xor_shl 64 b d)
    ∙ ap (bit_xor (bit_xor a u)) (xor_swap (b * 2 ^ 64) (d * 2 ^ 64) (c * 2 ^ 128))
    ∙ xor_exchange a u (bit_xor (b * 2 ^ 64) (c * 2 ^ 128)) (d * 2 ^ 64)
    ∙ ap (bit_xor (total a b c)) (moved_up r i e at small)

-- a word that is moved by a half
pub total_middle : (a b c r : ℕ) → total a (bit_xor b r) c ≡ bit_xor (total a b c) (r * 2 ^ 64)
total_middle a b c r =
    ap (λ (x : ℕ). bit_xor a (bit_xor x (c * 2 ^ 128))) (xor_shl 64 b r)
    ∙ ap (bit_xor a) (xor_swap (b * 2 ^ 64) (r * 2 ^ 64) (c * 2 ^ 128))
    ∙ sym (xor_assoc a (bit_xor (b * 2 ^ 64) (c * 2 ^ 128)) (r * 2 ^ 64))

-- a word that is moved by more than a half
pub total_high : (a b c r i e : ℕ) → i + e ≡ 64 → r < 2 ^ 128
    → total a (bit_xor b (halves_up i r)) (bit_xor c (halves_down e r)) ≡ bit_xor (total a b c) (r * 2 ^ (64 + i))
total_high a b c r i e at small =
    let u : ℕ = halves_up i r in
    let d : ℕ = halves_down e r in
    let moved : bit_xor (u * 2 ^ 64) (d * 2 ^ 128) ≡ r * 2 ^ (64 + i) =
    ap (bit_xor (u * 2 ^ 64)) (omega arith) ∙ sym (xor_shl 64 u (d * 2 ^ 64))
    ∙ ap (λ (x : ℕ). x * 2 ^ 64) (moved_up r i e at small)
    ∙ mul_assoc r (2 ^ i) (2 ^ 64) ∙ ap (λ (x : ℕ). r * x) (mul_comm (2 ^ i) (2 ^ 64) ∙ sym (pow-add 2 64 i)) in
    ap₂ (λ (x y : ℕ). bit_xor a (bit_xor x y)) (xor_shl 64 b u) (xor_shl 128 c d)
    ∙ ap (bit_xor a) (xor_exchange (b * 2 ^ 64) (u * 2 ^ 64) (c * 2 ^ 128) (d * 2 ^ 128))
    ∙ sym (xor_assoc a (bit_xor (b * 2 ^ 64) (c * 2 ^ 128)) (bit_xor (u * 2 ^ 64) (d * 2 ^ 128)))
    ∙ ap (bit_xor (total a b c)) moved

-- a word that is moved by two halves
pub total_last : (a b c r : ℕ) → total a b (bit_xor c r) ≡ bit_xor (total a b c) (r * 2 ^ 128)
total_last a b c r =
    ap (λ (x : ℕ). bit_xor a (bit_xor (b * 2 ^ 64) x)) (xor_shl 128 c r)
    ∙ ap (bit_xor a) (sym (xor_assoc (b * 2 ^ 64) (c * 2 ^ 128) (r * 2 ^ 128)))
    ∙ sym (xor_assoc a (bit_xor (b * 2 ^ 64) (c * 2 ^ 128)) (r * 2 ^ 128))

-- the lower half of the number
pub total_below : (a b c : ℕ) → a < 2 ^ 128 → total a b c % 2 ^ 128 ≡ bit_xor a (b * 2 ^ 64 % 2 ^ 128)
total_below a b c small =
    let own : a % 2 ^ 128 ≡ a = omega arith in
    let out : c * 2 ^ 128 % 2 ^ 128 ≡ 0 = omega arith in
    xor_mod a (bit_xor (b * 2 ^ 64) (c * 2 ^ 128)) 128
    ∙ ap₂ bit_xor own (xor_mod (b * 2 ^ 64) (c * 2 ^ 128) 128 ∙ ap (bit_xor (b * 2 ^ 64 % 2 ^ 128)) out
    ∙ xor_zero_r (b * 2 ^ 64 % 2 ^ 128))

-- the upper half of the number
pub total_above : (a b c : ℕ) → a < 2 ^ 128 → total a b c / 2 ^ 128 ≡ bit_xor (b / 2 ^ 64) c
total_above a b c small =
    let none : a / 2 ^ 128 ≡ 0 = omega arith in
    let middle : b * 2 ^ 64 / 2 ^ 128 ≡ b / 2 ^ 64 = omega arith in
    let own : c * 2 ^ 128 / 2 ^ 128 ≡ c = omega arith in
    xor_shr a (bit_xor (b * 2 ^ 64) (c * 2 ^ 128)) 128
    ∙ ap₂ bit_xor none (xor_shr (b * 2 ^ 64) (c * 2 ^ 128) 128 ∙ ap₂ bit_xor middle own)
    ∙ xor_zero_l (bit_xor (b / 2 ^ 64) c)
