-- Products of bytes, computed by doubling.
use Rattle.std.proofs.Common.{◌≡◌, ℕ, zero, suc, ◌+◌, ◌-◌, ◌*◌, ◌/◌, ◌%◌, ◌<◌, true, ◌&&◌, ◌==◌, cond}
use Rattle.std.proofs.Common.{nat_lt, ltb, ltb-true, refl, sym, ap, ap₂, ◌∙◌, arith, bit_xor}
use Rattle.std.proofs.lemmas.Bool.{and_parts, eqb-true}
use Rattle.octets.specs.Polynomial.{product, residue}
use Rattle.aes.specs.Field.{times}
use Rattle.aes.proofs.Tested.{all_below, all_below_at}
use Rattle.aes.proofs.FieldFacts.{times_comm}
use Rattle.aes.proofs.Sums.{times_xor, times_zero, xor_times, times_assoc}

-- ---- maps that take sums to sums
-- a byte is the sum of its high and its low half, tested at each byte
halves_computed : all_below (λ x. x == bit_xor (x / 16 * 16) (x % 16)) 256 ≡ true
halves_computed = refl

-- a byte is the sum of its high and its low half
halves_are : (x : ℕ) → x < 256 → x ≡ bit_xor (x / 16 * 16) (x % 16)
halves_are x h = eqb-true x (bit_xor (x / 16 * 16) (x % 16))
    (all_below_at (λ x. x == bit_xor (x / 16 * 16) (x % 16)) 256 x halves_computed h)

-- two maps that take sums to sums agree on bytes if they agree on halves of bytes
by_halves : (f g : ℕ → ℕ) → ((x y : ℕ) → f (bit_xor x y) ≡ bit_xor (f x) (f y))
    → all_below (λ x. g x == bit_xor (g (x / 16 * 16)) (g (x % 16))) 256 ≡ true
    → all_below (λ a. (f a == g a) && (f (a * 16) == g (a * 16))) 16 ≡ true
    → (x : ℕ) → x < 256 → f x ≡ g x
by_halves f g keeps sums same x h =
    let at = λ (a : ℕ) (l : a < 16). and_parts (f a == g a) (f (a * 16) == g (a * 16))
    (all_below_at (λ a. (f a == g a) && (f (a * 16) == g (a * 16))) 16 a same l) in
    ap f (halves_are x h) ∙ keeps (x / 16 * 16) (x % 16)
    ∙ ap₂ bit_xor (eqb-true (f (x / 16 * 16)) (g (x / 16 * 16)) (at (x / 16) (omega arith)).1)
    (eqb-true (f (x % 16)) (g (x % 16)) (at (x % 16) (omega arith)).0)
    ∙ sym (eqb-true (g x) (bit_xor (g (x / 16 * 16)) (g (x % 16)))
    (all_below_at (λ x. g x == bit_xor (g (x / 16 * 16)) (g (x % 16))) 256 x sums h))

-- ---- 1, 2 and 3
-- the product with 1 is the number, tested on halves
one_computed : all_below (λ a. (times a 1 == a) && (times (a * 16) 1 == a * 16)) 16 ≡ true
unfolding times product residue
one_computed = refl

-- the product with 1 is the byte
pub times_one : (x : ℕ) → x < 256 → times x 1 ≡ x
times_one = by_halves (λ x. times x 1) (λ x. x) (λ x y. xor_times x y 1) halves_computed one_computed

-- the product with 1 on the left is the byte
pub single_is : (x : ℕ) → x < 256 → times 1 x ≡ x
single_is x h = times_comm 1 x ∙ times_one x h

-- twice a byte
abbrev pub double : ℕ → ℕ
double x = cond (nat_lt x 128) (2 * x) (bit_xor (2 * x - 256) 0x1b)

-- `double` takes sums to sums, tested at each byte
doubles_computed : all_below (λ x. double x == bit_xor (double (x / 16 * 16)) (double (x % 16))) 256 ≡ true
doubles_computed = refl

-- the product with 2 is `double`, tested on halves
two_computed : all_below (λ a. (times 2 a == double a) && (times 2 (a * 16) == double (a * 16))) 16 ≡ true
unfolding times product residue
two_computed = refl

-- the product with 2 is `double`
pub double_is : (x : ℕ) → x < 256 → times 2 x ≡ double x
double_is = by_halves (times 2) (λ x. double x) (times_xor 2) doubles_computed two_computed

-- the product with 3 is the product with 2 plus the byte
pub triple_is : (x : ℕ) → x < 256 → times 3 x ≡ bit_xor (times 2 x) x
triple_is x h = xor_times 2 1 x ∙ ap (bit_xor (times 2 x)) (single_is x h)

-- three times a byte
abbrev pub triple : ℕ → ℕ
triple x = bit_xor (double x) x

-- the product with 3 is `triple`
pub triple_by : (x : ℕ) → x < 256 → times 3 x ≡ triple x
triple_by x h = triple_is x h ∙ ap (λ y. bit_xor y x) (double_is x h)

-- ---- any number
-- `double` of a byte is below 256, tested at each byte
doubles_small : all_below (λ x. ltb (double x) 256) 256 ≡ true
doubles_small = refl

-- `double` of a byte is below 256
double_small : (x : ℕ) → x < 256 → double x < 256
double_small x h = ltb-true (double x) 256 (all_below_at (λ x. ltb (double x) 256) 256 x doubles_small h)

-- a byte is the sum of its lowest bit and twice the rest, tested at each byte
lowest_computed : all_below (λ y. y == bit_xor (y % 2) (double (y / 2))) 256 ≡ true
lowest_computed = refl

-- a byte is the sum of its lowest bit and twice the rest
lowest_is : (y : ℕ) → y < 256 → y ≡ bit_xor (y % 2) (double (y / 2))
lowest_is y h = eqb-true y (bit_xor (y % 2) (double (y / 2)))
    (all_below_at (λ y. y == bit_xor (y % 2) (double (y / 2))) 256 y lowest_computed h)

-- the product with a bit is the byte or 0
times_bit : (x b : ℕ) → x < 256 → b < 2 → times x b ≡ cond (b == 1) x 0
times_bit x zero h l = times_zero x
times_bit x (suc zero) h l = times_one x h
times_bit x (suc (suc b)) h l = absurd (omega arith)

-- the product of x and a number y of n bits: the sum of the doubles of x at the bits of y
unfoldable pub product_of : ℕ → ℕ → ℕ → ℕ
product_of zero x y = 0
product_of (suc n) x y = bit_xor (cond (y % 2 == 1) x 0) (product_of n (double x) (y / 2))

-- 2 to the power of n
abbrev pub power : ℕ → ℕ
power zero = 1
power (suc n) = power n + power n

-- `product_of` computes the product of two bytes
pub times_is : (n x y : ℕ) → x < 256 → y < 256 → y < power n → times x y ≡ product_of n x y
unfolding product_of
times_is zero x y hx hy l = let none : y ≡ 0 = omega (arith, l) in ap (times x) none ∙ times_zero x
times_is (suc n) x y hx hy l =
    let half : ℕ = y / 2 in
    let less : half < power n = omega (arith, l) in
    let small : half < 256 = omega (arith, hy) in
    ap (times x) (lowest_is y hy) ∙ times_xor x (y % 2) (double half)
    ∙ ap₂ bit_xor (times_bit x (y % 2) hx (omega arith)) (
    ap (times x) (sym (double_is half small)) ∙ times_assoc x 2 half
    ∙ ap (λ z. times z half) (times_comm x 2 ∙ double_is x hx)
    ∙ times_is n (double x) half (double_small x hx) small less)
