-- The numbers that the reads of byteorder return are `le` and `be` of the bytes.
use Rattle.std.proofs.Common.{◌≡◌, ℕ, zero, suc, ◌+◌, ◌*◌, ◌^◌, ◌≤◌, List, [], ◌∷◌, length, take, refl, ap}
use Rattle.std.proofs.Common.{◌∙◌, sym, arith}
use Rattle.std.proofs.Math.Nat.{pow-suc, pow-zero, add-mul, mul_assoc, mul_comm}
use Rattle.std.specs.Int.Digits.{number_from_digits_after}
use Rattle.byteorder.specs.Endian.{little_number, big_from, big_number}
use Rattle.byteorder.specs.Numbers.{little_from-cons, big_from-cons}
use Rattle.octets.specs.Bytes.{le, be}

-- the number read from the first n bytes, least significant byte first, is `le` of them
pub little_number_is : (n : ℕ) (xs : List ℕ) → n ≤ length xs → little_number n xs ≡ le (take n xs)
unfolding le
little_number_is zero xs h = refl
little_number_is (suc n) [] h = absurd (omega arith)
little_number_is (suc n) (x ∷ xs) h =
    let rest = little_number_is n xs (omega arith) in
    let moved = little_from-cons 0 n x xs in
    omega (arith, rest, moved)

-- the digits of m followed by the first n bytes spell m * 256^n plus the number of these bytes
big_after : (n m : ℕ) (xs : List ℕ) → n ≤ length xs
    → number_from_digits_after 256 m (take n xs) ≡ m * 256 ^ n + big_from 0 n xs
big_after zero m xs h = rw (pow-zero 256) (omega arith)
big_after (suc n) m [] h = absurd (omega arith)
big_after (suc n) m (x ∷ xs) h =
    let p : ℕ = 256 ^ n in
    let rest = big_after n (m * 256 + x) xs (omega arith) in
    let moved = big_from-cons 0 n x xs in
    let spread : (m * 256 + x) * p ≡ m * 256 * p + x * p = add-mul (m * 256) x p in
    let power : m * 256 ^ suc n ≡ m * 256 * p = ap (λ y. m * y) (pow-suc 256 n ∙ mul_comm p 256)
    ∙ sym (mul_assoc m 256 p) in
    omega (arith, rest, moved, spread, power)

-- the number read from the first n bytes, most significant byte first, is `be` of them
pub big_number_is : (n : ℕ) (xs : List ℕ) → n ≤ length xs → big_number n xs ≡ be (take n xs)
unfolding be
big_number_is n xs h = let e = big_after n 0 xs h in omega (arith, e)
