-- Exchanging bits between two planes.
use Rattle.std.proofs.Common.{◌≡◌, ℕ, zero, suc, ◌+◌, ◌-◌, ◌*◌, ◌/◌, ◌%◌, ◌^◌, ◌<◌, Bool, true, false, cond, ◌==◌}
use Rattle.std.proofs.Common.{◌&&◌, List, get_or, length, replicate, min, bit_and, bit_xor, refl, sym, ap, ap₂, ◌∙◌}
use Rattle.std.proofs.Common.{arith, inl, inr, add-zero}
use Rattle.std.specs.Int.{bit_at}
use Rattle.std.proofs.Math.Nat.{mul_comm, div-add-mod, mod-lt}
use Rattle.std.proofs.lemmas.Bool.{and_parts, eqb-true, cases_lt}
use Rattle.std.proofs.lemmas.Nat.{pow_pos}
use Rattle.std.proofs.lemmas.Nat.Bits.{bit_at_xor, bit_at_and, bit_at-zero, bit_at-lt, bit_at_cat_low, bit_at_cat_high}
use Rattle.std.proofs.lemmas.List.{get_or-replicate, length-replicate}
use Rattle.std.proofs.lemmas.Simd.{length-zip2, get_or-zip2}
use lib.Lanes.{zip2}
use Rattle.aes.specs.Code.Planes.{IsMask}
use Rattle.aes.proofs.Circuit.{plus2}
use Rattle.aes.proofs.Tested.{all_below, all_below_at}

-- ---- bits
keep : (a v : ℕ) → a < 2 → v ≡ 0 → plus2 a v ≡ a
keep a v ha e = omega arith

swap : (a b v : ℕ) → a < 2 → b < 2 → v ≡ plus2 a b → plus2 a v ≡ b
swap a b v ha hb e = omega arith

plus2_comm : (a b : ℕ) → plus2 a b ≡ plus2 b a
plus2_comm a b = omega arith

min_none : (u v : ℕ) → v ≡ 0 → min u v ≡ 0
min_none u v e = omega arith

min_one : (u v : ℕ) → u < 2 → v ≡ 1 → min u v ≡ u
min_one u v h e = omega arith

-- bit k of a number that is shifted down by n places is bit k + n of the number
pub down : (x n k : ℕ) → bit_at (x / 2 ^ n) k ≡ bit_at x (k + n)
down x n k =
    let whole : x / 2 ^ n * 2 ^ n + x % 2 ^ n ≡ x =
    ap (λ (v : ℕ). v + x % 2 ^ n) (mul_comm (x / 2 ^ n) (2 ^ n)) ∙ div-add-mod x (2 ^ n) in
    let back : k + n - n ≡ k = omega arith in
    sym (ap (λ (v : ℕ). bit_at v (k + n)) (sym whole)
    ∙ bit_at_cat_high (x / 2 ^ n) n (x % 2 ^ n) (k + n) (mod-lt x (pow_pos n)) (omega arith)
    ∙ ap (bit_at (x / 2 ^ n)) back)

-- the bits of the low byte of a number are the lowest bits of the number
pub low_bit : (v k : ℕ) → k < 8 → bit_at (v % 2 ^ 8) k ≡ bit_at v k
low_bit v k h =
    let whole : v / 2 ^ 8 * 2 ^ 8 + v % 2 ^ 8 ≡ v = omega arith in
    sym (bit_at_cat_low (v / 2 ^ 8) 8 (v % 2 ^ 8) k h) ∙ ap (λ (w : ℕ). bit_at w k) whole

-- below place 8, the bits of a number that is shifted up, cut to a byte, are those of the shifted number
up : (x n k : ℕ) → k < 8 → bit_at (x * 2 ^ n % 2 ^ 8) k ≡ bit_at (x * 2 ^ n + 0) k
up x n k h = low_bit (x * 2 ^ n) k h ∙ ap (λ (v : ℕ). bit_at v k) (sym (add-zero (x * 2 ^ n)))

-- ---- lanes
-- an operator on a plane and one number in each lane acts on each lane with that number
with_number : (f : ℕ → ℕ → ℕ) (x : List ℕ) (n l : ℕ) → length x ≡ 32 → l < 32
    → get_or (zip2 f x (replicate 32 n)) l 0 ≡ f (get_or x l 0) n
with_number f x n l hx h =
    let long = length-replicate {A = ℕ} 32 n in
    get_or-zip2 f x (replicate 32 n) l 0 0 0 (omega arith) (omega arith)
    ∙ ap (f (get_or x l 0)) (get_or-replicate {A = ℕ} 32 l n 0 h)

long_number : (f : ℕ → ℕ → ℕ) (x : List ℕ) (n : ℕ) → length x ≡ 32 → length (zip2 f x (replicate 32 n)) ≡ 32
long_number f x n hx = length-zip2 f x (replicate 32 n) (hx ∙ sym (length-replicate {A = ℕ} 32 n)) ∙ hx

long_two : (f : ℕ → ℕ → ℕ) (x y : List ℕ) → length x ≡ 32 → length y ≡ 32 → length (zip2 f x y) ≡ 32
long_two f x y hx hy = length-zip2 f x y (hx ∙ sym hy) ∙ hx

of_two : (f : ℕ → ℕ → ℕ) (x y : List ℕ) (l : ℕ) → length x ≡ 32 → length y ≡ 32 → l < 32
    → get_or (zip2 f x y) l 0 ≡ f (get_or x l 0) (get_or y l 0)
of_two f x y l hx hy h = get_or-zip2 f x y l 0 0 0 (omega arith) (omega arith)

-- the bits under the mask m in which x, shifted down by n, and y differ
abbrev pub over : ℕ → ℕ → List ℕ → List ℕ → List ℕ
over n m x y = zip2 bit_and (zip2 bit_xor (zip2 (λ a b. a / 2 ^ b) x (replicate 32 n)) y) (replicate 32 m)

-- the bits under the mask m in which two bytes, the first one shifted down by n, differ
abbrev over_byte : ℕ → ℕ → ℕ → ℕ → ℕ
over_byte n m x y = bit_and (bit_xor (x / 2 ^ n) y) m

-- x after an exchange: `over`, shifted up by n, is XORed into it
abbrev pub first_of : ℕ → ℕ → List ℕ → List ℕ → List ℕ
first_of n m x y = zip2 bit_xor x (zip2 (λ a b. a * 2 ^ b % 2 ^ 8) (over n m x y) (replicate 32 n))

-- y after an exchange: `over` is XORed into it
abbrev pub second_of : ℕ → ℕ → List ℕ → List ℕ → List ℕ
second_of n m x y = zip2 bit_xor y (over n m x y)

long_over : (n m : ℕ) (x y : List ℕ) → length x ≡ 32 → length y ≡ 32 → length (over n m x y) ≡ 32
long_over n m x y hx hy =
    long_number bit_and (zip2 bit_xor (zip2 (λ a b. a / 2 ^ b) x (replicate 32 n)) y) m
    (long_two bit_xor (zip2 (λ a b. a / 2 ^ b) x (replicate 32 n)) y (long_number (λ a b. a / 2 ^ b) x n hx) hy)

pub long_first : (n m : ℕ) (x y : List ℕ) → length x ≡ 32 → length y ≡ 32 → length (first_of n m x y) ≡ 32
long_first n m x y hx hy =
    long_two bit_xor x (zip2 (λ a b. a * 2 ^ b % 2 ^ 8) (over n m x y) (replicate 32 n)) hx
    (long_number (λ a b. a * 2 ^ b % 2 ^ 8) (over n m x y) n (long_over n m x y hx hy))

pub long_second : (n m : ℕ) (x y : List ℕ) → length x ≡ 32 → length y ≡ 32 → length (second_of n m x y) ≡ 32
long_second n m x y hx hy = long_two bit_xor y (over n m x y) hy (long_over n m x y hx hy)

over_at : (n m : ℕ) (x y : List ℕ) (l : ℕ) → length x ≡ 32 → length y ≡ 32 → l < 32
    → get_or (over n m x y) l 0 ≡ over_byte n m (get_or x l 0) (get_or y l 0)
over_at n m x y l hx hy h =
    let down = zip2 (λ (a b : ℕ). a / 2 ^ b) x (replicate 32 n) in
    let long = long_number (λ a b. a / 2 ^ b) x n hx in
    with_number bit_and (zip2 bit_xor down y) m l (long_two bit_xor down y long hy) h
    ∙ ap (λ v. bit_and v m) (of_two bit_xor down y l long hy h
    ∙ ap (λ v. bit_xor v (get_or y l 0)) (with_number (λ a b. a / 2 ^ b) x n l hx h))

first_at : (n m : ℕ) (x y : List ℕ) (l : ℕ) → length x ≡ 32 → length y ≡ 32 → l < 32
    → get_or (first_of n m x y) l 0
    ≡ bit_xor (get_or x l 0) (over_byte n m (get_or x l 0) (get_or y l 0) * 2 ^ n % 2 ^ 8)
first_at n m x y l hx hy h =
    let long = long_over n m x y hx hy in
    of_two bit_xor x (zip2 (λ a b. a * 2 ^ b % 2 ^ 8) (over n m x y) (replicate 32 n)) l hx
    (long_number (λ a b. a * 2 ^ b % 2 ^ 8) (over n m x y) n long) h
    ∙ ap (bit_xor (get_or x l 0)) (with_number (λ a b. a * 2 ^ b % 2 ^ 8) (over n m x y) n l long h
    ∙ ap (λ v. v * 2 ^ n % 2 ^ 8) (over_at n m x y l hx hy h))

second_at : (n m : ℕ) (x y : List ℕ) (l : ℕ) → length x ≡ 32 → length y ≡ 32 → l < 32
    → get_or (second_of n m x y) l 0 ≡ bit_xor (get_or y l 0) (over_byte n m (get_or x l 0) (get_or y l 0))
second_at n m x y l hx hy h =
    of_two bit_xor y (over n m x y) l hy (long_over n m x y hx hy) h
    ∙ ap (bit_xor (get_or y l 0)) (over_at n m x y l hx hy h)

-- choosing between two planes chooses between their bits
chosen : (b : Bool) (x y : List ℕ) (l i : ℕ)
    → cond b (bit_at (get_or x l 0) i) (bit_at (get_or y l 0) i) ≡ bit_at (get_or (cond b x y) l 0) i
chosen true x y l i = refl
chosen false x y l i = refl

-- ---- a byte
-- a bit of `over_byte` is set if the mask has it, and x, shifted down by n, and y differ in it
over_bit : (n m x y k : ℕ) → bit_at (over_byte n m x y) k ≡ min (plus2 (bit_at x (k + n)) (bit_at y k)) (bit_at m k)
over_bit n m x y k =
    bit_at_and (bit_xor (x / 2 ^ n) y) m k
    ∙ ap (λ u. min u (bit_at m k)) (bit_at_xor (x / 2 ^ n) y k ∙ ap (λ u. plus2 u (bit_at y k)) (down x n k))

-- a bit of `over_byte`, shifted up by n, is set if the shifted mask has it, and x, and y shifted up by n, differ in it
back_bit : (n m x y k : ℕ) → k < 8 → bit_at (over_byte n m x y * 2 ^ n % 2 ^ 8) k
    ≡ min (plus2 (bit_at x k) (bit_at y (k - n))) (bit_at (m * 2 ^ n % 2 ^ 8) k)
back_bit n m x y k h =
    let t : ℕ = over_byte n m x y in
    up t n k h ∙ elim (cases_lt k n) [
      | inl low ↦ bit_at_cat_low t n 0 k low ∙ bit_at-zero k
          ∙ sym (min_none (plus2 (bit_at x k) (bit_at y (k - n))) (bit_at (m * 2 ^ n % 2 ^ 8) k)
          (up m n k h ∙ bit_at_cat_low m n 0 k low ∙ bit_at-zero k))
      | inr high ↦
          let place : k - n + n ≡ k = omega arith in
          bit_at_cat_high t n 0 k (pow_pos n) high ∙ over_bit n m x y (k - n)
          ∙ ap₂ (λ (i b : ℕ). min (plus2 (bit_at x i) (bit_at y (k - n))) b) place
          (sym (up m n k h ∙ bit_at_cat_high m n 0 k (pow_pos n) high))
    ]

-- bit k of the new x is bit k of x, if the shifted mask has no bit there, and bit k - n of y if it has one
first_bit : (n m x y k d : ℕ) → k < 8 → bit_at (m * 2 ^ n % 2 ^ 8) k ≡ d
    → bit_at (bit_xor x (over_byte n m x y * 2 ^ n % 2 ^ 8)) k ≡ cond (d == 0) (bit_at x (k - d * n)) (bit_at y (k - d * n))
first_bit n m x y k zero h e =
    let t : ℕ = over_byte n m x y * 2 ^ n % 2 ^ 8 in
    let place : k ≡ k - 0 * n = omega arith in
    bit_at_xor x t k ∙ keep (bit_at x k) (bit_at t k) (bit_at-lt x k)
    (back_bit n m x y k h ∙ min_none (plus2 (bit_at x k) (bit_at y (k - n))) (bit_at (m * 2 ^ n % 2 ^ 8) k) e)
    ∙ ap (bit_at x) place
first_bit n m x y k (suc zero) h e =
    let t : ℕ = over_byte n m x y * 2 ^ n % 2 ^ 8 in
    let place : k - n ≡ k - 1 * n = omega arith in
    let sum : plus2 (bit_at x k) (bit_at y (k - n)) < 2 = omega arith in
    bit_at_xor x t k ∙ swap (bit_at x k) (bit_at y (k - n)) (bit_at t k) (bit_at-lt x k) (bit_at-lt y (k - n))
    (back_bit n m x y k h ∙ min_one (plus2 (bit_at x k) (bit_at y (k - n))) (bit_at (m * 2 ^ n % 2 ^ 8) k) sum e)
    ∙ ap (bit_at y) place
first_bit n m x y k (suc (suc d)) h e = absurd (omega (arith, bit_at-lt (m * 2 ^ n % 2 ^ 8) k))

-- bit k of the new y is bit k + n of x, if the mask has a bit there, and bit k of y if it has none
second_bit : (n m x y k d : ℕ) → d < 2 → bit_at m k ≡ 1 - d
    → bit_at (bit_xor y (over_byte n m x y)) k ≡ cond (d == 0) (bit_at x (k + n - d * n)) (bit_at y (k + n - d * n))
second_bit n m x y k zero h e =
    let t : ℕ = over_byte n m x y in
    let place : k + n ≡ k + n - 0 * n = omega arith in
    let sum : plus2 (bit_at x (k + n)) (bit_at y k) < 2 = omega arith in
    bit_at_xor y t k ∙ swap (bit_at y k) (bit_at x (k + n)) (bit_at t k) (bit_at-lt y k) (bit_at-lt x (k + n))
    (over_bit n m x y k ∙ min_one (plus2 (bit_at x (k + n)) (bit_at y k)) (bit_at m k) sum e
    ∙ plus2_comm (bit_at x (k + n)) (bit_at y k))
    ∙ ap (bit_at x) place
second_bit n m x y k (suc zero) h e =
    let t : ℕ = over_byte n m x y in
    let place : k ≡ k + n - 1 * n = omega arith in
    bit_at_xor y t k ∙ keep (bit_at y k) (bit_at t k) (bit_at-lt y k)
    (over_bit n m x y k ∙ min_none (plus2 (bit_at x (k + n)) (bit_at y k)) (bit_at m k) e)
    ∙ ap (bit_at y) place
second_bit n m x y k (suc (suc d)) h e = absurd (omega arith)

-- ---- planes
-- whether m has the bits at the places below 8 whose digit of weight n is 0, and, shifted up by n, at those whose digit is 1
abbrev pub is_mask : ℕ → ℕ → Bool
is_mask n m = all_below (λ k. (bit_at (m * 2 ^ n % 2 ^ 8) k == k / n % 2) && (bit_at m k == 1 - k / n % 2)) 8

-- a mask that passes `is_mask` has bit 1 - k / n % 2 at place k, and moved up by n it has bit k / n % 2
mask_at : (n m k : ℕ) → is_mask n m ≡ true → k < 8
    → (bit_at (m * 2 ^ n % 2 ^ 8) k ≡ k / n % 2) × (bit_at m k ≡ 1 - k / n % 2)
mask_at n m k test h =
    let both = and_parts (bit_at (m * 2 ^ n % 2 ^ 8) k == k / n % 2) (bit_at m k == 1 - k / n % 2)
    (all_below_at (λ k. (bit_at (m * 2 ^ n % 2 ^ 8) k == k / n % 2) && (bit_at m k == 1 - k / n % 2)) 8 k test h) in
    (eqb-true (bit_at (m * 2 ^ n % 2 ^ 8) k) (k / n % 2) both.0, eqb-true (bit_at m k) (1 - k / n % 2) both.1)

-- each of the three masks passes `is_mask`
pub masks : (n m : ℕ) → IsMask n m → is_mask n m ≡ true
masks n m (inl e) = ap₂ is_mask e.0 e.1
masks n m (inr (inl e)) = ap₂ is_mask e.0 e.1
masks n m (inr (inr e)) = ap₂ is_mask e.0 e.1

-- after an exchange, bit k of the first plane is bit k of x, or, if the digit of weight n of k is 1, bit k - n of y
pub first : (n m : ℕ) → is_mask n m ≡ true → (x y : List ℕ) (l k : ℕ) → length x ≡ 32 → length y ≡ 32 → l < 32 → k < 8
    → bit_at (get_or (first_of n m x y) l 0) k ≡ bit_at (get_or (cond (k / n % 2 == 0) x y) l 0) (k - k / n % 2 * n)
first n m test x y l k hx hy hl hk =
    ap (λ v. bit_at v k) (first_at n m x y l hx hy hl)
    ∙ first_bit n m (get_or x l 0) (get_or y l 0) k (k / n % 2) hk (mask_at n m k test hk).0
    ∙ chosen (k / n % 2 == 0) x y l (k - k / n % 2 * n)

-- after an exchange, bit k of the second plane is bit k of y, or, if the digit of weight n of k is 0, bit k + n of x
pub second : (n m : ℕ) → is_mask n m ≡ true → (x y : List ℕ) (l k : ℕ) → length x ≡ 32 → length y ≡ 32 → l < 32 → k < 8
    → bit_at (get_or (second_of n m x y) l 0) k
    ≡ bit_at (get_or (cond (k / n % 2 == 0) x y) l 0) (k + n - k / n % 2 * n)
second n m test x y l k hx hy hl hk =
    let digit : k / n % 2 < 2 = omega arith in
    ap (λ v. bit_at v k) (second_at n m x y l hx hy hl)
    ∙ second_bit n m (get_or x l 0) (get_or y l 0) k (k / n % 2) digit (mask_at n m k test hk).1
    ∙ chosen (k / n % 2 == 0) x y l (k + n - k / n % 2 * n)
