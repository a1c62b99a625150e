-- Words as vectors of sixteen bytes, the least significant one first.
use Rattle.std.proofs.Common.{◌≡◌, ℕ, zero, suc, ◌+◌, ◌-◌, ◌*◌, ◌/◌, ◌%◌, ◌^◌, ◌<◌}
use Rattle.std.proofs.Common.{List, [], ◌∷◌, ◌++◌, length, replicate}
use Rattle.std.proofs.lemmas.List.{append-nil}
use lib.Lanes.{pick_l}
use Rattle.std.proofs.Common.{get_or, reverse, bit_xor, refl, sym, ap, ap₂, ◌∙◌, arith, subst}
use Rattle.std.proofs.Math.Nat.{pow-zero, pow-suc}
use Rattle.std.proofs.lemmas.Nat.{xor_block, xor_lt}
use Rattle.std.specs.Int.{w128, to_le_bytes, to_be_bytes}
use Rattle.std.specs.Simd.Lanes.{digits_l, number_l}
use Rattle.octets.specs.Bytes.{IsBlock, le, xor_bytes}
use Rattle.octets.proofs.Numbers.{le_halves, le_padded, le_small, power_of_bytes}
use Rattle.octets.proofs.Xors.{length-xor_bytes, xor_bytes_at}
use Rattle.gf128.proofs.WordLemmas.{to_be_block, reverse_block}

-- a number below 256^k is the number that its k digits to base 256 spell
pub le_digits : (k n : ℕ) → n < 256 ^ k → le (digits_l 256 k n) ≡ n
unfolding le
le_digits zero n small = let one : 256 ^ 0 ≡ 1 = pow-zero 256 in omega arith
le_digits (suc k) n small =
    let power : 256 ^ suc k ≡ 256 ^ k * 256 = pow-suc 256 k in
    let rest : le (digits_l 256 k (n / 256)) ≡ n / 256 = le_digits k (n / 256) (omega arith) in
    omega arith

-- a word is the number that its bytes spell
pub le_of_word : (n : ℕ) → n < 2 ^ 128 → le (to_le_bytes w128 n) ≡ n
le_of_word n small =
    let whole : number_l (2 ^ 64) (n % 2 ^ 64 ∷ n / 2 ^ 64 ∷ []) ≡ n = omega arith in
    ap le (sym (le_halves n) ∙ ap (digits_l 256 16) whole) ∙ le_digits 16 n (omega arith)

-- the bytes of a word are a block
pub to_le_block : (n : ℕ) → IsBlock (to_le_bytes w128 n)
to_le_block n =
    let back : reverse (to_be_bytes w128 n) ≡ to_le_bytes w128 n = refl in
    subst IsBlock back (reverse_block (to_be_bytes w128 n) (to_be_block n))

-- the number that a block spells is below 2^128
pub le_block : (bs : List ℕ) → IsBlock bs → le bs < 2 ^ 128
le_block bs is =
    let small : le bs < 256 ^ length bs = le_small bs is.bytes in
    let long : 256 ^ length bs ≡ 2 ^ 128 = ap (λ (n : ℕ). 256 ^ n) is.length_is ∙ power_of_bytes 16 in
    omega arith

-- the XOR of two lists of bytes spells the XOR of their numbers
pub le_xor : (xs ys : List ℕ) → length xs ≡ length ys → ((i : ℕ) → get_or xs i 0 < 256)
    → ((i : ℕ) → get_or ys i 0 < 256) → le (xor_bytes xs ys) ≡ bit_xor (le xs) (le ys)
unfolding le xor_bytes
le_xor [] [] e hx hy = refl
le_xor [] (y ∷ ys) e hx hy = absurd (omega arith)
le_xor (x ∷ xs) [] e hx hy = absurd (omega arith)
le_xor (x ∷ xs) (y ∷ ys) e hx hy =
    let a : ℕ = le xs in
    let b : ℕ = le ys in
    let rest : le (xor_bytes xs ys) ≡ bit_xor a b = le_xor xs ys (omega arith) (λ i. hx (suc i)) (λ i. hy (suc i)) in
    let block : bit_xor (a * 2 ^ 8 + x) (b * 2 ^ 8 + y) ≡ bit_xor a b * 2 ^ 8 + bit_xor x y =
    xor_block 8 a b x y (hx 0) (hy 0) in
    let first : a * 2 ^ 8 + x ≡ x + 256 * a = omega arith in
    let second : b * 2 ^ 8 + y ≡ y + 256 * b = omega arith in
    let sum : bit_xor x y + 256 * le (xor_bytes xs ys) ≡ bit_xor a b * 2 ^ 8 + bit_xor x y = omega (arith, rest) in
    sum ∙ sym block ∙ ap₂ bit_xor first second

-- the XOR of two blocks is a block
pub xor_block_of : (xs ys : List ℕ) → IsBlock xs → IsBlock ys → IsBlock (xor_bytes xs ys)
xor_block_of xs ys hx hy =
    let same : length xs ≡ length ys = omega (arith, hx.length_is, hy.length_is) in
    record {
      length_is = length-xor_bytes xs ys same ∙ hx.length_is;
      bytes = λ i.
          let at : get_or (xor_bytes xs ys) i 0 ≡ bit_xor (get_or xs i 0) (get_or ys i 0) = xor_bytes_at xs ys i same in
          subst (λ (n : ℕ). n < 256) (sym at) (xor_lt 8 (get_or xs i 0) (get_or ys i 0) (hx.bytes i) (hy.bytes i));
    }

-- a block is the bytes of the number that it spells
pub bytes_of_le : (bs : List ℕ) → IsBlock bs → to_le_bytes w128 (le bs) ≡ bs
bytes_of_le bs is =
    let none : 16 - length bs ≡ 0 = omega (arith, is.length_is) in
    le_padded bs (omega (arith, is.length_is)) is.bytes ∙ ap (λ (n : ℕ). bs ++ replicate n 0) none ∙ append-nil bs

-- the bytes of a block, picked from the last to the first
pub picked_reversed : (bs : List ℕ) → IsBlock bs
    → pick_l 0 (bs ++ bs) (15 ∷ 14 ∷ 13 ∷ 12 ∷ 11 ∷ 10 ∷ 9 ∷ 8 ∷ 7 ∷ 6 ∷ 5 ∷ 4 ∷ 3 ∷ 2 ∷ 1 ∷ 0 ∷ []) ≡ reverse bs
picked_reversed bs is =
    let of : (x : List ℕ) → List ℕ = λ x. pick_l 0 (x ++ x) (15 ∷ 14 ∷ 13 ∷ 12 ∷ 11 ∷ 10 ∷ 9 ∷ 8 ∷ 7 ∷ 6 ∷ 5 ∷ 4 ∷ 3 ∷ 2 ∷ 1 ∷ 0 ∷ []) in
    let e : to_le_bytes w128 (le bs) ≡ bs = bytes_of_le bs is in
    let word : of (to_le_bytes w128 (le bs)) ≡ reverse (to_le_bytes w128 (le bs)) = refl in
    subst (λ (x : List ℕ). of x ≡ reverse x) e word
