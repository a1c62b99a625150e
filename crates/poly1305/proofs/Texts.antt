-- How the sum follows a text as it grows.
use Rattle.std.proofs.Common.{◌≡◌, ℕ, suc, ◌+◌, ◌-◌, ◌*◌, ◌/◌, ◌%◌, ◌^◌, ◌<◌, ◌≤◌, List, [], ◌∷◌, ◌++◌}
use Rattle.std.proofs.Common.{length, take, drop, get_or, set, bit_and, replicate, refl, sym, ap, ◌∙◌}
use Rattle.std.proofs.Common.{arith, mod-lt}
use Rattle.std.proofs.Math.Nat.{mod-add-mod, mod-mod}
use Rattle.std.proofs.lemmas.Nat.{mul-mod_first, and_mod, and_shr, and_le_r}
use Rattle.std.proofs.lemmas.List.{take_all, length-take-le, length-drop, take-append-drop, drop-replicate}
use Rattle.std.proofs.lemmas.List.{set_at, length-append, length-replicate}
use Rattle.std.specs.Simd.{first_chunks}
use borrow.Rule.Slice.PartMut.{put_mid}
use Rattle.std.specs.Int.{w128, from_le_bytes}
use Rattle.octets.specs.Bytes.{le, block_at, block_count}
use Rattle.octets.proofs.Sums.{sum_below_same, powers_more}
use Rattle.octets.proofs.Blocks.{block_at-append, next_block, chunk_at}
use Rattle.octets.proofs.Numbers.{le_ended, le_word, power_of_bytes}
use Rattle.poly1305.specs.Poly1305.{prime, block_number, block_sum, r_of}
use Rattle.poly1305.specs.Code.Residue.{pair, IsClamped}
use Rattle.poly1305.specs.Code.States.{PolySumHolds}
use Rattle.poly1305.specs.declared.poly.PolySum.{PolySum}

-- the sum over one more block
pub block_sum_more : (r : ℕ) (m : List ℕ) (k : ℕ)
    → block_sum r m (k + 1) ≡ (block_sum r m k + block_number (block_at m k)) * r
unfolding block_sum
block_sum_more r m k = powers_more (λ i. block_number (block_at m i)) r k

-- a longer text has the same sum over its first blocks
pub block_sum-append : (r : ℕ) (m x : List ℕ) (k : ℕ) → k * 16 ≤ length m
    → block_sum r (m ++ x) k ≡ block_sum r m k
unfolding block_sum
block_sum-append r m x k h =
    sum_below_same (λ i. block_number (block_at (m ++ x) i) * r ^ (k - i))
    (λ i. block_number (block_at m i) * r ^ (k - i)) k
    (λ i l. ap (λ (b : List ℕ). block_number b * r ^ (k - i)) (block_at-append m x i (omega arith)))

-- congruent sums stay congruent after a block is added and the sum is multiplied
pub taken : (p a t c r : ℕ) → a % p ≡ t % p → (a + c) * r % p ≡ (t + c) * r % p
taken p a t c r e =
    sym (mul-mod_first (a + c) r p) ∙ ap (λ (x : ℕ). x * r % p) (sym (mod-add-mod a p c)
    ∙ ap (λ (x : ℕ). (x + c) % p) e ∙ mod-add-mod t p c) ∙ mul-mod_first (t + c) r p

-- a step takes a number congruent to the sum over q blocks to one congruent to the sum over q + 1 blocks
pub block_taken : (r : ℕ) (m : List ℕ) (q s c v : ℕ) → s % prime ≡ block_sum r m q % prime
    → c ≡ block_number (block_at m q)
    → v % prime ≡ (s + c) * r % prime → v % prime ≡ block_sum r m (q + 1) % prime
block_taken r m q s c v before number step =
    step ∙ taken prime s (block_sum r m q) c r before
    ∙ ap (λ (x : ℕ). (block_sum r m q + x) * r % prime) number ∙ ap (λ (x : ℕ). x % prime)
    (sym (block_sum_more r m q))

-- a step of `absorb` at block q + i takes the sum over q + i blocks to that over q + i + 1, modulo 2^130 - 5
pub whole_block_taken : (r f : ℕ) (m : List ℕ) (q i s w v : ℕ) → s % prime ≡ block_sum r m (q + i) % prime
    → w + 1 * 2 ^ 128 ≡ block_number (block_at m (q + i)) → f ≡ r
    → v % prime ≡ (s + w + 1 * 2 ^ 128) * f % prime
    → v % prime ≡ block_sum r m (q + (i + 1)) % prime
whole_block_taken r f m q i s w v before number same step =
    let next : q + i + 1 ≡ q + (i + 1) = omega arith in
    let sums : s + w + 1 * 2 ^ 128 ≡ s + (w + 1 * 2 ^ 128) = omega arith in
    block_taken r m (q + i) s (w + 1 * 2 ^ 128) v before number
    (step ∙ ap (λ (x : ℕ). x * f % prime) sums ∙ ap (λ (x : ℕ). (s + (w + 1 * 2 ^ 128)) * x % prime) same)
    ∙ ap (λ (x : ℕ). block_sum r m x % prime) next

-- the number of a whole block is the word that it spells, and its added bit
pub whole_number : (b : List ℕ) → length b ≡ 16 → block_number b ≡ from_le_bytes w128 b + 1 * 2 ^ 128
whole_number b len = rw (len, le_word b len) refl

-- the number of a block is the word read from chunk i of whole blocks x, which follow whole blocks m, and its added bit
pub whole_block_read : (m x : List ℕ) (chunks : List (List ℕ)) (i w : ℕ) → length m % 16 ≡ 0
    → (i + 1) * 16 ≤ length x
    → chunks ≡ first_chunks 16 (length x / 16) x → w ≡ from_le_bytes w128 (get_or chunks i [])
    → w + 1 * 2 ^ 128 ≡ block_number (block_at (m ++ x) (length m / 16 + i))
whole_block_read m x chunks i w whole room ec ew =
    let b : List ℕ = take 16 (drop (i * 16) x) in
    let n : length b ≡ 16 = length-take-le 16 (drop (i * 16) x) (omega (arith, length-drop (i * 16) x)) in
    let read : get_or chunks i [] ≡ b = ap (λ (y : List (List ℕ)). get_or y i []) ec
    ∙ chunk_at 16 (length x / 16) i x (omega arith) in
    ap (λ (y : ℕ). y + 1 * 2 ^ 128) (ew ∙ ap (from_le_bytes w128) read) ∙ sym (whole_number b n)
    ∙ ap block_number (sym (next_block m x i whole))

-- a short block with its added bit, as `short_block_number` writes it
pub ended_block : (bytes ys : List ℕ) → length bytes < 16 → ys ≡ bytes
    → set (put_mid 0 (length bytes) (replicate 16 0) ys) (length bytes) 1
    ≡ bytes ++ 1 ∷ replicate (15 - length bytes) 0
ended_block bytes ys h e =
    let u : ℕ = length bytes in
    let s : 16 - u ≡ suc (15 - u) = omega arith in
    let tail : drop u (replicate {A = ℕ} 16 0) ≡ 0 ∷ replicate (15 - u) 0 = drop-replicate u 16 0
    ∙ rw s refl in
    rw (e, tail) (set_at bytes 0 (replicate (15 - u) 0) 1 u refl)

-- the word that these bytes spell is the number of the short block
pub ended_number : (front block : List ℕ) (u : ℕ) → u < 16 → length front ≡ u
    → block ≡ front ++ 1 ∷ replicate (15 - u) 0
    → from_le_bytes w128 block ≡ block_number front
ended_number front block u h n e =
    let z : length (replicate {A = ℕ} (15 - u) 0) ≡ 15 - u = length-replicate (15 - u) 0 in
    let whole : length block ≡ 16 = rw e (omega (arith, length-append front (1 ∷ replicate (15 - u) 0))) in
    sym (le_word block whole) ∙ ap le e ∙ le_ended front (15 - u) ∙ ap (λ (x : ℕ). le front + x)
    (power_of_bytes (length front))

-- the mask makes every number clamped
pub clamped : (x : ℕ) → IsClamped (bit_and x 0x0ffffffc0ffffffc0ffffffc0fffffff)
clamped x =
    let mask : ℕ = 0x0ffffffc0ffffffc0ffffffc0fffffff in
    let all : bit_and x mask ≤ mask = and_le_r x mask in
    let low : bit_and x mask % 2 ^ 64 ≡ bit_and (x % 2 ^ 64) (mask % 2 ^ 64) = and_mod x mask 64 in
    let low_at_most : bit_and (x % 2 ^ 64) (mask % 2 ^ 64) ≤ mask % 2 ^ 64 =
    and_le_r (x % 2 ^ 64) (mask % 2 ^ 64) in
    let high : bit_and x mask / 2 ^ 64 ≡ bit_and (x / 2 ^ 64) (mask / 2 ^ 64) = and_shr x mask 64 in
    let even : bit_and (x / 2 ^ 64) (mask / 2 ^ 64) % 2 ^ 2 ≡ bit_and (x / 2 ^ 64 % 2 ^ 2)
    (mask / 2 ^ 64 % 2 ^ 2) = and_mod (x / 2 ^ 64) (mask / 2 ^ 64) 2 in
    let none : bit_and (x / 2 ^ 64 % 2 ^ 2) (mask / 2 ^ 64 % 2 ^ 2) ≤ mask / 2 ^ 64 % 2 ^ 2 =
    and_le_r (x / 2 ^ 64 % 2 ^ 2) (mask / 2 ^ 64 % 2 ^ 2) in (
      omega arith,
      omega arith,
      omega arith,
    )

-- if the last block is whole, the state's sum at the end is the sum over all blocks, modulo 2^130 - 5
pub holds_whole : {M : Type 0} (factor : M → ℕ) (c : PolySum M) (k m : List ℕ)
    → PolySumHolds factor c k (take (length m / 16 * 16) m)
    → length (drop (length m / 16 * 16) m) ≡ 0
    → pair c.sum.low c.sum.high % prime ≡ block_sum (r_of k) m (block_count m) % prime
holds_whole factor c k m h e =
    let none : length m ≡ length m / 16 * 16 = omega (arith, e, length-drop (length m / 16 * 16) m) in
    let q : block_count m ≡ length m / 16 = omega (arith, none) in
    let all : take (length m / 16 * 16) m ≡ m = take_all (length m / 16 * 16) m (omega (arith, none)) in
    rw q (rw all at h.sum_is)

-- if the last block is short, one more step makes the state's sum the sum over all blocks, modulo 2^130 - 5
pub holds_partial : {M : Type 0} (factor : M → ℕ) (c : PolySum M) (k m : List ℕ) (start last v : ℕ)
    → PolySumHolds factor c k (take (length m / 16 * 16) m)
    → 0 < length (drop (length m / 16 * 16) m)
    → last ≡ block_number (drop (length m / 16 * 16) m)
    → start ≡ pair c.sum.low c.sum.high
    → v % prime ≡ (start + last + 0 * 2 ^ 128) * factor c.multiplier % prime
    → v % prime ≡ block_sum (r_of k) m (block_count m) % prime
holds_partial factor c k m start last v h some el es ev =
    let q : ℕ = length m / 16 in
    let s : ℕ = pair c.sum.low c.sum.high in
    let count : block_count m ≡ q + 1 = omega (arith, some, length-drop (q * 16) m) in
    let tail : block_at m q ≡ drop (q * 16) m =
    take_all 16 (drop (q * 16) m) (omega (arith, length-drop (q * 16) m)) in
    let number : last ≡ block_number (block_at m q) = el ∙ ap block_number (sym tail) in
    let split : take (q * 16) m ++ drop (q * 16) m ≡ m = take-append-drop (q * 16) m in
    let lt : length (take (q * 16) m) ≡ q * 16 = length-take-le (q * 16) m (omega arith) in
    let lq : length (take (q * 16) m) / 16 ≡ q = omega arith in
    let same : block_sum (r_of k) m q ≡ block_sum (r_of k) (take (q * 16) m) q =
    ap (λ (x : List ℕ). block_sum (r_of k) x q) (sym split) ∙ block_sum-append (r_of k) (take (q * 16) m)
    (drop (q * 16) m) q (omega arith) in
    let before : s % prime ≡ block_sum (r_of k) m q % prime =
    h.sum_is ∙ ap (λ (x : ℕ). block_sum (r_of k) (take (q * 16) m) x % prime) lq
    ∙ ap (λ (x : ℕ). x % prime) (sym same) in
    let sums : start + last + 0 * 2 ^ 128 ≡ s + last = omega arith in
    block_taken (r_of k) m q s last v before number
    (ev ∙ ap (λ (x : ℕ). x * factor c.multiplier % prime) sums
    ∙ ap (λ (x : ℕ). (s + last) * x % prime) h.factor_is)
    ∙ ap (λ (x : ℕ). block_sum (r_of k) m x % prime) (sym count)

-- a pair that is a residue keeps its residue if all but the lowest two bits of its high word are cleared
pub read_sum : (low high t : ℕ) → pair low high ≡ t % prime → pair low (high % 4) % prime ≡ t % prime
read_sum low high t e =
    let below : t % prime < prime = mod-lt t (omega arith) in
    let small : high < 4 = omega (arith, e, below) in
    let same : high % 4 ≡ high = omega arith in
    ap (λ (x : ℕ). pair low x % prime) same ∙ ap (λ (x : ℕ). x % prime) e ∙ mod-mod t prime
