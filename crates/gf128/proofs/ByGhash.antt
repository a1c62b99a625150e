-- POLYVAL computed by GHASH (RFC 8452, appendix A), in terms of the definitions alone.
use Rattle.std.proofs.Common.{◌≡◌, ℕ, zero, suc, ◌-◌, ◌*◌, ◌/◌, ◌≤◌, Bool, false, List, map, max, length}
use Rattle.std.proofs.Common.{reverse, drop, refl, sym, ap, ap₂, ◌∙◌, arith, inl, inr, ◌∷◌}
use mathlib.Core.Path.{fun_ext}
use Rattle.std.specs.List.{range_with_len}
use Rattle.std.proofs.lemmas.List.{get_or_past, get_or-reverse, length-reverse, length-take-le, length-drop}
use Rattle.std.proofs.lemmas.List.{reverse-reverse}
use Rattle.std.proofs.lemmas.List.FromFn.{length-map-range_with_len}
use Rattle.std.proofs.lemmas.Bool.{cases_lt}
use Rattle.octets.specs.Bytes.{block_at, IsBlock}
use Rattle.octets.specs.Bits.{g, v, bytes_of_g}
use Rattle.octets.specs.Polynomial.{coefficient, plus, sum, product, power, sum_of_first, residue, Agree}
use Rattle.octets.proofs.Sequence.{sum_of}
use Rattle.octets.proofs.Residue.{residue_lower}
use Rattle.octets.proofs.Ring.{made_at, coefficient_sum, the_residue}
use Rattle.octets.proofs.Horner.{sum_is, times_same}
use Rattle.octets.proofs.Readings.{v_is}
use Rattle.octets.proofs.Spelled.{g_bytes_of}
use Rattle.gf128.specs.Ghash.{ghash_modulus, ghash_sum, ghash, IsGhash}
use Rattle.gf128.specs.Orders.{Reversed, block_sum}
use Rattle.gf128.specs.Polyval.{mul_x, polyval, IsDot, IsMulX, IsPolyvalSum, AreReversed, PolyvalByGhash}
use Rattle.gf128.proofs.WordLemmas.{reverse_block}
use Rattle.gf128.proofs.Sums.{sum_of_first_same, block_sum_step, block_sum_low, ghash_is_the_only}
use Rattle.gf128.proofs.Dot.{dot_turned, mul_x_residue, bits_of_block}
use Rattle.gf128.proofs.PolyvalSums.{dot_same, polyval_is_the_only}

-- a polynomial as a list of its first 128 coefficients
bits_of : List Bool → List Bool
bits_of p = map (coefficient p) (range_with_len 0 128)

-- `bits_of p` has 128 bits
length-bits_of : (p : List Bool) → length (bits_of p) ≡ 128
unfolding bits_of
length-bits_of p = length-map-range_with_len (coefficient p) 0 128

-- `bits_of p` is the polynomial p, if p has degree below 128
bits_of_same : (p : List Bool) → ((k : ℕ) → 128 ≤ k → coefficient p k ≡ false) → Agree (bits_of p) p
unfolding bits_of
bits_of_same p low k = made_at (coefficient p) 128 k (low k)

-- the sum of two polynomials is as long as the longer list
length-sum : (p q : List Bool) → length (sum p q) ≡ max (length p) (length q)
unfolding sum
length-sum p q = length-map-range_with_len (λ i. plus (coefficient p i) (coefficient q i)) 0
    (max (length p) (length q))

-- the sum of two lists of 128 bits, read from the end, is the sum of both read from the end
reverse-sum : (t x : List Bool) → length t ≡ 128 → length x ≡ 128
    → Agree (reverse (sum t x)) (sum (reverse t) (reverse x))
reverse-sum t x lt lx k =
    let w : List Bool = sum t x in
    let lw : length w ≡ 128 = length-sum t x ∙ omega arith in
    elim (cases_lt k 128) [
      | inl l ↦
          let at : (s : List Bool) → length s ≡ 128 → coefficient (reverse s) k ≡ coefficient s (127 - k) =
          λ s ls.
          let e : length s - 1 - k ≡ 127 - k = omega arith in
          get_or-reverse s k false (omega arith) ∙ ap (coefficient s) e in
          at w lw ∙ coefficient_sum t x (127 - k) ∙ ap₂ plus (sym (at t lt)) (sym (at x lx))
          ∙ sym (coefficient_sum (reverse t) (reverse x) k)
      | inr l ↦
          let none : (s : List Bool) → length s ≡ 128 → coefficient (reverse s) k ≡ false =
          λ s ls. get_or_past (reverse s) k false (omega (arith, length-reverse s)) in
          none w lw ∙ sym (coefficient_sum (reverse t) (reverse x) k ∙ ap₂ plus (none t lt) (none x lx))
    ]

-- POLYVAL's sum over n blocks is the sum over the reversed blocks in GHASH's field, read from the end
sum_turned : (h k m : List ℕ) → length h ≡ 16 → IsMulX (reverse h) k → (n : ℕ) → n ≤ length m / 16
    → (s : List Bool) → length s ≡ 128 → Agree s (block_sum Reversed k m n) → IsPolyvalSum h m n (reverse s)
unfolding IsPolyvalSum block_sum sum_of_first
sum_turned h k m lh hk zero small s ls hs = λ j. elim (cases_lt j 128) [
  | inl l ↦ get_or-reverse s j false (omega arith) ∙ hs (length s - 1 - j)
  | inr l ↦ get_or_past (reverse s) j false (omega (arith, length-reverse s))
]
sum_turned h k m lh hk (suc n) small s ls hs =
    let before : List Bool = block_sum Reversed k m n in
    let t : List Bool = bits_of before in
    let lt : length t ≡ 128 = length-bits_of before in
    let ht : Agree t before = bits_of_same before (block_sum_low Reversed k m n) in
    let ih : IsPolyvalSum h m n (reverse t) = sum_turned h k m lh hk n (omega arith) t lt ht in
    let block : List ℕ = block_at m n in
    let x : List Bool = g (reverse block) in
    let lb : length block ≡ 16 = length-take-le 16 (drop (n * 16) m)
    (omega (arith, length-drop (n * 16) m)) in
    let lx : length x ≡ 128 = bits_of_block (reverse block) (length-reverse block ∙ lb) in
    let w : List Bool = sum t x in
    let lw : length w ≡ 128 = length-sum t x ∙ omega arith in
    let same : coefficient (sum before x) ≡ coefficient w = sum_is before x
    ∙ ap (λ f. sum_of f (coefficient x)) (sym (fun_ext ht)) ∙ sym (sum_is t x) in
    let product : coefficient s ≡ coefficient (residue ghash_modulus (product w (g k))) =
    fun_ext hs ∙ block_sum_step Reversed k m n ∙ times_same ghash_modulus (sum before x) w (g k) refl same in
    let dot : IsDot (reverse w) (reverse (g (reverse h))) (reverse s) =
    dot_turned w (g (reverse h)) (g k) s lw (bits_of_block (reverse h) (length-reverse h ∙ lh)) ls
    (mul_x_residue (reverse h) k hk) product in (
      reverse t,
      ih,
      rw (v_is h, v_is block) (dot_same (reverse w) (reverse (g (reverse h))) (reverse s)
          (sum (reverse t) (reverse x)) (reverse-sum t x lt lx) dot),
    )

-- POLYVAL is the block whose polynomial is the sum over the reversed blocks, read from the end
pub polyval_by_sum : (h k m : List ℕ) (s : List Bool) (y : List ℕ) → IsBlock h → IsMulX (reverse h) k
    → length s ≡ 128
    → Agree s (block_sum Reversed k m (length m / 16)) → IsBlock y → v y ≡ reverse s → y ≡ polyval h m
polyval_by_sum h k m s y hh hk ls hs block vy =
    let is : IsPolyvalSum h m (length m / 16) (v y) =
    rw vy (sum_turned h k m hh.length_is hk (length m / 16) (omega arith) s ls hs) in
    (polyval_is_the_only h m).1 y (record { is_block = block; sum_is = is })

-- the sum over the blocks of m, each reversed, is GHASH's sum over r, which has the reversed blocks
reversed_sum : (k m r : List ℕ) → AreReversed m r
    → block_sum Reversed k m (length m / 16) ≡ ghash_sum k r (length r / 16)
unfolding block_sum ghash_sum
reversed_sum k m r turn =
    let n : ℕ = length m / 16 in
    let q : length r / 16 ≡ n = ap (λ (x : ℕ). x / 16) turn.0 in
    rw q (sum_of_first_same
    (λ i. residue ghash_modulus (product (g (reverse (block_at m i))) (power (g k) (n - i))))
    (λ i. residue ghash_modulus (product (g (block_at r i)) (power (g k) (n - i)))) n
    (λ i l. ap (λ (b : List ℕ). residue ghash_modulus (product (g b) (power (g k) (n - i))))
    (sym (turn.1 i l))))

-- `mul_x h` is h times x
mul_x_is : (h : List ℕ) → IsMulX h (mul_x h)
unfolding mul_x IsMulX
mul_x_is h =
    let r : List Bool = residue ghash_modulus (false ∷ g h) in
    the_residue ghash_modulus (false ∷ g h) (g (bytes_of_g 16 r)) refl
    (g_bytes_of 16 r (λ k l. residue_lower ghash_modulus (false ∷ g h) k l))

-- the law `PolyvalByGhash`
pub polyval_by_ghash : PolyvalByGhash
polyval_by_ghash h m r hh whole turn =
    let k : List ℕ = mul_x (reverse h) in
    let y : List ℕ = ghash k r in
    let is : IsGhash k r y = (ghash_is_the_only k r).0 in
    let vy : v (reverse y) ≡ reverse (g y) = v_is (reverse y) ∙ ap (λ (x : List ℕ). reverse (g x))
    (reverse-reverse y) in
    sym (polyval_by_sum h k m (g y) (reverse y) hh (mul_x_is (reverse h))
    (bits_of_block y is.is_block.length_is) (rw (reversed_sum k m r turn) is.sum_is)
    (reverse_block y is.is_block) vy)
