-- POLYVAL's product in terms of GHASH's.
use Rattle.std.proofs.Common.{◌≡◌, ℕ, ◌+◌, ◌-◌, ◌≤◌, Bool, false, List, [], ◌∷◌, ◌++◌, map, length, reverse}
use Rattle.std.proofs.Common.{refl, sym, ap, ap₂, ◌∙◌, arith, inl, inr}
use mathlib.Core.Path.{fun_ext}
use Rattle.std.specs.List.{range_with_len}
use Rattle.std.proofs.lemmas.List.{get_or_past, length-reverse, reverse-append}
use Rattle.std.proofs.lemmas.List.FromFn.{length-map-range_with_len}
use Rattle.std.proofs.lemmas.Bool.{cases_lt}
use Rattle.octets.specs.Bits.{g}
use Rattle.octets.specs.Polynomial.{coefficient, plus, product, residue}
use Rattle.octets.proofs.Sequence.{mult, mult_comm, plus_false, product_at-mult}
use Rattle.octets.proofs.Residue.{residue_is}
use Rattle.octets.proofs.Ring.{made_at, product_is, residue_product, coefficient_product}
use Rattle.octets.proofs.Horner.{product_swap, product_second, residue_same}
use Rattle.octets.proofs.Readings.{length-g}
use Rattle.octets.proofs.Reversal.{raised, raised_high, raised_reverse, times_tight, times_reversed}
use Rattle.octets.proofs.Reversal.{times_power, coefficient_end, vanishes_from, residue_by}
use Rattle.gf128.specs.Ghash.{ghash_modulus}
use Rattle.gf128.specs.Polyval.{polyval_modulus, x_to_128, IsDot, IsMulX}

-- if a = b + c, and a and c are 0, then b is 0
swapped : (a b c : Bool) → a ≡ plus b c → c ≡ false → a ≡ false → b ≡ false
swapped a b c e none nil = sym (plus_false b) ∙ ap (plus b) (sym none) ∙ sym e ∙ nil

-- if a * (x * b) and c differ by a multiple of GHASH's modulus, then, read from the top, a * b and c * x^128 differ by a multiple
-- of POLYVAL's
pub turned : (a b c q : List Bool) → length a ≡ 128 → length b ≡ 128 → length c ≡ 128
    → ((k : ℕ) → mult a (coefficient (false ∷ b)) k ≡ plus (mult q (coefficient ghash_modulus) k)
    (coefficient c k))
    → (t : List Bool) × ((k : ℕ) → mult (reverse a) (coefficient (reverse b)) k
    ≡ plus (mult t (coefficient polyval_modulus) k) (raised 128 (coefficient (reverse c)) k))
turned a b c q la lb lc by =
    let m : List Bool = ghash_modulus in
    let high : (k : ℕ) → 128 + 128 ≤ k → mult m (coefficient q) k ≡ false = λ k l.
    ap (λ f. f k) (mult_comm m q)
    ∙ swapped (mult a (coefficient (false ∷ b)) k) (mult q (coefficient m) k) (coefficient c k) (by k)
    (get_or_past c k false (omega arith)) (times_tight a (false ∷ b) k (omega arith)) in
    let none : (j : ℕ) → 128 ≤ j → coefficient q j ≡ false =
    vanishes_from (length q) 128 m (coefficient q) refl high (λ j h. get_or_past q j false (omega arith)) in
    let cut : List Bool = map (coefficient q) (range_with_len 0 128) in
    let lq : length cut ≡ 128 = length-map-range_with_len (coefficient q) 0 128 in
    let same : coefficient cut ≡ coefficient q = fun_ext (λ k. made_at (coefficient q) 128 k (none k)) in
    let back : reverse (false ∷ b) ≡ reverse b ++ false ∷ [] = reverse-append (false ∷ []) b in
    let front : coefficient (reverse (false ∷ b)) ≡ coefficient (reverse b) =
    fun_ext (λ i. ap (λ (l : List Bool). coefficient l i) back ∙ coefficient_end (reverse b) i) in
    let cut_times : (j : ℕ) → mult cut (coefficient m) j ≡ mult q (coefficient m) j = λ j.
    ap (λ f. f j) (mult_comm cut m ∙ ap (mult m) same ∙ mult_comm m q) in (
      reverse cut,
      λ k. elim (cases_lt k 256) [
        | inl l ↦
            let j : ℕ = 255 - k in
            let at : 128 + length c - 1 - k ≡ j = omega arith in
            ap (λ f. mult (reverse a) f k) (sym front)
            ∙ times_reversed a (false ∷ b) k j (omega arith) ∙ by j
            ∙ ap₂ plus (sym (cut_times j) ∙ sym (times_reversed cut m k j (omega arith)))
            (sym (raised_reverse c 128 k (omega arith) ∙ ap (coefficient c) at))
        | inr l ↦
            times_tight (reverse a) (reverse b) k (omega (arith, length-reverse a, length-reverse b))
            ∙ sym (ap₂ plus (times_tight (reverse cut) polyval_modulus k
            (omega (arith, length-reverse cut)))
            (raised_high 128 (coefficient (reverse c)) k (omega arith) ∙ get_or_past (reverse c) (k - 128)
            false (omega (arith, length-reverse c))))
      ],
    )

-- c is the residue of a * k, where k is that of x * b, modulo GHASH's modulus
pub dot_turned : (a b k c : List Bool) → length a ≡ 128 → length b ≡ 128 → length c ≡ 128
    → coefficient k ≡ coefficient (residue ghash_modulus (false ∷ b))
    → coefficient c ≡ coefficient (residue ghash_modulus (product a k))
    → IsDot (reverse a) (reverse b) (reverse c)
dot_turned a b k c la lb lc hk hc =
    let m : List Bool = ghash_modulus in
    let whole : List Bool = product a (false ∷ b) in
    let rest : coefficient (residue m whole) ≡ coefficient c =
    sym (hc ∙ residue_same m (product a k) (product a (residue m (false ∷ b))) refl
    (product_second a k (residue m (false ∷ b)) hk)
    ∙ fun_ext (residue_product m a (false ∷ b) refl)) in
    let is = residue_is m whole refl in
    let q : List Bool = is.1.0 in
    let by : (i : ℕ) → mult a (coefficient (false ∷ b)) i ≡ plus (mult q (coefficient m) i)
    (coefficient c i) = λ i.
    sym (coefficient_product a (false ∷ b) i) ∙ is.1.1 i ∙ ap₂ plus (product_at-mult q m i)
    (ap (λ f. f i) rest) in
    let turn = turned a b c q la lb lc by in
    let ra : List Bool = reverse a in
    let rb : List Bool = reverse b in
    let rc : List Bool = reverse c in
    let high : (i : ℕ) → coefficient (product rc x_to_128) i ≡ raised 128 (coefficient rc) i = λ i.
    ap (λ f. f i) (product_swap rc x_to_128 ∙ product_is x_to_128 rc) ∙ times_power 128 (coefficient rc)
    i in
    let same : coefficient (residue polyval_modulus (product ra rb))
    ≡ coefficient (residue polyval_modulus (product rc x_to_128)) =
    residue_by polyval_modulus (product ra rb) (product rc x_to_128) turn.0 refl (λ i.
    coefficient_product ra rb i ∙ turn.1 i ∙ ap (plus (mult turn.0 (coefficient polyval_modulus) i))
    (sym (high i))) in
    record {
      low = λ i l. get_or_past rc i false (omega (arith, length-reverse c));
      same = λ i. ap (λ f. f i) (sym same);
    }

-- the coefficients of k are those of the residue of x times h, if k is mulX of h
pub mul_x_residue : (h k : List ℕ) → IsMulX h k
    → coefficient (g k) ≡ coefficient (residue ghash_modulus (false ∷ g h))
unfolding IsMulX
mul_x_residue h k is =
    let p : List Bool = false ∷ g h in
    sym (fun_ext (is.1 (residue ghash_modulus p) (residue_is ghash_modulus p refl)))

-- a block has 128 coefficients
pub bits_of_block : (b : List ℕ) → length b ≡ 16 → length (g b) ≡ 128
bits_of_block b l = length-g b ∙ omega arith
