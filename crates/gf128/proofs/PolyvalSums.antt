-- There is only one dot of two polynomials, and only one POLYVAL of a text.
use Rattle.std.proofs.Common.{◌≡◌, ℕ, zero, suc, ◌/◌, ◌≤◌, Bool, true, false, List, [], ◌∷◌, ◌++◌}
use Rattle.std.proofs.Common.{length, replicate, cond, ◌&&◌, inl, inr, refl, sym, ap, ap₂, ◌∙◌}
use Rattle.std.proofs.lemmas.Bool.{cases_Bool}
use mathlib.Core.Path.{fun_ext}
use Rattle.octets.specs.Bytes.{block_at, IsBlock}
use Rattle.octets.specs.Bits.{v, bytes_of_v}
use Rattle.octets.specs.Polynomial.{coefficient, plus, sum, product, degree, has_one, residue, Agree}
use Rattle.octets.proofs.Sequence.{sum_of, plus_false}
use Rattle.octets.proofs.Residue.{residue_lower, residue_step}
use Rattle.octets.proofs.Ring.{product_is, residue_of_lower}
use Rattle.octets.proofs.Horner.{sum_is, product_swap, product_assoc, product_second, product_one}
use Rattle.octets.proofs.Horner.{residue_same, times_same, times_residue}
use Rattle.octets.proofs.Readings.{v_injective}
use Rattle.octets.proofs.Spelled.{bytes_of_v_bytes, v_bytes_of}
use Rattle.octets.proofs.Reversal.{none_at, times_power, coefficient_below}
use Rattle.gf128.specs.Polyval.{polyval_modulus, x_to_128, x_to_minus_128, dot, polyval_sum, polyval, IsDot}
use Rattle.gf128.specs.Polyval.{IsPolyvalSum, DotIsTheOnly, PolyvalIsTheOnly}

-- a dot of a is a dot of every list with the same coefficients
pub dot_same : (a b c d : List Bool) → Agree a d → IsDot a b c → IsDot d b c
dot_same a b c d e is =
    let same : coefficient (residue polyval_modulus (product a b))
    ≡ coefficient (residue polyval_modulus (product d b)) =
    times_same polyval_modulus a d b refl (fun_ext e) in
    record { low = is.low; same = λ k. is.same k ∙ ap (λ f. f k) same }

-- ---- x^128 has an inverse

-- the sum of two polynomials, bit by bit
added : List Bool → List Bool → List Bool
added [] q = q
added (a ∷ p) [] = a ∷ p
added (a ∷ p) (b ∷ q) = plus a b ∷ added p q

added_at : (p q : List Bool) (k : ℕ)
    → coefficient (added p q) k ≡ plus (coefficient p k) (coefficient q k)
unfolding added
added_at [] q k = refl
added_at (a ∷ p) [] k = sym (plus_false (coefficient (a ∷ p) k))
added_at (a ∷ p) (b ∷ q) zero = refl
added_at (a ∷ p) (b ∷ q) (suc k) = added_at p q k

-- s, with m added if the coefficient n of s is one
with_m : ℕ → List Bool → List Bool → List Bool
with_m n m s = cond (coefficient s n) (added s m) s

-- long division by m, of degree n, bit by bit; `residue`, which looks up each coefficient, takes far longer to compute
divided : ℕ → List Bool → List Bool → List Bool
divided n m [] = []
divided n m (b ∷ a) = with_m n m (b ∷ divided n m a)

with_m_at : (n : ℕ) (m s : List Bool) (k : ℕ)
    → coefficient (with_m n m s) k ≡ plus (coefficient s k) (coefficient s n && coefficient m k)
unfolding with_m
with_m_at n m s k = elim (cases_Bool (coefficient s n)) [
  | inl e ↦ rw e (added_at s m k)
  | inr e ↦ rw e (sym (plus_false (coefficient s k)))
]

-- if two polynomials agree, they agree with a bit before each
after_bit : (b : Bool) (p q : List Bool) → Agree p q → Agree (b ∷ p) (b ∷ q)
after_bit b p q e zero = refl
after_bit b p q e (suc k) = e k

-- long division bit by bit gives the residue
divided_is : (m a : List Bool) → has_one m ≡ true → Agree (residue m a) (divided (degree m) m a)
unfolding residue divided
divided_is m [] one k = refl
divided_is m (b ∷ a) one k =
    let r : List Bool = residue m a in
    let d : List Bool = divided (degree m) m a in
    let same : Agree (b ∷ r) (b ∷ d) = after_bit b r d (divided_is m a one) in
    residue_step m b a k one
    ∙ ap₂ (λ (x y : Bool). plus x (y && coefficient m k)) (same k) (same (degree m))
    ∙ sym (with_m_at (degree m) m (b ∷ d) k)

-- POLYVAL's modulus has degree 128
degree_is : degree polyval_modulus ≡ 128
degree_is = refl

-- long division of x^128 * x^-128 leaves a list of 1 and zeros
computed : divided 128 polyval_modulus (replicate 128 false ++ x_to_minus_128) ≡ true ∷ replicate 255 false
unfolding divided with_m added
computed = refl

-- the list of 1 and zeros is the polynomial 1
one_is : (k : ℕ) → coefficient (true ∷ replicate 255 false) k ≡ coefficient (true ∷ []) k
one_is zero = refl
one_is (suc k) = none_at 255 k

-- x^128 * x^-128 has the residue 1
inverse_is : coefficient (residue polyval_modulus (product x_to_128 x_to_minus_128))
    ≡ coefficient (true ∷ [])
inverse_is =
    let shifted : coefficient (product x_to_128 x_to_minus_128) ≡ coefficient (replicate 128 false
    ++ x_to_minus_128) =
    product_is x_to_128 x_to_minus_128
    ∙ fun_ext (λ k. times_power 128 (coefficient x_to_minus_128) k
    ∙ sym (coefficient_below 128 x_to_minus_128 k)) in
    residue_same polyval_modulus (product x_to_128 x_to_minus_128) (replicate 128 false ++ x_to_minus_128)
    refl shifted
    ∙ fun_ext (divided_is polyval_modulus (replicate 128 false ++ x_to_minus_128) refl)
    ∙ ap (λ n. coefficient (divided n polyval_modulus (replicate 128 false ++ x_to_minus_128))) degree_is
    ∙ ap coefficient computed ∙ fun_ext one_is

-- if c is multiplied by x^128 and then by its inverse, the residue is that of c
pub undone : (c : List Bool)
    → coefficient (residue polyval_modulus (product (residue polyval_modulus (product c x_to_128))
    x_to_minus_128)) ≡ coefficient (residue polyval_modulus c)
undone c =
    let m : List Bool = polyval_modulus in
    let both : List Bool = product x_to_128 x_to_minus_128 in
    times_residue m (product c x_to_128) x_to_minus_128 refl
    ∙ residue_same m (product (product c x_to_128) x_to_minus_128) (product both c) refl
    (product_assoc c x_to_128 x_to_minus_128 ∙ product_swap c both)
    ∙ sym (times_residue m both c refl)
    ∙ times_same m (residue m both) (true ∷ []) c refl inverse_is
    ∙ residue_same m (product (true ∷ []) c) c refl (product_one c)

-- a polynomial of degree below 128 is its own residue
lower_is : (c : List Bool) → ((k : ℕ) → 128 ≤ k → coefficient c k ≡ false)
    → coefficient (residue polyval_modulus c) ≡ coefficient c
lower_is c low = fun_ext (residue_of_lower polyval_modulus c refl low)

-- two dots of the same polynomials agree
dots_agree : (a b c d : List Bool) → IsDot a b c → IsDot a b d → Agree c d
dots_agree a b c d hc hd k =
    let m : List Bool = polyval_modulus in
    let same : coefficient (residue m (product c x_to_128)) ≡ coefficient (residue m (product d x_to_128)) =
    fun_ext (λ i. hc.same i ∙ sym (hd.same i)) in
    ap (λ f. f k) (sym (lower_is c hc.low) ∙ sym (undone c)
    ∙ times_same m (residue m (product c x_to_128)) (residue m (product d x_to_128)) x_to_minus_128 refl
    same
    ∙ undone d ∙ lower_is d hd.low)

-- the residue of a * b * x^-128 is a dot of a and b
dot_is : (a b : List Bool) → IsDot a b (dot a b)
unfolding dot
dot_is a b =
    let m : List Bool = polyval_modulus in
    let p : List Bool = product a b in
    let both : List Bool = product x_to_128 x_to_minus_128 in
    let whole : coefficient (residue m (product (residue m (product p x_to_minus_128)) x_to_128))
    ≡ coefficient (residue m p) =
    times_residue m (product p x_to_minus_128) x_to_128 refl
    ∙ residue_same m (product (product p x_to_minus_128) x_to_128) (product both p) refl
    (product_assoc p x_to_minus_128 x_to_128 ∙ product_second p (product x_to_minus_128 x_to_128) both
    (product_swap x_to_minus_128 x_to_128) ∙ product_swap p both)
    ∙ sym (times_residue m both p refl)
    ∙ times_same m (residue m both) (true ∷ []) p refl inverse_is
    ∙ residue_same m (product (true ∷ []) p) p refl (product_one p) in
    record { low = λ k h. residue_lower m (product p x_to_minus_128) k h; same = λ k. ap (λ f. f k) whole }

-- the law `DotIsTheOnly`
pub dot_is_the_only : DotIsTheOnly
dot_is_the_only a b = (dot_is a b, λ c is. dots_agree a b c (dot a b) is (dot_is a b))

-- ---- a text has only one POLYVAL
sum_first : (s t x : List Bool) → Agree s t → Agree (sum s x) (sum t x)
sum_first s t x e k = ap (λ f. f k) (sum_is s x ∙ ap (λ f. sum_of f (coefficient x)) (fun_ext e)
    ∙ sym (sum_is t x))

-- two sums S_n of the same blocks agree
sums_agree : (h m : List ℕ) (n : ℕ) (s t : List Bool) → IsPolyvalSum h m n s → IsPolyvalSum h m n t
    → Agree s t
unfolding IsPolyvalSum
sums_agree h m zero s t hs ht = λ k. hs k ∙ sym (ht k)
sums_agree h m (suc n) s t hs ht =
    let x : List Bool = v (block_at m n) in
    let before : Agree hs.0 ht.0 = sums_agree h m n hs.0 ht.0 hs.1 ht.1 in
    dots_agree (sum ht.0 x) (v h) s t (dot_same (sum hs.0 x) (v h) s (sum ht.0 x)
    (sum_first hs.0 ht.0 x before) hs.2) ht.2

-- `polyval_sum` is a sum S_n
sum_is_one : (h m : List ℕ) (n : ℕ) → IsPolyvalSum h m n (polyval_sum h m n)
unfolding IsPolyvalSum polyval_sum
sum_is_one h m zero = λ k. refl
sum_is_one h m (suc n) =
    (polyval_sum h m n, sum_is_one h m n, dot_is (sum (polyval_sum h m n) (v (block_at m n))) (v h))

-- `polyval_sum` is of degree below 128
sum_low : (h m : List ℕ) (n k : ℕ) → 128 ≤ k → coefficient (polyval_sum h m n) k ≡ false
unfolding polyval_sum
sum_low h m zero k l = refl
sum_low h m (suc n) k l = (dot_is (sum (polyval_sum h m n) (v (block_at m n))) (v h)).low k l

-- a list with the coefficients of a sum S_n is that sum
sum_same : (h m : List ℕ) (n : ℕ) (s t : List Bool) → Agree t s → IsPolyvalSum h m n s
    → IsPolyvalSum h m n t
unfolding IsPolyvalSum
sum_same h m zero s t e is = λ k. e k ∙ is k
sum_same h m (suc n) s t e is =
    let product : coefficient (residue polyval_modulus (product t x_to_128))
    ≡ coefficient (residue polyval_modulus (product s x_to_128)) =
    times_same polyval_modulus t s x_to_128 refl (fun_ext e) in (
      is.0,
      is.1,
      record {
        low = λ k l. e k ∙ is.2.low k l;
        same = λ k. ap (λ f. f k) product
            ∙ is.2.same k;
      },
    )

-- the law `PolyvalIsTheOnly`
pub polyval_is_the_only : PolyvalIsTheOnly
unfolding polyval
polyval_is_the_only h m =
    let n : ℕ = length m / 16 in
    let s : List Bool = polyval_sum h m n in
    let block : IsBlock (bytes_of_v 16 s) = bytes_of_v_bytes 16 s in
    let whole : IsPolyvalSum h m n (v (bytes_of_v 16 s)) = sum_same h m n s (v (bytes_of_v 16 s))
    (v_bytes_of 16 s (sum_low h m n)) (sum_is_one h m n) in (
      record { is_block = block; sum_is = whole },
      λ y is. v_injective 16 y (bytes_of_v 16 s) is.is_block block
          (sums_agree h m n (v y) (v (bytes_of_v 16 s)) is.sum_is whole),
    )
