-- Residues of products, computed by Horner's rule on lists of bits.
use Rattle.std.proofs.Common.{◌≡◌, ℕ, zero, suc, ◌<◌, ◌≤◌, Bool, true, false, cond, ◌&&◌, List, [], ◌∷◌}
use Rattle.std.proofs.Common.{length, length-take, take, inl, inr, refl, sym, ap, ap₂, ◌∙◌, arith}
use Rattle.std.proofs.lemmas.Bool.{cases_lt}
use Rattle.std.proofs.lemmas.List.{get_or_past}
use mathlib.Core.Path.{fun_ext}
use Rattle.octets.specs.Polynomial.{coefficient, plus, sum, product, residue, degree, has_one}
use Rattle.octets.proofs.Sequence.{sum_of, plus_false}
use Rattle.octets.proofs.Ring.{product_is, residue_more}
use Rattle.octets.proofs.Residue.{residue_lower}
use Rattle.octets.proofs.Horner.{sum_is, product_first, residue_same, times_same, times_residue}
use Rattle.gf128.specs.Polyval.{polyval_modulus, x_to_minus_128, dot}

-- the sum of two polynomials, bit by bit
abbrev added : List Bool → List Bool → List Bool
added [] q = q
added (a ∷ p) [] = a ∷ p
added (a ∷ p) (b ∷ q) = plus a b ∷ added p q

-- the coefficients of `added p q` are the sums of the coefficients of p and q
added_at : (p q : List Bool) (k : ℕ) → coefficient (added p q) k ≡ plus (coefficient p k) (coefficient q k)
added_at [] q k = refl
added_at (a ∷ p) [] k = sym (plus_false (coefficient (a ∷ p) k))
added_at (a ∷ p) (b ∷ q) zero = refl
added_at (a ∷ p) (b ∷ q) (suc k) = added_at p q k

-- a coefficient of a list that is chosen by a bit, or left out, is that of the list times the bit
chosen_at : (b : Bool) (h : List Bool) (k : ℕ) → coefficient (cond b h []) k ≡ (b && coefficient h k)
chosen_at true h k = refl
chosen_at false h k = refl

-- lists with equal coefficients have equal coefficients when they are moved up by one place
moved_at : (p q : List Bool) (k : ℕ) → ((i : ℕ) → coefficient p i ≡ coefficient q i)
    → coefficient (false ∷ p) k ≡ coefficient (false ∷ q) k
moved_at p q zero same = refl
moved_at p q (suc k) same = same k

-- the list r, with m of degree n added if coefficient n of r is one
abbrev reduced_by : List Bool → ℕ → List Bool → List Bool
reduced_by m n r = added r (cond (coefficient r n) m [])

-- p times h, reduced by m of degree n at each step, from the highest coefficient of p on
abbrev times_by : List Bool → ℕ → List Bool → List Bool → List Bool
times_by m n [] h = []
times_by m n (b ∷ p) h = added (cond b h []) (reduced_by m n (false ∷ times_by m n p h))

-- `times_by` has the coefficients of the residue of the product
times_at : (m : List Bool) (n : ℕ) (p h : List Bool) (k : ℕ) → has_one m ≡ true → degree m ≡ n
    → ((i : ℕ) → degree m ≤ i → coefficient h i ≡ false)
    → coefficient (residue m (product p h)) k ≡ coefficient (times_by m n p h) k
unfolding residue
times_at m n [] h k one d low =
    ap (λ f. f k) (residue_same m (product [] h) [] one (product_is [] h ∙ fun_ext (λ i. refl)))
times_at m n (b ∷ p) h k one d low =
    let r : List Bool = false ∷ residue m (product p h) in
    let t : List Bool = false ∷ times_by m n p h in
    let same : (i : ℕ) → coefficient r i ≡ coefficient t i =
    λ i. moved_at (residue m (product p h)) (times_by m n p h) i (λ j. times_at m n p h j one d low) in
    residue_more m b p h k one low
    ∙ ap₂ plus (sym (chosen_at b h k))
    (ap₂ plus (same k)
    (ap (λ x. x && coefficient m k) (same (degree m) ∙ ap (coefficient t) d)
    ∙ sym (chosen_at (coefficient t n) m k))
    ∙ sym (added_at t (cond (coefficient t n) m []) k))
    ∙ sym (added_at (cond b h []) (reduced_by m n t) k)

-- the first n items of a list have its coefficients below n
taken_at : (n : ℕ) (xs : List Bool) (k : ℕ) → k < n → coefficient (take n xs) k ≡ coefficient xs k
taken_at zero xs k l = absurd (omega arith)
taken_at (suc n) [] k l = refl
taken_at (suc n) (x ∷ xs) zero l = refl
taken_at (suc n) (x ∷ xs) (suc k) l = taken_at n xs k (omega arith)

-- the first n items of a list are at most n
length-take-most : (n : ℕ) (xs : List Bool) → length (take n xs) ≤ n
length-take-most n xs = omega (arith, length-take n xs)

-- the first n items of `times_by` are the residue of the product
pub computed : (m : List Bool) (n : ℕ) (p h t : List Bool) → has_one m ≡ true → degree m ≡ n
    → length h ≤ n → length t ≤ n → take n (times_by m n p h) ≡ t
    → coefficient (residue m (product p h)) ≡ coefficient t
computed m n p h t one d short long is = fun_ext (λ k.
    elim (cases_lt k n) [
      | inl l ↦
          times_at m n p h k one d (λ i g. get_or_past h i false (omega (arith, short, g, d)))
          ∙ sym (taken_at n (times_by m n p h) k l) ∙ ap (λ x. coefficient x k) is
      | inr l ↦
          residue_lower m (product p h) k (omega (arith, l, d))
          ∙ sym (get_or_past t k false (omega (arith, long, l)))
    ])

-- `times_by` of a and h, and then of the result and x^-128, is the dot
pub dot_computed : (a h t : List Bool) → length h ≤ 128 → length t ≤ 128
    → take 128 (times_by polyval_modulus 128 (take 128 (times_by polyval_modulus 128 a h)) x_to_minus_128) ≡ t
    → coefficient (dot a h) ≡ coefficient t
unfolding dot
dot_computed a h t short long is =
    let m : List Bool = polyval_modulus in
    let r : List Bool = take 128 (times_by m 128 a h) in
    let first : coefficient (residue m (product a h)) ≡ coefficient r =
    computed m 128 a h r refl refl short (length-take-most 128 (times_by m 128 a h)) refl in
    sym (times_residue m (product a h) x_to_minus_128 refl)
    ∙ times_same m (residue m (product a h)) r x_to_minus_128 refl first
    ∙ computed m 128 r x_to_minus_128 t refl refl (omega arith) long is

-- if two sums so far agree, so do the dots of h and each sum with the next block added
pub dot_same : (s t x h : List Bool) → coefficient s ≡ coefficient t
    → coefficient (dot (sum s x) h) ≡ coefficient (dot (sum t x) h)
unfolding dot
dot_same s t x h same =
    let each : coefficient (sum s x) ≡ coefficient (sum t x) =
    sum_is s x ∙ ap (λ f. sum_of f (coefficient x)) same ∙ sym (sum_is t x) in
    times_same polyval_modulus (product (sum s x) h) (product (sum t x) h) x_to_minus_128 refl
    (product_first (sum s x) (sum t x) h each)
