-- The sum of several products.
use Rattle.std.proofs.Common.{◌≡◌, ℕ, suc, ◌+◌, ◌-◌, ◌/◌, ◌^◌, Bool, true, false, List, [], ◌∷◌, ◌++◌}
use Rattle.std.proofs.Common.{get_or, replicate, bit_xor, inl, inr, refl, sym, ap, ap₂, ◌∙◌}
use mathlib.Core.Path.{fun_ext}
use Rattle.std.proofs.lemmas.Bool.{cases_lt}
use lib.Bits.{xor_zero_l}
use Rattle.std.specs.Int.{w128, to_be_bytes, from_be_bytes}
use Rattle.octets.specs.Bytes.{IsBlock}
use Rattle.octets.specs.Bits.{g, bytes_of_g}
use Rattle.octets.specs.Polynomial.{coefficient, plus, sum, product, power, sum_of_first, residue, Agree}
use Rattle.octets.proofs.Sequence.{sum_of, sum_exchange, plus_assoc, plus_false}
use Rattle.octets.proofs.Residue.{residue_lower}
use Rattle.octets.proofs.Ring.{product_is, residue_product, residue_of_lower, the_residue, coefficient_sum}
use Rattle.octets.proofs.Horner.{sum_is, product_second, residue_same, times_same, times_residue, horner}
use Rattle.octets.proofs.Horner.{product_one}
use Rattle.octets.proofs.Spelled.{bytes_of_g_bytes, g_bytes_of}
use Rattle.octets.proofs.Reversal.{raised, raised_low, raised_high, coefficient_below}
use Rattle.gf128.specs.Ghash.{ghash_modulus}
use Rattle.gf128.specs.Code.Words.{of_bits, of_word, products, IsReduced, IsWordProduct, IsFourProducts}
use Rattle.gf128.proofs.WordLemmas.{of_word_xor, of_word_zero, of_word-be, g-to_be, word_product}
use Rattle.gf128.proofs.BitParts.{residue_parts, product_joined, reduced_same, reduced_is}
use Rattle.gf128.proofs.BitParts.{own_residue}
use Rattle.gf128.proofs.Folds.{raised_sum}

-- ---- sums of products, some bits at a time

-- the numbers of a list of pairs without their d lowest bits
abbrev pub shortened : ℕ → List (ℕ × ℕ) → List (ℕ × ℕ)
shortened d [] = []
shortened d (p ∷ rest) = (p.0 / 2 ^ d, p.1) ∷ shortened d rest

-- the empty polynomial is the sum of itself and x^w times itself
raised_none : (w : ℕ) → coefficient [] ≡ coefficient (sum [] (replicate w false ++ []))
raised_none w = fun_ext (λ k.
    let none : raised w (coefficient []) k ≡ false = elim (cases_lt k w) [
      | inl l ↦ raised_low w
          (coefficient []) k l
      | inr l ↦ raised_high w (coefficient []) k l
    ] in
    sym (coefficient_sum [] (replicate w false ++ []) k ∙ coefficient_below w [] k ∙ none))

-- the sum of products of w + d bits is that of the upper w bits, plus x^w times that of the lower d bits
pub products_joined : (w d : ℕ) (l : List (ℕ × ℕ)) → coefficient (products (w + d) l)
    ≡ coefficient (sum (products w (shortened d l)) (replicate w false ++ products d l))
products_joined w d [] = raised_none w
products_joined w d (p ∷ rest) =
    let a : List Bool = product (of_bits w (p.0 / 2 ^ d)) (of_word p.1) in
    let b : List Bool = product (of_bits d p.0) (of_word p.1) in
    let e : List Bool = products w (shortened d rest) in
    let f : List Bool = products d rest in
    let up : List Bool → List Bool = λ (q : List Bool). replicate w false ++ q in
    let raise : (q : List Bool) → coefficient (up q) ≡ raised w (coefficient q) =
    λ q. fun_ext (coefficient_below w q) in
    let first : coefficient (product (of_bits (w + d) p.0) (of_word p.1)) ≡ sum_of (coefficient a)
    (raised w (coefficient b)) =
    product_joined w d p.0 p.1 ∙ sum_is a (up b) ∙ ap (sum_of (coefficient a)) (raise b) in
    let later : coefficient (products (w + d) rest) ≡ sum_of (coefficient e) (raised w (coefficient f)) =
    products_joined w d rest ∙ sum_is e (up f) ∙ ap (sum_of (coefficient e)) (raise f) in
    sum_is (product (of_bits (w + d) p.0) (of_word p.1)) (products (w + d) rest)
    ∙ ap₂ sum_of first later
    ∙ sum_exchange (coefficient a) (raised w (coefficient b)) (coefficient e) (raised w (coefficient f))
    ∙ ap₂ sum_of (sym (sum_is a e)) (sym (raised_sum w (coefficient b) (coefficient f))
    ∙ ap (raised w) (sym (sum_is b f)) ∙ sym (raise (sum b f)))
    ∙ sym (sum_is (sum a e) (up (sum b f)))

-- the product of no bits and a word is 0
pub no_bits : (n h k : ℕ) → coefficient (product (of_bits 0 n) (of_word h)) k ≡ false
unfolding of_bits
no_bits n h k = ap (λ f. f k) (product_is [] (of_word h))

-- the sum of products of no bits is 0
pub products_none : (l : List (ℕ × ℕ)) (k : ℕ) → coefficient (products 0 l) k ≡ false
products_none [] k = refl
products_none (p ∷ rest) k =
    coefficient_sum (product (of_bits 0 p.0) (of_word p.1)) (products 0 rest) k
    ∙ ap₂ plus (no_bits p.0 p.1 k) (products_none rest k)

-- if t is the residue of p, it is the residue of p plus the empty polynomial
pub last_product : (p : List Bool) (t : ℕ) → IsReduced p t → IsReduced (sum p []) t
last_product p t is =
    reduced_same p (sum p []) t (fun_ext (λ k. sym (coefficient_sum p [] k ∙ plus_false (coefficient p k))))
    is

-- ---- powers of the key

-- the first power of the key is the key
pub first_power : (h : ℕ) → IsReduced (power (of_word h) 1) h
unfolding power
first_power h = reduced_same (of_word h) (product (true ∷ []) (of_word h)) h (sym (product_one (of_word h)))
    (own_residue h)

-- power n + 1 of the key is the product of power n and the key
pub next_power : (h n s t : ℕ) → IsReduced (power (of_word h) n) s → IsWordProduct s (to_be_bytes w128 h) t
    → IsReduced (power (of_word h) (suc n)) t
unfolding power
next_power h n s t is by k =
    let m : List Bool = ghash_modulus in
    let p : List Bool = power (of_word h) n in
    let times : coefficient (of_word t) ≡ coefficient (residue m (product (of_word s) (of_word h))) =
    word_product s t (to_be_bytes w128 h) by
    ∙ ap (λ (q : List Bool). coefficient (residue m (product (of_word s) q))) (g-to_be h) in
    ap (λ f. f k) (times ∙ times_same m (of_word s) (residue m p) (of_word h) refl (reduced_is p s is)
    ∙ times_residue m p (of_word h) refl)

-- a product with the residue of a power of the key has the residue of the product with the power
by_power : (x h n s : ℕ) → IsReduced (power (of_word h) n) s
    → coefficient (residue ghash_modulus (product (of_word x) (of_word s)))
    ≡ coefficient (residue ghash_modulus (product (of_word x) (power (of_word h) n)))
by_power x h n s is =
    let m : List Bool = ghash_modulus in
    let p : List Bool = power (of_word h) n in
    residue_same m (product (of_word x) (of_word s)) (product (of_word x) (residue m p)) refl
    (product_second (of_word x) (of_word s) (residue m p) (reduced_is p s is))
    ∙ fun_ext (residue_product m (of_word x) p refl)

-- four terms that are added from the right are those terms added from the left
in_order : (a b c d : Bool) → plus a (plus b (plus c (plus d false)))
    ≡ plus (plus (plus (plus false a) b) c) d
in_order a b c d =
    ap (λ e. plus a (plus b (plus c e))) (plus_false d) ∙ sym (plus_assoc a b (plus c d))
    ∙ sym (plus_assoc (plus a b) c d)

-- the sum of the products with the powers of the key, from the fourth to the first, is `IsFourProducts`
pub four_products : (a b c d h s t u z : ℕ) → IsReduced (power (of_word h) 2) s
    → IsReduced (power (of_word h) 3) t → IsReduced (power (of_word h) 4) u
    → IsReduced (products 128 ((a, u) ∷ (b, t) ∷ (c, s) ∷ (d, h) ∷ [])) z
    → IsFourProducts a b c d (to_be_bytes w128 h) z
unfolding IsFourProducts of_word sum_of_first
four_products a b c d h s t u z hs ht hu is =
    let m : List Bool = ghash_modulus in
    let term : ℕ → ℕ → List Bool = λ (x n : ℕ). residue m (product (of_word x) (power (of_word h) n)) in
    let tail3 : List Bool = sum (product (of_word d) (of_word h)) [] in
    let tail2 : List Bool = sum (product (of_word c) (of_word s)) tail3 in
    let tail1 : List Bool = sum (product (of_word b) (of_word t)) tail2 in
    let split : (p q : List Bool) (k : ℕ) → coefficient (residue m (sum p q)) k
    ≡ plus (coefficient (residue m p) k) (coefficient (residue m q) k) =
    λ p q k. ap (λ f. f k) (residue_parts p q) in
    let at : (x n r : ℕ) → IsReduced (power (of_word h) n) r → (k : ℕ)
    → coefficient (residue m (product (of_word x) (of_word r))) k ≡ coefficient (term x n) k =
    λ x n r e k.
    ap (λ f. f k) (by_power x h n r e) in
    let all : Agree (of_word z) (sum (sum (sum (sum [] (term a 4)) (term b 3)) (term c 2)) (term d 1)) =
    λ k.
    is k ∙ split (product (of_word a) (of_word u)) tail1 k
    ∙ ap₂ plus (at a 4 u hu k) (split (product (of_word b) (of_word t)) tail2 k
    ∙ ap₂ plus (at b 3 t ht k) (split (product (of_word c) (of_word s)) tail3 k
    ∙ ap₂ plus (at c 2 s hs k) (split (product (of_word d) (of_word h)) [] k
    ∙ ap₂ plus (at d 1 h (first_power h) k) (residue_of_lower m [] refl (λ i l. refl) k))))
    ∙ in_order (coefficient (term a 4) k) (coefficient (term b 3) k) (coefficient (term c 2) k)
    (coefficient (term d 1) k)
    ∙ sym (coefficient_sum (sum (sum (sum [] (term a 4)) (term b 3)) (term c 2)) (term d 1) k
    ∙ ap (λ e. plus e (coefficient (term d 1) k)) (coefficient_sum (sum (sum [] (term a 4)) (term b 3))
    (term c 2) k
    ∙ ap (λ e. plus e (coefficient (term c 2) k)) (coefficient_sum (sum [] (term a 4)) (term b 3) k
    ∙ ap (λ e. plus e (coefficient (term b 3) k)) (coefficient_sum [] (term a 4) k)))) in
    rw (g-to_be h) all

-- ---- four products one after the other

-- the product of a word and a block, as a word
pub product_of : ℕ → List ℕ → ℕ
product_of x y = from_be_bytes w128 (bytes_of_g 16 (residue ghash_modulus (product (of_word x) (g y))))

-- `product_of x y` is that product
pub product_of_is : (x : ℕ) (y : List ℕ) → IsWordProduct x y (product_of x y)
unfolding IsWordProduct product_of
product_of_is x y =
    let p : List Bool = product (of_word x) (g y) in
    let r : List Bool = residue ghash_modulus p in
    let block : IsBlock (bytes_of_g 16 r) = bytes_of_g_bytes 16 r in
    let agree : Agree (of_word (from_be_bytes w128 (bytes_of_g 16 r))) r =
    rw (of_word-be (bytes_of_g 16 r) block) (g_bytes_of 16 r (λ k l. residue_lower ghash_modulus p k l)) in
    the_residue ghash_modulus p (of_word (from_be_bytes w128 (bytes_of_g 16 r))) refl agree

-- if s is the sum of n terms by Horner's rule, then s plus the next term, times the key, is the sum of n + 1 terms
pub horner_more : (x : ℕ → List Bool) (y : List ℕ) (s w z n : ℕ)
    → Agree (of_word s) (sum_of_first n (λ i. residue ghash_modulus (product (x i) (power (g y) (n - i)))))
    → of_word w ≡ x n → IsWordProduct (bit_xor s w) y z
    → Agree (of_word z) (sum_of_first (suc n)
    (λ i. residue ghash_modulus (product (x i) (power (g y) (suc n - i)))))
horner_more x y s w z n held ew is k =
    let m : List Bool = ghash_modulus in
    let before : List Bool = sum_of_first n (λ i. residue m (product (x i) (power (g y) (n - i)))) in
    let same : coefficient (of_word (bit_xor s w)) ≡ coefficient (sum before (x n)) =
    fun_ext (of_word_xor s w) ∙ ap₂ sum_of (fun_ext held) (ap coefficient ew) ∙ sym (sum_is before (x n)) in
    ap (λ f. f k) (word_product (bit_xor s w) z y is ∙ times_same m (of_word (bit_xor s w))
    (sum before (x n)) (g y) refl same ∙ sym (horner m x (g y) n refl))

-- four products by Horner's rule, one after the other, are the sum of four products
pub four_more : (a b c d s t u z : ℕ) (y : List ℕ) → IsWordProduct a y s → IsWordProduct (bit_xor s b) y t
    → IsWordProduct (bit_xor t c) y u
    → IsWordProduct (bit_xor u d) y z → IsFourProducts a b c d y z
unfolding IsFourProducts sum_of_first
four_more a b c d s t u z y ha hb hc hd =
    let x : ℕ → List Bool = λ (i : ℕ). of_word (get_or (a ∷ b ∷ c ∷ d ∷ []) i 0) in
    let first : IsWordProduct (bit_xor 0 a) y s = rw (xor_zero_l a) ha in
    horner_more x y u d z 3
    (horner_more x y t c u 2 (horner_more x y s b t 1 (horner_more x y 0 a s 0 of_word_zero refl first)
    refl hb) refl hc) refl hd

-- the last of four products by Horner's rule is the word z, if z is their sum
pub four_steps : (a b c d z : ℕ) (y : List ℕ) → IsFourProducts a b c d y z
    → IsWordProduct (bit_xor (product_of (bit_xor (product_of (bit_xor (product_of a y) b) y) c) y) d) y z
unfolding IsFourProducts IsWordProduct
four_steps a b c d z y is =
    let s : ℕ = product_of a y in
    let t : ℕ = product_of (bit_xor s b) y in
    let u : ℕ = product_of (bit_xor t c) y in
    let last : ℕ = product_of (bit_xor u d) y in
    let p : List Bool = product (of_word (bit_xor u d)) (g y) in
    let other : IsFourProducts a b c d y last =
    four_more a b c d s t u last y (product_of_is a y) (product_of_is (bit_xor s b) y)
    (product_of_is (bit_xor t c) y) (product_of_is (bit_xor u d) y) in
    let agree : Agree (of_word z) (residue ghash_modulus p) = λ k.
    is k ∙ sym (other k) ∙ ap (λ f. f k) (word_product (bit_xor u d) last y
    (product_of_is (bit_xor u d) y)) in
    the_residue ghash_modulus p (of_word z) refl agree
