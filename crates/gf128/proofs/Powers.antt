-- The sum of several products, each by the tables of its own word: what the tables give is added before it is moved.
use Rattle.std.proofs.Common.{◌≡◌, ℕ, zero, suc, ◌+◌, ◌*◌, ◌/◌, ◌%◌, ◌^◌, Bool, List, [], ◌∷◌, bit_xor, refl, sym, ap, ap₂}
use Rattle.std.proofs.Common.{◌∙◌, subst}
use Rattle.std.specs.Int.{w128, to_be_bytes}
use Rattle.std.proofs.lemmas.Nat.{xor_shr, xor_mod}
use Rattle.octets.specs.Polynomial.{coefficient, sum, product, power, residue}
use Rattle.gf128.specs.Ghash.{ghash_modulus}
use Rattle.gf128.specs.Code.Words.{placed, of_bits, of_word, products, folded_wide, IsReduced, IsWordProduct, IsFourProducts}
use Rattle.gf128.proofs.WordLemmas.{word_product, g-to_be}
use Rattle.gf128.proofs.BitParts.{reduced_sum}
use Rattle.gf128.proofs.FourProducts.{last_product, four_products}
use Rattle.gf128.proofs.Moves.{xor_assoc, xor_exchange, xor_shl}

-- placing the XORs of words is XORing what is placed
pub placed_xor : (r s : ℕ → ℕ) (q : ℕ) → placed (λ j. bit_xor (r j) (s j)) q ≡ bit_xor (placed r q) (placed s q)
unfolding placed
placed_xor r s zero = refl
placed_xor r s (suc q) =
    ap₂ bit_xor (placed_xor r s q) (xor_shl (8 * q + 8) (r q) (s q))
    ∙ xor_exchange (placed r q) (placed s q) (r q * 2 ^ (8 * q + 8)) (s q * 2 ^ (8 * q + 8))

-- reducing an XOR is XORing what is reduced
pub folded_xor : (m n : ℕ) → folded_wide (bit_xor m n) ≡ bit_xor (folded_wide m) (folded_wide n)
folded_xor m n =
    let z : ℕ → ℕ = λ (x : ℕ). x / 2 ^ 128 in
    let f : ℕ → ℕ = λ (x : ℕ). x % 2 ^ 128 in
    let d : ℕ → ℕ → ℕ = λ (i x : ℕ). x % 2 ^ 128 / 2 ^ i in
    let low : f (bit_xor m n) ≡ bit_xor (f m) (f n) = xor_mod m n 128 in
    let down : (i : ℕ) → d i (bit_xor m n) ≡ bit_xor (d i m) (d i n) = λ i.
    ap (λ (x : ℕ). x / 2 ^ i) low ∙ xor_shr (f m) (f n) i in
    let third : bit_xor (d 2 (bit_xor m n)) (d 7 (bit_xor m n)) ≡ bit_xor (bit_xor (d 2 m) (d 7 m)) (bit_xor (d 2 n) (d 7 n)) =
    ap₂ bit_xor (down 2) (down 7) ∙ xor_exchange (d 2 m) (d 2 n) (d 7 m) (d 7 n) in
    let second = ap₂ bit_xor (down 1) third
    ∙ xor_exchange (d 1 m) (d 1 n) (bit_xor (d 2 m) (d 7 m)) (bit_xor (d 2 n) (d 7 n)) in
    let first = ap₂ bit_xor low second
    ∙ xor_exchange (f m) (f n) (bit_xor (d 1 m) (bit_xor (d 2 m) (d 7 m))) (bit_xor (d 1 n) (bit_xor (d 2 n) (d 7 n))) in
    ap₂ bit_xor (xor_shr m n 128) first
    ∙ xor_exchange (z m) (z n) (bit_xor (f m) (bit_xor (d 1 m) (bit_xor (d 2 m) (d 7 m))))
    (bit_xor (f n) (bit_xor (d 1 n) (bit_xor (d 2 n) (d 7 n))))

-- four words that are added before they are placed give the XOR of what each of them gives
pub four_placed : (p q r s : ℕ → ℕ) → folded_wide (placed (λ j. bit_xor (bit_xor (p j) (q j)) (bit_xor (r j) (s j))) 16)
    ≡ bit_xor (bit_xor (folded_wide (placed p 16)) (folded_wide (placed q 16)))
    (bit_xor (folded_wide (placed r 16)) (folded_wide (placed s 16)))
four_placed p q r s =
    ap folded_wide (placed_xor (λ j. bit_xor (p j) (q j)) (λ j. bit_xor (r j) (s j)) 16
    ∙ ap₂ bit_xor (placed_xor p q 16) (placed_xor r s 16))
    ∙ folded_xor (bit_xor (placed p 16) (placed q 16)) (bit_xor (placed r 16) (placed s 16))
    ∙ ap₂ bit_xor (folded_xor (placed p 16) (placed q 16)) (folded_xor (placed r 16) (placed s 16))

-- a product of words is the residue of the product of their bits
reduced_product : (x h z : ℕ) → IsWordProduct x (to_be_bytes w128 h) z → IsReduced (product (of_bits 128 x) (of_word h)) z
unfolding of_word
reduced_product x h z is k =
    ap (λ f. f k) (word_product x z (to_be_bytes w128 h) is)
    ∙ ap (λ (q : List Bool). coefficient (residue ghash_modulus (product (of_word x) q)) k) (g-to_be h)

-- the XOR of the products of four words with four powers of the key is `IsFourProducts`
pub four_powers : (a b c d h s t u za zb zc zd : ℕ) → IsReduced (power (of_word h) 2) s → IsReduced (power (of_word h) 3) t
    → IsReduced (power (of_word h) 4) u → IsWordProduct a (to_be_bytes w128 u) za → IsWordProduct b (to_be_bytes w128 t) zb
    → IsWordProduct c (to_be_bytes w128 s) zc → IsWordProduct d (to_be_bytes w128 h) zd
    → IsFourProducts a b c d (to_be_bytes w128 h) (bit_xor (bit_xor za zb) (bit_xor zc zd))
four_powers a b c d h s t u za zb zc zd hs ht hu ha hb hc hd =
    let p : ℕ → ℕ → List Bool = λ (x k : ℕ). product (of_bits 128 x) (of_word k) in
    let last : List Bool = sum (p d h) [] in
    let third : List Bool = sum (p c s) last in
    let second : List Bool = sum (p b t) third in
    let all : IsReduced (products 128 ((a, u) ∷ (b, t) ∷ (c, s) ∷ (d, h) ∷ [])) (bit_xor za (bit_xor zb (bit_xor zc zd))) =
    reduced_sum (p a u) second za (bit_xor zb (bit_xor zc zd)) (reduced_product a u za ha)
    (reduced_sum (p b t) third zb (bit_xor zc zd) (reduced_product b t zb hb)
    (reduced_sum (p c s) last zc zd (reduced_product c s zc hc) (last_product (p d h) zd (reduced_product d h zd hd)))) in
    four_products a b c d h s t u (bit_xor (bit_xor za zb) (bit_xor zc zd)) hs ht hu
    (subst (IsReduced (products 128 ((a, u) ∷ (b, t) ∷ (c, s) ∷ (d, h) ∷ []))) (sym (xor_assoc za zb (bit_xor zc zd))) all)
