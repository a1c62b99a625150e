-- Laws of a list XORed with a stream.
use Rattle.std.proofs.Common.{◌≡◌, ℕ, zero, suc, ◌+◌, ◌<◌, List, [], ◌∷◌, ◌++◌, length, take, get_or}
use Rattle.std.proofs.Common.{bit_xor, refl, sym, ap, ap₂, ◌∙◌, arith, add-zero}
use Rattle.std.specs.Int.Bits.{xor_assoc, xor_self, xor_zero_r}
use Rattle.octets.specs.Bytes.{xor_bytes}
use Rattle.octets.specs.Masked.{masked}

-- a masked list keeps its length
pub length-masked : (f : ℕ → ℕ) (at : ℕ) (xs : List ℕ) → length (masked f at xs) ≡ length xs
unfolding masked
length-masked f at [] = refl
length-masked f at (x ∷ xs) = ap suc (length-masked f (suc at) xs)

-- a masked list of two parts is both parts, each masked from its own offset
pub masked-append : (f : ℕ → ℕ) (at : ℕ) (xs ys : List ℕ)
    → masked f at (xs ++ ys) ≡ masked f at xs ++ masked f (at + length xs) ys
unfolding masked
masked-append f at [] ys = ap (λ i. masked f i ys) (sym (add-zero at))
masked-append f at (x ∷ xs) ys =
    let e : suc at + length xs ≡ at + suc (length xs) = omega arith in
    ap (λ l. bit_xor x (f at) ∷ l)
    (masked-append f (suc at) xs ys ∙ ap (λ i. masked f (suc at) xs ++ masked f i ys) e)

-- the first bytes of a masked list are those bytes, masked
pub take-masked : (f : ℕ → ℕ) (n at : ℕ) (xs : List ℕ) → take n (masked f at xs) ≡ masked f at (take n xs)
unfolding masked
take-masked f zero at xs = refl
take-masked f (suc n) at [] = refl
take-masked f (suc n) at (x ∷ xs) = ap (λ l. bit_xor x (f at) ∷ l) (take-masked f n (suc at) xs)

-- masked twice, a list is as it was
pub masked_twice : (f : ℕ → ℕ) (at : ℕ) (xs : List ℕ) → masked f at (masked f at xs) ≡ xs
unfolding masked
masked_twice f at [] = refl
masked_twice f at (x ∷ xs) =
    ap (λ b. b ∷ masked f (suc at) (masked f (suc at) xs))
    (xor_assoc x (f at) (f at) ∙ ap (λ z. bit_xor x z) (xor_self (f at)) ∙ xor_zero_r x)
    ∙ ap (λ l. x ∷ l) (masked_twice f (suc at) xs)

-- the XOR with the bytes of a stream is the masked list
pub xor_bytes-masked : (f : ℕ → ℕ) (at : ℕ) (xs ys : List ℕ) → length ys ≡ length xs
    → ((i : ℕ) → i < length xs → get_or ys i 0 ≡ f (at + i)) → xor_bytes xs ys ≡ masked f at xs
unfolding xor_bytes masked
xor_bytes-masked f at [] ys e same = refl
xor_bytes-masked f at (x ∷ xs) [] e same = absurd (omega arith)
xor_bytes-masked f at (x ∷ xs) (y ∷ ys) e same =
    ap₂ (λ (z : ℕ) (zs : List ℕ). z ∷ zs)
    (ap (bit_xor x) (same 0 (omega arith) ∙ ap f (add-zero at)))
    (xor_bytes-masked f (suc at) xs ys (omega arith) (λ i l.
    let next : at + suc i ≡ suc at + i = omega arith in
    same (suc i) (omega arith) ∙ ap f next))
