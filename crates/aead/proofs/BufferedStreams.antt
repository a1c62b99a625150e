-- ChaCha20's mask whose first bytes are computed in advance.
use Rattle.std.proofs.Common.{◌≡◌, ℕ, suc, ◌+◌, ◌-◌, ◌*◌, ◌<◌, inl, inr, List, [], ◌∷◌, ◌++◌, length, take}
use Rattle.std.proofs.Common.{drop, get_or, min, max, bit_xor, refl, sym, ap, ap₂, ◌∙◌, arith}
use Rattle.std.proofs.lemmas.Bool.{cases_lt}
use Rattle.std.proofs.lemmas.List.{get_or-take, get_or-drop, length-take-le, length-drop, take-append-drop}
use Rattle.std.proofs.lemmas.List.{drop_all}
use Rattle.octets.specs.Bytes.{xor_bytes}
use Rattle.octets.specs.Masked.{masked}
use Rattle.octets.proofs.Masks.{xor_bytes-masked, masked-append}
use Rattle.chacha.specs.Stream.{key_stream_byte}
use Rattle.chacha.proofs.Masking.{key_stream_byte-first}

-- two masks with equal bytes from their places on mask a list alike
shifted : (f h : ℕ → ℕ) (a b : ℕ) (xs : List ℕ) → ((i : ℕ) → f (a + i) ≡ h (b + i))
    → masked f a xs ≡ masked h b xs
unfolding masked
shifted f h a b [] e = refl
shifted f h a b (x ∷ xs) e =
    let at_a : a ≡ a + 0 = omega arith in
    let at_b : b + 0 ≡ b = omega arith in
    ap₂ (λ s t. bit_xor x s ∷ t) (ap f at_a ∙ e 0 ∙ ap h at_b)
    (shifted f h (suc a) (suc b) xs (λ i.
    let next_a : suc a + i ≡ a + suc i = omega arith in
    let next_b : b + suc i ≡ suc b + i = omega arith in
    ap f next_a ∙ e (suc i) ∙ ap h next_b))

-- the key stream from counter 1 on is the key stream from counter 0 on, 64 bytes later
from_one : (key nonce : List ℕ) (n p : ℕ) (xs : List ℕ) → p ≡ 64 + n
    → masked (key_stream_byte key nonce 0) p xs ≡ masked (key_stream_byte key nonce 1) n xs
from_one key nonce n p xs e =
    shifted (key_stream_byte key nonce 0) (key_stream_byte key nonce 1) p n xs (λ i.
    let place : p + i ≡ 1 * 64 + n + i = omega arith in
    ap (key_stream_byte key nonce 0) place ∙ key_stream_byte-first key nonce 1 n i)

-- if its first bytes are XORed with those computed in advance, and the others masked with the rest of the key stream, a piece is
-- masked with the key stream from counter 1 on
pub buffered_masked : (key nonce start piece first last : List ℕ) (n used count rest : ℕ)
    → ((i : ℕ) → i < length start → get_or start i 0 ≡ key_stream_byte key nonce 0 i)
    → used ≡ min (64 + n) (length start) → count ≡ min (length piece) (length start - used)
    → rest ≡ max (64 + n) (length start)
    → first ≡ xor_bytes (take count piece) (take count (drop used start))
    → last ≡ masked (key_stream_byte key nonce 0) rest (drop count piece)
    → first ++ last ≡ masked (key_stream_byte key nonce 1) n piece
unfolding masked
buffered_masked key nonce start piece first last n used count rest same is_used is_count is_rest is_first
    is_last =
    let f : ℕ → ℕ = key_stream_byte key nonce 0 in
    let h : ℕ → ℕ = key_stream_byte key nonce 1 in
    let xs : List ℕ = take count piece in
    let ys : List ℕ = take count (drop used start) in
    let long : length xs ≡ count = length-take-le count piece (omega (arith, is_count)) in
    let size : length ys ≡ count =
    length-take-le count (drop used start) (omega (arith, is_count, length-drop used start)) in
    let in_front : 0 < count → used ≡ 64 + n = λ some. omega (arith, is_used, is_count, some) in
    let front : first ≡ masked h n xs =
    is_first ∙ xor_bytes-masked h n xs ys (size ∙ sym long) (λ i l.
    let below : i < count = omega (arith, l, size, long) in
    let there : used ≡ 64 + n = in_front (omega (arith, below)) in
    let inside : used + i < length start = omega (arith, below, is_count) in
    let place : used + i ≡ 1 * 64 + n + i = omega (arith, there) in
    get_or-take count (drop used start) i 0 below ∙ get_or-drop used start i 0 ∙ same (used + i) inside
    ∙ ap f place ∙ key_stream_byte-first key nonce 1 n i) in
    let back : last ≡ masked h (n + length xs) (drop count piece) =
    is_last ∙ elim (cases_lt count (length piece)) [
      | inl less ↦ from_one key nonce (n + length xs) rest (drop count piece)
          (omega (arith, less, is_used, is_count, is_rest, long))
      | inr all ↦
          let none : drop count piece ≡ [] = drop_all count piece all in
          ap (masked f rest) none ∙ sym (ap (masked h (n + length xs)) none)
    ] in
    ap₂ (λ a b. a ++ b) front back ∙ sym (masked-append h n xs (drop count piece))
    ∙ ap (masked h n) (take-append-drop count piece)
