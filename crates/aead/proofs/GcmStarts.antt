-- The blocks counted from J0 mask the tag and the text.
use Rattle.std.proofs.Common.{◌≡◌, ℕ, ◌+◌, ◌-◌, ◌*◌, ◌/◌, ◌%◌, ◌^◌, List, [], ◌∷◌, ◌++◌, length}
use Rattle.std.proofs.Common.{take, drop, get_or, replicate, refl, sym, ap, ap₂, ◌∙◌, arith}
use Rattle.std.proofs.lemmas.List.{take_at, drop_at, get_or-take, get_or-drop}
use Rattle.std.proofs.lemmas.List.{length-take-le, length-drop, length-replicate}
use Rattle.std.specs.Int.{w128, bytes_high_first, to_le_bytes}
use Rattle.std.specs.Int.Bits.{xor_zero_l, xor_zero_r}
use Rattle.octets.specs.Bytes.{AreBytes, be, le, xor_bytes}
use Rattle.octets.specs.Masked.{masked}
use Rattle.octets.proofs.Masks.{xor_bytes-masked}
use Rattle.octets.proofs.Numbers.{le_split, le_padded}
use Rattle.octets.proofs.Xors.{xor_bytes-append}
use Rattle.aes.specs.Cipher.{cipher}
use Rattle.aes.specs.Counters.{up_be, counter_byte}
use Rattle.aead.specs.Sealing.{Setting, j0, mask_of}
use Rattle.aead.specs.Code.Masks.{gcm_mask}
use Rattle.aead.specs.Code.GcmStarts.{IsStart}
use Rattle.aead.proofs.Streams.{first_block}

-- the block j steps after J0 is the nonce and a counter of 1 + j
pub from_j0 : (nonce : List ℕ) (j : ℕ) → length nonce ≡ 12
    → up_be (j0 nonce) j ≡ nonce ++ bytes_high_first 4 ((1 + j) % 2 ^ 32)
unfolding up_be j0 be
from_j0 nonce j h =
    ap₂ (λ a b. a ++ bytes_high_first 4 ((be b + j) % 2 ^ 32))
    (take_at nonce (0 ∷ 0 ∷ 0 ∷ 1 ∷ []) 12 h) (drop_at nonce (0 ∷ 0 ∷ 0 ∷ 1 ∷ []) 12 h)

-- the block j steps after the first block of the mask is 1 + j steps after J0
pub next_from_j0 : (nonce : List ℕ) (j : ℕ) → length nonce ≡ 12 → up_be (up_be (j0 nonce) 1) j ≡ up_be (j0 nonce) (1 + j)
unfolding up_be be
next_from_j0 nonce j h =
    let same : 2 + j ≡ 1 + (1 + j) = omega arith in
    ap (λ b. up_be b j) (first_block nonce h)
    ∙ ap₂ (λ a b. a ++ bytes_high_first 4 ((be b + j) % 2 ^ 32))
    (take_at nonce (0 ∷ 0 ∷ 0 ∷ 2 ∷ []) 12 h) (drop_at nonce (0 ∷ 0 ∷ 0 ∷ 2 ∷ []) 12 h)
    ∙ ap (λ (n : ℕ). nonce ++ bytes_high_first 4 (n % 2 ^ 32)) same
    ∙ sym (from_j0 nonce (1 + j) h)

-- the first block masks the tag
pub start_masks_tag : (start : List ℕ) (s : Setting) (n : ℕ) → IsStart start s n → take 16 start ≡ cipher s.key (j0 s.nonce)
unfolding j0
start_masks_tag start s n is = is.blocks 0 (omega arith) ∙ ap (cipher s.key) (from_j0 s.nonce 0 is.nonce_length)

-- the blocks after it are the mask of the text
pub start_masks_text : (start : List ℕ) (s : Setting) (tag text : List ℕ) (k : ℕ) → IsStart start s (length text)
    → k ≡ length text → xor_bytes text (take k (drop 16 start)) ≡ masked (mask_of s tag) 0 text
unfolding counter_byte
start_masks_text start s tag text k is count =
    let f : ℕ → ℕ = counter_byte up_be s.key (up_be (j0 s.nonce) 1) in
    xor_bytes-masked f 0 text (take k (drop 16 start))
    (length-take-le k (drop 16 start) (omega (arith, count, length-drop 16 start, is.long)) ∙ count) (λ i l.
    let q : ℕ = i / 16 in
    let r : ℕ = i % 16 in
    let place : 16 + i ≡ (1 + q) * 16 + r = omega arith in
    let here : i ≡ 0 + i = omega arith in
    get_or-take k (drop 16 start) i 0 (omega (arith, l, count)) ∙ get_or-drop 16 start i 0 ∙ ap (λ j. get_or start j 0) place
    ∙ sym (get_or-take 16 (drop ((1 + q) * 16) start) r 0 (omega arith) ∙ get_or-drop ((1 + q) * 16) start r 0)
    ∙ ap (λ b. get_or b r 0) (is.blocks (1 + q) (omega (arith, l)))
    ∙ ap (λ b. get_or (cipher s.key b) r 0) (sym (next_from_j0 s.nonce q is.nonce_length)) ∙ ap f here)
    ∙ sym (ap (λ f. masked f 0 text) (gcm_mask s tag is.by_gcm))

-- ---- the block of the nonce and a counter

unchanged : (xs : List ℕ) → xor_bytes xs (replicate (length xs) 0) ≡ xs
unfolding xor_bytes
unchanged [] = refl
unchanged (x ∷ xs) = ap₂ (λ (y : ℕ) (ys : List ℕ). y ∷ ys) (xor_zero_r x) (unchanged xs)

-- it is the nonce as a number of 16 bytes, given by its first 8 bytes and the others, XORed with the counter in the last byte
pub counted_block : (nonce : List ℕ) (low high c : ℕ) → AreBytes 12 nonce → low ≡ le (take 8 nonce)
    → high ≡ le (drop 8 nonce) → xor_bytes (to_le_bytes w128 (low + high * 2 ^ 64)) (replicate 12 0 ++ 0 ∷ 0 ∷ 0 ∷ c ∷ [])
    ≡ nonce ++ 0 ∷ 0 ∷ 0 ∷ c ∷ []
unfolding xor_bytes
counted_block nonce low high c b el eh =
    let last : List ℕ = 0 ∷ 0 ∷ 0 ∷ c ∷ [] in
    let none : List ℕ = 0 ∷ 0 ∷ 0 ∷ 0 ∷ [] in
    let number : low + high * 2 ^ 64 ≡ le nonce = omega (arith, le_split nonce 8 (omega (arith, b.length_is)), el, eh) in
    let rest : 16 - length nonce ≡ 4 = omega (arith, b.length_is) in
    let padded : to_le_bytes w128 (low + high * 2 ^ 64) ≡ nonce ++ none =
    ap (to_le_bytes w128) number ∙ le_padded nonce (omega (arith, b.length_is)) b.bytes
    ∙ ap (λ n. nonce ++ replicate n 0) rest in
    let same : 12 ≡ length nonce = sym b.length_is in
    ap (λ x. xor_bytes x (replicate 12 0 ++ last)) padded
    ∙ xor_bytes-append nonce (replicate 12 0) none last (b.length_is ∙ sym (length-replicate {A = ℕ} 12 0))
    ∙ ap₂ (λ x y. x ++ y) (ap (λ n. xor_bytes nonce (replicate n 0)) same ∙ unchanged nonce)
    (ap (λ z. 0 ∷ 0 ∷ 0 ∷ z ∷ []) (xor_zero_l c))
