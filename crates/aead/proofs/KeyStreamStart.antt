-- The start of the ChaCha20 key stream from counter 0 on: the key of the authenticator, and the mask.
use Rattle.std.proofs.Common.{◌≡◌, ℕ, ◌+◌, ◌*◌, ◌<◌, ◌≤◌, List, length, take, drop, get_or, sym, ap}
use Rattle.std.proofs.Common.{◌∙◌, arith}
use Rattle.std.proofs.lemmas.List.{ext_get_or, get_or-take, get_or-drop, length-take-le, length-drop}
use Rattle.octets.specs.Bytes.{xor_bytes}
use Rattle.octets.specs.Masked.{masked}
use Rattle.octets.proofs.Masks.{xor_bytes-masked}
use Rattle.chacha.specs.Block.{block}
use Rattle.chacha.specs.Stream.{key_stream_byte}
use Rattle.chacha.proofs.Lengths.{length-block}
use Rattle.chacha.proofs.Masking.{block_bytes, key_stream_byte-first}
use Rattle.aead.specs.Suites.{ByChaCha, construction_of}
use Rattle.aead.specs.Sealing.{Setting, poly_key, mask_of}
use Rattle.aead.specs.Code.Masks.{chacha_mask}

-- the first 32 bytes of the key stream from counter 0 on are the key of the authenticator
pub poly_key_first : (key nonce start : List ℕ) → 64 ≤ length start
    → ((i : ℕ) → i < length start → get_or start i 0 ≡ key_stream_byte key nonce 0 i)
    → take 32 start ≡ poly_key key nonce
unfolding poly_key
poly_key_first key nonce start long same =
    let bytes = block key 0 nonce in
    let size : length (take 32 start) ≡ 32 = length-take-le 32 start (omega arith) in
    let other : length (take 32 bytes) ≡ 32 =
    length-take-le 32 bytes (omega (arith, length-block key 0 nonce)) in
    ext_get_or 0 (take 32 start) (take 32 bytes) (size ∙ sym other) (λ i l.
    let below : i < 32 = omega (arith, l, size) in
    get_or-take 32 start i 0 below ∙ same i (omega arith) ∙ sym (block_bytes key nonce 0 i (omega arith))
    ∙ sym (get_or-take 32 bytes i 0 below))

-- the bytes after its first block are the mask of a text that is no longer than they are
pub start_masks_text : (start : List ℕ) (s : Setting) (tag text : List ℕ) (k : ℕ) → construction_of s.suite ≡ ByChaCha
    → ((i : ℕ) → i < length start → get_or start i 0 ≡ key_stream_byte s.key s.nonce 0 i)
    → 64 + length text ≤ length start → k ≡ length text
    → xor_bytes text (take k (drop 64 start)) ≡ masked (mask_of s tag) 0 text
start_masks_text start s tag text k by same long count =
    xor_bytes-masked (key_stream_byte s.key s.nonce 1) 0 text (take k (drop 64 start))
    (length-take-le k (drop 64 start) (omega (arith, count, length-drop 64 start, long)) ∙ count) (λ i l.
    let place : 64 + i ≡ 1 * 64 + 0 + i = omega arith in
    get_or-take k (drop 64 start) i 0 (omega (arith, l, count)) ∙ get_or-drop 64 start i 0 ∙ same (64 + i) (omega (arith, l, long))
    ∙ ap (key_stream_byte s.key s.nonce 0) place ∙ key_stream_byte-first s.key s.nonce 1 0 i)
    ∙ sym (ap (λ f. masked f 0 text) (chacha_mask s tag by))
