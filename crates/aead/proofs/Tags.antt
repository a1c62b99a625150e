-- The hashes of the constructions, as the code computes them from the bytes taken in.
use Rattle.std.proofs.Common.{◌≡◌, ℕ, ◌*◌, List, ◌++◌, length, ap, ap₂, sym, ◌∙◌}
use Rattle.std.specs.Int.{w64, to_le_bytes, to_be_bytes}
use Rattle.octets.specs.Bytes.{pad16}
use Rattle.poly1305.specs.Poly1305.{poly1305}
use Rattle.gf128.specs.Ghash.{ghash}
use Rattle.gf128.specs.Polyval.{polyval}
use Rattle.aead.specs.Suites.{ByChaCha, ByGcm, ByGcmSiv, construction_of}
use Rattle.aead.specs.Sealing.{Setting, poly_key, chacha_authenticated, hash_key, gcm_authenticated}
use Rattle.aead.specs.Sealing.{authentication_key, siv_authenticated}
use Rattle.aead.specs.Code.States.{digest_by, digest_over}
use Rattle.aead.proofs.Fed.{fed}

-- Poly1305 of the bytes taken in, padded, and the lengths is the hash of the authenticated bytes
pub poly1305_over : (s : Setting) (m result : List ℕ) (a n : ℕ) → construction_of s.suite ≡ ByChaCha
    → a ≡ length s.aad → n ≡ length m
    → result ≡ poly1305 (poly_key s.key s.nonce)
    (pad16 (pad16 s.aad ++ m) ++ (to_le_bytes w64 a ++ to_le_bytes w64 n))
    → result ≡ digest_over s m
unfolding chacha_authenticated
poly1305_over s m result a n by e f h =
    h
    ∙ ap (poly1305 (poly_key s.key s.nonce)) (fed s.aad m (to_le_bytes w64 a ++ to_le_bytes w64 n))
    ∙ ap₂ (λ i j. poly1305 (poly_key s.key s.nonce)
    (pad16 s.aad ++ (pad16 m ++ (to_le_bytes w64 i ++ to_le_bytes w64 j)))) e f
    ∙ sym (ap (λ c. digest_by c s m) by)

-- so is GHASH of them
pub ghash_over : (s : Setting) (m result : List ℕ) (a n : ℕ) → construction_of s.suite ≡ ByGcm
    → a ≡ length s.aad → n ≡ length m
    → result ≡ ghash (hash_key s.key)
    (pad16 (pad16 s.aad ++ m) ++ (to_be_bytes w64 (8 * a) ++ to_be_bytes w64 (8 * n)))
    → result ≡ digest_over s m
unfolding gcm_authenticated
ghash_over s m result a n by e f h =
    h
    ∙ ap (ghash (hash_key s.key)) (fed s.aad m (to_be_bytes w64 (8 * a) ++ to_be_bytes w64 (8 * n)))
    ∙ ap₂ (λ i j. ghash (hash_key s.key)
    (pad16 s.aad ++ (pad16 m ++ (to_be_bytes w64 (8 * i) ++ to_be_bytes w64 (8 * j))))) e f
    ∙ sym (ap (λ c. digest_by c s m) by)

-- and POLYVAL
pub polyval_over : (s : Setting) (m result : List ℕ) (a n : ℕ) → construction_of s.suite ≡ ByGcmSiv
    → a ≡ length s.aad → n ≡ length m
    → result ≡ polyval (authentication_key s.key s.nonce)
    (pad16 (pad16 s.aad ++ m) ++ (to_le_bytes w64 (8 * a) ++ to_le_bytes w64 (8 * n)))
    → result ≡ digest_over s m
unfolding siv_authenticated
polyval_over s m result a n by e f h =
    let hash : List ℕ → List ℕ = polyval (authentication_key s.key s.nonce) in
    h
    ∙ ap hash (fed s.aad m (to_le_bytes w64 (8 * a) ++ to_le_bytes w64 (8 * n)))
    ∙ ap₂ (λ i j. hash (pad16 s.aad ++ (pad16 m ++ (to_le_bytes w64 (8 * i) ++ to_le_bytes w64 (8 * j))))) e f
    ∙ sym (ap (λ c. digest_by c s m) by)
