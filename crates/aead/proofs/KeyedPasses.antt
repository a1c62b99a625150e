-- Facts about the key and the nonce of a message, and about the bytes of it that are authenticated.
use Rattle.std.proofs.Common.{◌≡◌, ℕ, ◌-◌, ◌^◌, ◌≤◌, List, length, take, drop, replicate, refl, sym, ap, subst, ◌∙◌, arith}
use Rattle.std.proofs.Common.{ap₂, true, true≢false}
use Rattle.std.proofs.lemmas.List.{take_all}
use Rattle.octets.specs.Masked.{masked}
use Rattle.octets.proofs.Masks.{length-masked}
use Rattle.gf128.specs.Orders.{Reversed, Serves}
use Rattle.aead.specs.declared.suite.Suite.{Suite}
use Rattle.aead.specs.declared.suite.Suite.TheVariants.{ChaCha20Poly1305, Aes128Gcm, Aes192Gcm, Aes256Gcm}
use Rattle.aead.specs.declared.suite.Suite.TheVariants.{Aes128GcmSiv, Aes256GcmSiv}
use Rattle.aead.specs.declared.pieces.key_and_nonce.KeyAndNonce.{KeyAndNonce}
use Rattle.aead.specs.Suites.{Construction, ByChaCha, ByGcm, ByGcmSiv, construction_of, is_one_pass, key_length}
use Rattle.aead.specs.Suites.{text_limit_by}
use Rattle.aead.specs.Sealing.{Setting, authentication_key, encryption_key, mask_of, tag_over, tag_of}
use Rattle.aead.specs.KeyedPasses.{setting_of, cipher_key, HasKeys, authenticated_by}
use Rattle.aead.proofs.Opens.{body_tag, two_pass_tag}

-- neither construction of AES is that of ChaCha20-Poly1305, since their limits differ
pub not_chacha : ByGcm ≡ ByChaCha → ⊥
not_chacha e = let z : 2 ^ 36 - 32 ≡ 2 ^ 38 - 64 = ap text_limit_by e in omega (arith, z)

not_chacha_either : ByGcmSiv ≡ ByChaCha → ⊥
not_chacha_either e = let z : 2 ^ 36 ≡ 2 ^ 38 - 64 = ap text_limit_by e in omega (arith, z)

-- the key of ChaCha20-Poly1305 has 32 bytes
pub chacha_key_length : (suite : Suite) → construction_of suite ≡ ByChaCha → key_length suite ≡ 32
chacha_key_length ChaCha20Poly1305 e = refl
chacha_key_length Aes128Gcm e = absurd (not_chacha e)
chacha_key_length Aes192Gcm e = absurd (not_chacha e)
chacha_key_length Aes256Gcm e = refl
chacha_key_length Aes128GcmSiv e = absurd (not_chacha_either e)
chacha_key_length Aes256GcmSiv e = refl

-- if p has the key that the cipher uses, filled up with zeros, and the nonce of a message, p has the keys of that message
pub has_keys : (p : KeyAndNonce) (s : Setting) (key : List ℕ) → key ≡ cipher_key (construction_of s.suite) s
    → length key ≡ key_length s.suite → length s.key ≡ key_length s.suite → length s.nonce ≡ 12
    → take (length key) p.key ≡ key → drop (length key) p.key ≡ replicate (32 - length key) 0 → p.nonce ≡ s.nonce
    → HasKeys p s
has_keys p s key is long key_fits nonce_fits first padded nonce = record {
  lengths = record { key_fits = key_fits; nonce_fits = nonce_fits };
  key_is = ap (λ (n : ℕ). take n p.key) (sym long) ∙ first ∙ is;
  padded = subst (λ (n : ℕ). drop n p.key ≡ replicate (32 - n) 0) long padded;
  nonce_is = nonce;
}

-- the key that the cipher uses does not depend on the associated data
same_cipher_key : (by : Construction) (s : Setting) (aad : List ℕ)
    → cipher_key by s ≡ cipher_key by (setting_of s.suite s.key s.nonce aad)
same_cipher_key ByChaCha s aad = refl
same_cipher_key ByGcm s aad = refl
same_cipher_key ByGcmSiv s aad = refl

pub has_keys_with : (p : KeyAndNonce) (s : Setting) (aad : List ℕ) → HasKeys p s
    → HasKeys p (setting_of s.suite s.key s.nonce aad)
has_keys_with p s aad h = record {
  lengths = record { key_fits = h.lengths.key_fits; nonce_fits = h.lengths.nonce_fits };
  key_is = h.key_is ∙ same_cipher_key (construction_of s.suite) s aad;
  padded = h.padded;
  nonce_is = h.nonce_is;
}

-- if p has the keys of a message, its key is the one that the cipher of the construction uses
pub chacha_key : (p : KeyAndNonce) (s : Setting) → construction_of s.suite ≡ ByChaCha → length p.key ≤ 32
    → HasKeys p s → p.key ≡ s.key
chacha_key p s by long h =
    sym (take_all 32 p.key long) ∙ ap (λ (n : ℕ). take n p.key) (sym (chacha_key_length s.suite by)) ∙ h.key_is
    ∙ ap (λ (x : Construction). cipher_key x s) by

pub gcm_key : (p : KeyAndNonce) (s : Setting) → construction_of s.suite ≡ ByGcm → HasKeys p s
    → take (key_length s.suite) p.key ≡ s.key
gcm_key p s by h = h.key_is ∙ ap (λ (x : Construction). cipher_key x s) by

pub siv_key : (p : KeyAndNonce) (s : Setting) → construction_of s.suite ≡ ByGcmSiv → HasKeys p s
    → take (key_length s.suite) p.key ≡ encryption_key s.key s.nonce
siv_key p s by h = h.key_is ∙ ap (λ (x : Construction). cipher_key x s) by

-- the authenticated bytes of a ciphertext are as long as the ciphertext
pub length_authenticated : (by : Construction) (mask : ℕ → ℕ) (body : List ℕ)
    → length (authenticated_by by mask body) ≡ length body
length_authenticated ByChaCha mask body = refl
length_authenticated ByGcm mask body = refl
length_authenticated ByGcmSiv mask body = length-masked mask 0 body

-- if the tag is over the ciphertext, the authenticated bytes are the ciphertext
pub one_pass_authenticated : (by : Construction) (mask : ℕ → ℕ) (body : List ℕ) → is_one_pass by ≡ true
    → authenticated_by by mask body ≡ body
one_pass_authenticated ByChaCha mask body one = refl
one_pass_authenticated ByGcm mask body one = refl
one_pass_authenticated ByGcmSiv mask body one = absurd (true≢false (sym one))

-- under AES-GCM-SIV, the authenticated bytes of a ciphertext are its text
pub siv_authenticated : (by : Construction) (mask : ℕ → ℕ) (body : List ℕ) → by ≡ ByGcmSiv
    → authenticated_by by mask body ≡ masked mask 0 body
siv_authenticated by mask body is = ap (λ (x : Construction). authenticated_by x mask body) is

-- the tag over the authenticated bytes of a ciphertext is the tag of its text
tag_authenticated_by : (by : Construction) (s : Setting) (tag body : List ℕ) → construction_of s.suite ≡ by
    → tag_over s.suite s.key s.nonce s.aad (authenticated_by by (mask_of s tag) body)
    ≡ tag_of s (masked (mask_of s tag) 0 body)
tag_authenticated_by ByChaCha s tag body e = sym (body_tag s tag body (ap is_one_pass e))
tag_authenticated_by ByGcm s tag body e = sym (body_tag s tag body (ap is_one_pass e))
tag_authenticated_by ByGcmSiv s tag body e =
    sym (two_pass_tag s (masked (mask_of s tag) 0 body) (ap is_one_pass e))

pub tag_authenticated : (s : Setting) (tag body : List ℕ)
    → tag_over s.suite s.key s.nonce s.aad (authenticated_by (construction_of s.suite) (mask_of s tag) body)
    ≡ tag_of s (masked (mask_of s tag) 0 body)
tag_authenticated s tag body = tag_authenticated_by (construction_of s.suite) s tag body refl

-- a key that serves POLYVAL under one key and nonce serves it under an equal key and nonce
pub serves_under : (own_key own_nonce key nonce hash : List ℕ) → own_key ≡ key → own_nonce ≡ nonce
    → Serves Reversed (authentication_key own_key own_nonce) hash → Serves Reversed (authentication_key key nonce) hash
serves_under own_key own_nonce key nonce hash k n serves =
    subst (λ (h : List ℕ). Serves Reversed h hash) (ap₂ authentication_key k n) serves
