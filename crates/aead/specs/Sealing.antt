-- Sealing, and the text that a sealing opens to (RFC 8439, 2.8; SP 800-38D, 7; RFC 8452, 4 and 5).
use Rattle.std.specs.Prelude.{◌≡◌, ℕ, ◌+◌, ◌*◌, ◌/◌, ◌<◌, ◌≤◌, List, [], ◌∷◌, ◌++◌, take, drop, get_or}
use Rattle.std.specs.Prelude.{slice_set, length, replicate, flat_map, bit_and, bit_or}
use Rattle.std.specs.List.{range_with_len}
use Rattle.std.specs.Int.{w32, w64, to_le_bytes, to_be_bytes}
use Rattle.octets.specs.Bytes.{xor_bytes, pad16}
use Rattle.octets.specs.Masked.{masked}
use Rattle.chacha.specs.Block.{block}
use Rattle.chacha.specs.Stream.{key_stream_byte}
use Rattle.poly1305.specs.Poly1305.{poly1305}
use Rattle.aes.specs.Cipher.{cipher}
use Rattle.aes.specs.Counters.{up_be, up_le, counter_byte}
use Rattle.gf128.specs.Ghash.{ghash}
use Rattle.gf128.specs.Polyval.{polyval}
use Rattle.aead.specs.declared.suite.Suite.{Suite}
use Rattle.aead.specs.Suites.{Construction, ByChaCha, ByGcm, ByGcmSiv, construction_of, text_limit, aad_limit}

-- ---- ChaCha20-Poly1305 (RFC 8439, 2.8)

-- the key of the one-time authenticator: the first 32 bytes of the block with counter 0 (2.6)
unfoldable pub poly_key : List ℕ → List ℕ → List ℕ
poly_key key nonce = take 32 (block key 0 nonce)

-- the authenticated bytes: the padded associated data, the padded ciphertext, and their lengths in bytes
unfoldable pub chacha_authenticated : List ℕ → List ℕ → List ℕ
chacha_authenticated aad c =
    pad16 aad ++ (pad16 c ++ (to_le_bytes w64 (length aad) ++ to_le_bytes w64 (length c)))

-- ---- GCM (SP 800-38D, 7)

-- H, the key of GHASH: the cipher of sixteen zero bytes
unfoldable pub hash_key : List ℕ → List ℕ
hash_key key = cipher key (replicate 16 0)

-- J0, the block whose cipher masks the tag: the nonce and a counter of 1
unfoldable pub j0 : List ℕ → List ℕ
j0 nonce = nonce ++ (0 ∷ 0 ∷ 0 ∷ 1 ∷ [])

-- the authenticated bytes: the padded associated data, the padded ciphertext, and their lengths in bits
unfoldable pub gcm_authenticated : List ℕ → List ℕ → List ℕ
gcm_authenticated aad c =
    pad16 aad ++ (pad16 c ++ (to_be_bytes w64 (8 * length aad) ++ to_be_bytes w64 (8 * length c)))

-- ---- GCM-SIV (RFC 8452, 4)

-- part i of the derived keys: the first half of the cipher of a block, which is i in four bytes and then the nonce
unfoldable pub key_part : List ℕ → List ℕ → ℕ → List ℕ
key_part key nonce i = take 8 (cipher key (to_le_bytes w32 i ++ nonce))

-- the message-authentication key: parts 0 and 1
unfoldable pub authentication_key : List ℕ → List ℕ → List ℕ
authentication_key key nonce = key_part key nonce 0 ++ key_part key nonce 1

-- the message-encryption key: parts 2 and 3, and, if the key has 32 bytes, also parts 4 and 5
unfoldable pub encryption_key : List ℕ → List ℕ → List ℕ
encryption_key key nonce = flat_map (λ i. key_part key nonce (2 + i)) (range_with_len 0 (length key / 8))

-- the authenticated bytes: the padded associated data, the padded text, and their lengths in bits
unfoldable pub siv_authenticated : List ℕ → List ℕ → List ℕ
siv_authenticated aad text =
    pad16 aad ++ (pad16 text ++ (to_le_bytes w64 (8 * length aad) ++ to_le_bytes w64 (8 * length text)))

-- the block b with its byte 15 changed by f
unfoldable pub last_byte_by : (ℕ → ℕ) → List ℕ → List ℕ
last_byte_by f b = slice_set b 15 (f (get_or b 15 0))

-- the block whose cipher is the tag: s with the nonce XORed into its first 12 bytes, and the top bit of
-- its last byte cleared
unfoldable pub tag_block : List ℕ → List ℕ → List ℕ
tag_block s nonce = last_byte_by (λ x. bit_and x 0x7f) (xor_bytes (take 12 s) nonce ++ drop 12 s)

-- the first counter block: the tag with the top bit of its last byte set
unfoldable pub counter_block : List ℕ → List ℕ
counter_block tag = last_byte_by (λ x. bit_or x 0x80) tag

-- ---- all suites

-- byte i of the mask of ChaCha20-Poly1305, whatever the tag: the key stream from counter 1 on
abbrev pub chacha_mask : List ℕ → List ℕ → ℕ → ℕ
chacha_mask key nonce = key_stream_byte key nonce 1

-- byte i of the mask of GCM, whatever the tag: the counter stream from inc32(J0) on
abbrev pub gcm_mask : List ℕ → List ℕ → ℕ → ℕ
gcm_mask key nonce = counter_byte up_be key (up_be (j0 nonce) 1)

-- byte i of the mask that the text is XORed with. Only the mask of GCM-SIV depends on the tag.
unfoldable pub mask_by : Construction → List ℕ → List ℕ → List ℕ → ℕ → ℕ
mask_by ByChaCha key nonce tag = chacha_mask key nonce
mask_by ByGcm key nonce tag = gcm_mask key nonce
mask_by ByGcmSiv key nonce tag = counter_byte up_le (encryption_key key nonce) (counter_block tag)

-- the mask of a suite under a key, a nonce and a tag
unfoldable pub mask : Suite → List ℕ → List ℕ → List ℕ → ℕ → ℕ
mask suite = mask_by (construction_of suite)

-- the tag over the associated data and the ciphertext, or, for GCM-SIV, the text
unfoldable pub tag_over_by : Construction → List ℕ → List ℕ → List ℕ → List ℕ → List ℕ
tag_over_by ByChaCha key nonce aad c = poly1305 (poly_key key nonce) (chacha_authenticated aad c)
tag_over_by ByGcm key nonce aad c =
    xor_bytes (cipher key (j0 nonce)) (ghash (hash_key key) (gcm_authenticated aad c))
tag_over_by ByGcmSiv key nonce aad text =
    cipher (encryption_key key nonce)
    (tag_block (polyval (authentication_key key nonce) (siv_authenticated aad text)) nonce)

-- the tag of a suite over the associated data and the ciphertext, or, for GCM-SIV, the text
unfoldable pub tag_over : Suite → List ℕ → List ℕ → List ℕ → List ℕ → List ℕ
tag_over suite = tag_over_by (construction_of suite)

-- the tag of a message with this text under a construction
unfoldable pub tag_by : Construction → List ℕ → List ℕ → List ℕ → List ℕ → List ℕ
tag_by ByChaCha key nonce aad text =
    tag_over_by ByChaCha key nonce aad (masked (chacha_mask key nonce) 0 text)
tag_by ByGcm key nonce aad text = tag_over_by ByGcm key nonce aad (masked (gcm_mask key nonce) 0 text)
tag_by ByGcmSiv key nonce aad text = tag_over_by ByGcmSiv key nonce aad text

-- the suite, key, nonce and associated data of a message
pub record Setting : Type 0 where
  pub suite : Suite
  pub key : List ℕ
  pub nonce : List ℕ
  pub aad : List ℕ

-- the mask of a message with this tag
abbrev pub mask_of : Setting → List ℕ → ℕ → ℕ
mask_of s tag = mask s.suite s.key s.nonce tag

-- the tag of a message with this text
unfoldable pub tag_of : Setting → List ℕ → List ℕ
tag_of s text = tag_by (construction_of s.suite) s.key s.nonce s.aad text

-- the sealing of a text: the ciphertext, which is the text XORed with the mask, and then the tag
unfoldable pub sealing : Setting → List ℕ → List ℕ
sealing s text = masked (mask_of s (tag_of s text)) 0 text ++ tag_of s text

-- the associated data and the text have lengths that the suite allows
pub record Fits (s : Setting) (text : List ℕ) : Type 0 where
  pub aad_fits : length s.aad ≤ aad_limit s.suite
  pub text_fits : length text ≤ text_limit s.suite

-- sealed is the sealing of the text
pub record Opened (s : Setting) (sealed : List ℕ) (text : List ℕ) : Type 0 where
  pub fits : Fits s text
  pub bytes : (i : ℕ) → get_or text i 0 < 256
  pub is : sealed ≡ sealing s text

-- sealed is a valid sealing: it is the sealing of some text
abbrev pub IsSealing : Setting → List ℕ → Type 0
IsSealing s sealed = (text : List ℕ) × Opened s sealed text

-- sealed is not a valid sealing: there is no text whose sealing it is
abbrev pub IsNoSealing : Setting → List ℕ → Type 0
IsNoSealing s sealed = ¬ IsSealing s sealed

-- a sealing has only one text, which is sixteen bytes shorter
abbrev pub HasOneText : Type 0
HasOneText = (s : Setting) (sealed text : List ℕ) → Opened s sealed text
    → (length sealed ≡ length text + 16) × ((other : List ℕ) → Opened s sealed other → other ≡ text)
