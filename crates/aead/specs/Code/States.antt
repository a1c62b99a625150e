-- The contents of the parts of a message's state.
use Rattle.std.specs.Prelude.{◌≡◌, ℕ, List, [], ◌++◌, length}
use Rattle.octets.specs.Bytes.{pad16}
use Rattle.chacha.specs.declared.stream.ChaStream.{ChaStream}
use Rattle.chacha.specs.Code.States as chacha
use Rattle.poly1305.specs.Poly1305.{poly1305}
use Rattle.poly1305.specs.declared.poly.PolyBy.{PolyBy}
use Rattle.poly1305.specs.declared.word_mul.WordMul.{WordMul}
use Rattle.poly1305.specs.Code.States as poly1305
use Rattle.aes.specs.declared.counter.Ctr.{Ctr}
use Rattle.aes.specs.Counters.{up_be}
use Rattle.aes.specs.Code.Streams.{Holds}
use Rattle.gf128.specs.Ghash.{ghash}
use Rattle.gf128.specs.Polyval.{polyval}
use Rattle.gf128.specs.Orders.{Order}
use Rattle.gf128.specs.declared.hash.BlockHash.{BlockHash}
use Rattle.gf128.specs.Code.States as gf128
use Rattle.aead.specs.declared.authenticator.Authenticator.{Authenticator}
use Rattle.aead.specs.Suites.{Construction, ByChaCha, ByGcm, ByGcmSiv, construction_of}
use Rattle.aead.specs.Sealing.{Setting, Fits, poly_key, hash_key, j0, authentication_key, counter_block}
use Rattle.aead.specs.Sealing.{chacha_authenticated, gcm_authenticated, siv_authenticated}
use Rattle.aead.specs.KeyedPasses.{cipher_key}

-- ---- what the hash and the mask of a message begin with, and what the hash ends in

-- the key of the hash of a message
abbrev pub block_key : Construction → Setting → List ℕ
block_key ByChaCha s = poly_key s.key s.nonce
block_key ByGcm s = hash_key s.key
block_key ByGcmSiv s = authentication_key s.key s.nonce

-- the first counter block of the mask of a message: inc32(J0), or the block that the tag of GCM-SIV gives. ChaCha20 has none.
abbrev pub first_counter : Construction → (nonce tag : List ℕ) → List ℕ
first_counter ByChaCha nonce tag = []
first_counter ByGcm nonce tag = up_be (j0 nonce) 1
first_counter ByGcmSiv nonce tag = counter_block tag

-- the hash of the authenticated bytes of a message, of which the tag is made. That of ChaCha20-Poly1305 is the tag.
abbrev pub digest_by : Construction → Setting → List ℕ → List ℕ
digest_by ByChaCha s m = poly1305 (poly_key s.key s.nonce) (chacha_authenticated s.aad m)
digest_by ByGcm s m = ghash (hash_key s.key) (gcm_authenticated s.aad m)
digest_by ByGcmSiv s m = polyval (authentication_key s.key s.nonce) (siv_authenticated s.aad m)

abbrev pub digest_over : Setting → List ℕ → List ℕ
digest_over s m = digest_by (construction_of s.suite) s m

-- ---- m has made n bytes of the mask of a message under this tag

-- m has made n bytes of the mask of a message of ChaCha20-Poly1305
abbrev pub MadeByChaCha : ChaStream → Setting → List ℕ → ℕ → Type 0
MadeByChaCha m s tag n = (construction_of s.suite ≡ ByChaCha) × chacha.Holds m s.key s.nonce 1 n

-- m has made n bytes of the mask of a message of a construction with AES under this tag. Its counter blocks follow `up`.
abbrev pub MadeByCounter : {C : Type 0} → Construction → (up : List ℕ → ℕ → List ℕ) → Ctr C → Setting → List ℕ → ℕ
    → Type 0
MadeByCounter by up m s tag n =
    (construction_of s.suite ≡ by) × Holds up m (cipher_key by s) (first_counter by s.nonce tag) n

-- ---- h holds the text m under the keys of a message

-- h is a Poly1305 that holds m under the one-time key of a message
abbrev pub HeldByPoly : PolyBy WordMul → Setting → List ℕ → Type 0
HeldByPoly h s m = (construction_of s.suite ≡ ByChaCha) × poly1305.Holds h (poly_key s.key s.nonce) m

-- h is GHASH or POLYVAL, which holds m under the hash key of a message of this construction. Only the fact is stated (`∥ .. ∥₁`).
abbrev pub HeldByBlocks : {M O : Type 0} → Construction → Order → (M → List ℕ) → BlockHash M O → Setting → List ℕ → Type 0
HeldByBlocks by order key_bytes h s m =
    (construction_of s.suite ≡ by) × ∥ gf128.HashHolds order key_bytes h (block_key by s) m ∥₁

-- ---- whole parts

-- a has taken in the associated data and these bytes after it, with a hash of which `held` speaks
pub record HoldsAuthenticator {H : Type 0} (held : H → Setting → List ℕ → Type 0) (a : Authenticator H)
    (s : Setting) (bytes : List ℕ) : Type 0 where
  pub hashed : held a.hash s (pad16 s.aad ++ bytes)
  pub aad_length_is : a.aad_length ≡ length s.aad
  pub length_is : a.length ≡ length bytes
  pub fits : Fits s bytes
