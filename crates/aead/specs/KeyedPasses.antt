-- The key and the nonce of a message, as plain numbers.
use Rattle.std.specs.Prelude.{◌≡◌, ℕ, ◌-◌, ◌≤◌, List, [], ◌∷◌, length, take, drop, replicate}
use Rattle.octets.specs.Masked.{masked}
use Rattle.aes.specs.declared.counter.KnownBlock.{KnownBlock}
use Rattle.aes.specs.Code.Streams.{KnowsCipher}
use Rattle.octets.specs.declared.fault.Fault.{Fault}
use Rattle.octets.specs.declared.fault.Fault.TheVariants.{KeyLength, NonceLength, AadTooLong}
use Rattle.octets.specs.Refusals.{◌unless◌, FirstOf}
use Rattle.aead.specs.declared.suite.Suite.{Suite}
use Rattle.aead.specs.declared.pieces.key_and_nonce.KeyAndNonce.{KeyAndNonce}
use Rattle.aead.specs.declared.pieces.pass_state.PassState.{PassState}
use Rattle.aead.specs.Suites.{Construction, ByChaCha, ByGcm, ByGcmSiv, construction_of, key_length, aad_limit}
use Rattle.aead.specs.Sealing.{Setting, encryption_key}
use Rattle.aead.specs.PassStates.{HoldsNumbers}

-- the setting of a message, from a suite and the bytes that the caller hands in
abbrev pub setting_of : Suite → (key nonce aad : List ℕ) → Setting
setting_of suite key nonce aad = record { suite = suite; key = key; nonce = nonce; aad = aad }

-- the key has the length that the suite requires, and the nonce is 12 bytes long
pub record HasLengths (s : Setting) : Type 0 where
  pub key_fits : length s.key ≡ key_length s.suite
  pub nonce_fits : length s.nonce ≡ 12

-- why a pass over a message is not begun
abbrev pub BeginRefused : Setting → Fault → Type 0
BeginRefused s = FirstOf (KeyLength unless (length s.key ≡ key_length s.suite)
    ∷ NonceLength unless (length s.nonce ≡ 12) ∷ AadTooLong unless (length s.aad ≤ aad_limit s.suite) ∷ [])

-- the key that the cipher of a message uses: for AES-GCM-SIV it is the derived message-encryption key
abbrev pub cipher_key : Construction → Setting → List ℕ
cipher_key ByChaCha s = s.key
cipher_key ByGcm s = s.key
cipher_key ByGcmSiv s = encryption_key s.key s.nonce

-- the block that b knows has its cipher under the key of the cipher of a message
abbrev pub KnowsCipherOf : KnownBlock → Setting → Type 0
KnowsCipherOf b s = KnowsCipher b (cipher_key (construction_of s.suite) s)

-- a key and a nonce that are all zeros
abbrev pub zero_keys : KeyAndNonce
zero_keys = record { key = replicate 32 0; nonce = replicate 12 0 }

-- p holds the key that the cipher of a message uses, with zeros after it, and the nonce of the message
pub record HasKeys (p : KeyAndNonce) (s : Setting) : Type 0 where
  pub lengths : HasLengths s
  pub key_is : take (key_length s.suite) p.key ≡ cipher_key (construction_of s.suite) s
  pub padded : drop (key_length s.suite) p.key ≡ replicate (32 - key_length s.suite) 0
  pub nonce_is : p.nonce ≡ s.nonce

-- p has the keys of a message, and n is its initial state
abbrev pub HasBegun : KeyAndNonce → PassState → Setting → Type 0
HasBegun p n s = HasKeys p s × HoldsNumbers n s []

-- the bytes of a ciphertext that are authenticated: the ciphertext itself, or for AES-GCM-SIV the text that the mask gives
abbrev pub authenticated_by : Construction → (mask : ℕ → ℕ) → List ℕ → List ℕ
authenticated_by ByChaCha mask body = body
authenticated_by ByGcm mask body = body
authenticated_by ByGcmSiv mask body = masked mask 0 body
