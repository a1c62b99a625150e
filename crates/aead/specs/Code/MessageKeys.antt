-- The keys of a message, as the steps of a pass find them.
use Rattle.std.specs.Prelude.{◌≡◌, ℕ, List, take}
use Rattle.gf128.specs.Orders.{Order, Straight, Reversed, Serves}
use Rattle.gf128.specs.Code.States.{key_of}
use Rattle.aead.specs.declared.derived_keys.DerivedKeys.{DerivedKeys}
use Rattle.aead.specs.declared.pieces.keys.LentMul.{LentMul}
use Rattle.aead.specs.declared.pieces.keys.LentMul.TheVariants.{Table, Wide}
use Rattle.aead.specs.declared.pieces.keys.AesKeys.{AesKeys}
use Rattle.aead.specs.declared.pieces.keys.AesKeys.TheVariants.{Expanded, Bytes}
use Rattle.aead.specs.declared.pieces.keys.CipherKeys.{CipherKeys}
use Rattle.aead.specs.declared.pieces.keys.CipherKeys.TheVariants.{ChaCha, Gcm, Siv}
use Rattle.aead.specs.declared.pieces.keys.MessageKeys.{MessageKeys}
use Rattle.aead.specs.Suites.{Construction, ByChaCha, ByGcm, ByGcmSiv, construction_of, key_length}
use Rattle.aead.specs.Sealing.{Setting, authentication_key, encryption_key}
use Rattle.aead.specs.KeyedPasses.{cipher_key}
use Rattle.aead.specs.Code.States.{block_key}

-- the construction that the keys are for
abbrev pub construction_by : CipherKeys → Construction
construction_by (ChaCha key) = ByChaCha
construction_by (Gcm keys) = ByGcm
construction_by (Siv keys) = ByGcmSiv

-- the key of a multiplier, as a block
abbrev pub lent_key : LentMul → List ℕ
lent_key (Table m) = key_of m.now
lent_key (Wide m) = key_of m.now.first

-- the AES keys of a message: the schedule of the key that its text is encrypted with, and a multiplier that serves its hash; or the
-- key's bytes
abbrev pub AreAesKeys : Construction → Order → AesKeys → Setting → Type 0
AreAesKeys by order (Expanded k) s = (k.key.now ≡ cipher_key by s) × Serves order (block_key by s) (lent_key k.multiplier)
AreAesKeys by order (Bytes b) s = take (key_length b.suite) b.key.now ≡ cipher_key by s

-- the keys of the cipher are those of a message, for each construction
abbrev pub AreCipherKeys : CipherKeys → Setting → Type 0
AreCipherKeys (ChaCha key) s = key.now ≡ s.key
AreCipherKeys (Gcm keys) s = AreAesKeys ByGcm Straight keys s
AreCipherKeys (Siv keys) s = AreAesKeys ByGcmSiv Reversed keys s

-- k holds the keys of a message, and its nonce
pub record AreKeysOf (k : MessageKeys) (s : Setting) : Type 0 where
  pub by : construction_of s.suite ≡ construction_by k.cipher
  pub cipher : AreCipherKeys k.cipher s
  pub nonce_is : k.nonce ≡ s.nonce

-- k is derived for a message of AES-GCM-SIV
pub record AreDerived (k : DerivedKeys) (s : Setting) : Type 0 where
  pub by : construction_of s.suite ≡ ByGcmSiv
  pub encryption_is : k.encryption ≡ encryption_key s.key s.nonce
  pub multiplier_key_is : Serves Reversed (authentication_key s.key s.nonce) k.multiplier_key
