-- Keys that are kept in C's memory: the mark and the bytes.
use Rattle.std.specs.Prelude.{◌≡◌, ℕ, ◌+◌, Bool, true, false, List, [], ◌∷◌, length, take}
use Rattle.octets.specs.declared.fault.Fault.{Fault}
use Rattle.octets.specs.declared.fault.Fault.TheVariants.{KeyLength}
use Rattle.octets.specs.Refusals.{◌unless◌, FirstOf}
use Rattle.aead.specs.declared.suite.Suite.{Suite}
use Rattle.aead.specs.declared.suite.Construction.{Construction}
use Rattle.aead.specs.declared.suite.Construction.TheVariants.{ChaChaPoly as ByChaCha, Gcm as ByGcm, GcmSiv as ByGcmSiv}
use Rattle.aead.specs.Suites.{key_length, suite_number}

-- the mark of a kept key: `cipher` in ASCII, the version of the layout, and the suite's number
abbrev pub key_mark : Suite → ℕ
key_mark suite = 0x6369706865720200 + suite_number suite

-- the key of a suite that the bytes begin with
abbrev pub first_key : Suite → List ℕ → List ℕ
first_key suite bytes = take (key_length suite) bytes

-- whether a construction has AES
abbrev pub has_aes : Construction → Bool
has_aes ByChaCha = false
has_aes ByGcm = true
has_aes ByGcmSiv = true

-- whether a construction has a hash key that depends on the key alone, and not on the nonce
abbrev pub has_hash_key : Construction → Bool
has_hash_key ByChaCha = false
has_hash_key ByGcm = true
has_hash_key ByGcmSiv = false

-- why a key is not kept
abbrev pub KeyRefused : Suite → List ℕ → Fault → Type 0
KeyRefused suite key = FirstOf (KeyLength unless (length key ≡ key_length suite) ∷ [])
