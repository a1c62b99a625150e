-- The suites: their names, numbers, key lengths and limits (RFC 8439, 2.8; SP 800-38D, 5.2.1.1; RFC 8452, 6).
use Rattle.std.specs.Prelude.{ℕ, ◌-◌, ◌^◌, Bool, true, false, List, codes}
use Rattle.aead.specs.declared.suite.Suite.{Suite}
use Rattle.aead.specs.declared.suite.Suite.TheVariants.{ChaCha20Poly1305, Aes128Gcm, Aes192Gcm, Aes256Gcm}
use Rattle.aead.specs.declared.suite.Suite.TheVariants.{Aes128GcmSiv, Aes256GcmSiv}
-- the constructions: a suite is a construction with a key length
pub use Rattle.aead.specs.declared.suite.Construction.{Construction}
pub use Rattle.aead.specs.declared.suite.Construction.TheVariants.{ChaChaPoly as ByChaCha, Gcm as ByGcm}
pub use Rattle.aead.specs.declared.suite.Construction.TheVariants.{GcmSiv as ByGcmSiv}

-- the construction of a suite
abbrev pub construction_of : Suite → Construction
construction_of ChaCha20Poly1305 = ByChaCha
construction_of Aes128Gcm = ByGcm
construction_of Aes192Gcm = ByGcm
construction_of Aes256Gcm = ByGcm
construction_of Aes128GcmSiv = ByGcmSiv
construction_of Aes256GcmSiv = ByGcmSiv

-- the name of a suite, in bytes
abbrev pub suite_name : Suite → List ℕ
suite_name ChaCha20Poly1305 = codes "chacha20-poly1305"
suite_name Aes128Gcm = codes "aes-128-gcm"
suite_name Aes192Gcm = codes "aes-192-gcm"
suite_name Aes256Gcm = codes "aes-256-gcm"
suite_name Aes128GcmSiv = codes "aes-128-gcm-siv"
suite_name Aes256GcmSiv = codes "aes-256-gcm-siv"

-- the number of a suite
abbrev pub suite_number : Suite → ℕ
suite_number ChaCha20Poly1305 = 1
suite_number Aes128Gcm = 2
suite_number Aes192Gcm = 3
suite_number Aes256Gcm = 4
suite_number Aes128GcmSiv = 5
suite_number Aes256GcmSiv = 6

-- the length of a suite's key in bytes
abbrev pub key_length : Suite → ℕ
key_length ChaCha20Poly1305 = 32
key_length Aes128Gcm = 16
key_length Aes192Gcm = 24
key_length Aes256Gcm = 32
key_length Aes128GcmSiv = 16
key_length Aes256GcmSiv = 32

-- whether the tag is over the ciphertext; otherwise it is over the text
abbrev pub is_one_pass : Construction → Bool
is_one_pass ByChaCha = true
is_one_pass ByGcm = true
is_one_pass ByGcmSiv = false

-- the greatest length of a text in bytes
abbrev pub text_limit_by : Construction → ℕ
text_limit_by ByChaCha = 2 ^ 38 - 64
text_limit_by ByGcm = 2 ^ 36 - 32
text_limit_by ByGcmSiv = 2 ^ 36

-- the greatest length of associated data in bytes
abbrev pub aad_limit_by : Construction → ℕ
aad_limit_by ByChaCha = 2 ^ 64 - 1
aad_limit_by ByGcm = 2 ^ 61 - 1
aad_limit_by ByGcmSiv = 2 ^ 36

-- the greatest length of a text of a suite in bytes
abbrev pub text_limit : Suite → ℕ
text_limit suite = text_limit_by (construction_of suite)

-- the greatest length of associated data of a suite in bytes
abbrev pub aad_limit : Suite → ℕ
aad_limit suite = aad_limit_by (construction_of suite)
