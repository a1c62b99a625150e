-- The formats, their suites, and the fields of a suite's records.
use Rattle.std.specs.Prelude.{ℕ, List, [], ◌∷◌, ◌++◌, Bool, true, false, Option, Some, None, if◌then◌else◌}
use Rattle.std.specs.Prelude.{codes}
use Rattle.std.specs.List.{find}
use Rattle.std.specs.Str.{bytes_eq}
use Rattle.aead.specs.declared.suite.Suite.TheVariants.{ChaCha20Poly1305, Aes128Gcm, Aes192Gcm, Aes256Gcm}
use Rattle.aead.specs.declared.suite.Suite.TheVariants.{Aes128GcmSiv, Aes256GcmSiv}
use Rattle.aead.specs.Suites as ciphers
use Rattle.vectors.specs.declared.suite.Format.{Format}
use Rattle.vectors.specs.declared.suite.Format.TheVariants.{One, Two}
use Rattle.vectors.specs.declared.suite.Aes.{Aes}
use Rattle.vectors.specs.declared.suite.Aes.TheVariants.{Bits128, Bits192, Bits256}
use Rattle.vectors.specs.declared.suite.Algorithm.{Algorithm}
use Rattle.vectors.specs.declared.suite.Algorithm.TheVariants.{Aead, Wrap, WrapPad}
use Rattle.vectors.specs.declared.suite.Field.{Field}
use Rattle.vectors.specs.declared.suite.Field.TheVariants.{Key, Nonce, Aad, Sealed}

-- the format that a format line names
abbrev pub format_named : List ℕ → Option Format
format_named name = if bytes_eq name (codes "1") then Some One else if bytes_eq name (codes "2") then Some
    Two else None

-- ---- suites

-- the name of a suite
abbrev pub suite_name : Algorithm → List ℕ
suite_name (Aead suite) = ciphers.suite_name suite
suite_name (Wrap Bits128) = codes "aes-128-wrap"
suite_name (Wrap Bits192) = codes "aes-192-wrap"
suite_name (Wrap Bits256) = codes "aes-256-wrap"
suite_name (WrapPad Bits128) = codes "aes-128-wrap-pad"
suite_name (WrapPad Bits192) = codes "aes-192-wrap-pad"
suite_name (WrapPad Bits256) = codes "aes-256-wrap-pad"

-- the suites of both formats
abbrev pub common_suites : List Algorithm
common_suites =
    Aead ChaCha20Poly1305 ∷ Aead Aes128Gcm ∷ Aead Aes192Gcm ∷ Aead Aes256Gcm ∷ Aead Aes128GcmSiv
    ∷ Aead Aes256GcmSiv
    ∷ Wrap Bits128 ∷ Wrap Bits192 ∷ Wrap Bits256 ∷ []

-- the suites of key wrapping with padding
abbrev pub padded_suites : List Algorithm
padded_suites = WrapPad Bits128 ∷ WrapPad Bits192 ∷ WrapPad Bits256 ∷ []

-- the suites of a format
abbrev pub suites : Format → List Algorithm
suites One = common_suites
suites Two = common_suites ++ padded_suites

-- the suite of a format with that name
unfoldable pub suite_named : Format → List ℕ → Option Algorithm
suite_named format name = find (λ s. bytes_eq name (suite_name s)) (suites format)

-- whether a suite is for authenticated encryption
abbrev pub is_aead : Algorithm → Bool
is_aead (Aead suite) = true
is_aead (Wrap aes) = false
is_aead (WrapPad aes) = false

-- the number of bytes in a key of AES
abbrev pub aes_key_length : Aes → ℕ
aes_key_length Bits128 = 16
aes_key_length Bits192 = 24
aes_key_length Bits256 = 32

-- the number of bytes in a suite's key
abbrev pub suite_key_length : Algorithm → ℕ
suite_key_length (Aead suite) = ciphers.key_length suite
suite_key_length (Wrap aes) = aes_key_length aes
suite_key_length (WrapPad aes) = aes_key_length aes

-- ---- the lines of a record between its suite and its end

-- the fields, in the order of their lines
abbrev pub fields_of : Algorithm → List Field
fields_of (Aead suite) = Key ∷ Nonce ∷ Aad ∷ Sealed ∷ []
fields_of (Wrap aes) = Key ∷ Sealed ∷ []
fields_of (WrapPad aes) = Key ∷ Sealed ∷ []

-- the name of a field
abbrev pub field_name : Field → List ℕ
field_name Key = codes "key"
field_name Nonce = codes "nonce"
field_name Aad = codes "aad"
field_name Sealed = codes "sealed"

-- the length of a field in bytes; associated data and sealed bytes may have any length
abbrev pub field_length : Algorithm → Field → Option ℕ
field_length suite Key = Some (suite_key_length suite)
field_length suite Nonce = Some 12
field_length suite Aad = None
field_length suite Sealed = None
