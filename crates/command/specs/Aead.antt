-- The results of `seal` and `open` for a suite's name and values given as digits.
use Rattle.std.specs.Prelude.{◌≡◌, ◌≢◌, ℕ, ◌⊎◌, List, length, ⊤}
use Rattle.octets.specs.declared.fault.Fault.{Fault}
use Rattle.octets.specs.declared.fault.Fault.TheVariants.{KeyLength, NonceLength, OutOfMemory}
use Rattle.aead.specs.declared.suite.Suite.{Suite}
use Rattle.aead.specs.Suites.{suite_name, key_length}
use Rattle.aead.specs.Sealing.{Setting, Opened}
use Rattle.aead.specs.Ciphers.{Keyed, setting}
use Rattle.command.specs.declared.failure.Failure.{Failure}
use Rattle.command.specs.declared.failure.Failure.TheVariants.{UnknownSuite, BadHex, Fault as OfFault}
use Rattle.command.specs.declared.words.Inputs.{Inputs}
use Rattle.command.specs.Hex.{Spells, IsBadHex}

-- the word is the name of a suite
pub record IsSuite (word : List ℕ) : Type 0 where
  pub suite : Suite
  pub is : word ≡ suite_name suite

-- the words name a suite and spell a key and a nonce of any length, associated data, and a text or sealed bytes
pub record IsSpelled (words : Inputs) (keyed : Keyed) (nonce aad body : List ℕ) : Type 0 where
  pub suite_is : words.suite.now ≡ suite_name keyed.suite
  pub key_is : Spells words.key.now keyed.key
  pub nonce_is : Spells words.nonce.now nonce
  pub aad_is : Spells words.aad.now aad
  pub body_is : Spells words.body.now body

-- the words spell a call whose key and nonce have the suite's lengths
pub record IsReady (words : Inputs) (keyed : Keyed) (nonce aad body : List ℕ) : Type 0 where
  pub spelled : IsSpelled words keyed nonce aad body
  pub key_long : length keyed.key ≡ key_length keyed.suite
  pub nonce_long : length nonce ≡ 12

-- the words spell the inputs of a call, and P holds of these
pub record IsCalled (words : Inputs) (P : Setting → List ℕ → Type 0) : Type 0 where
  pub keyed : Keyed
  pub nonce : List ℕ
  pub aad : List ℕ
  pub body : List ℕ
  pub ready : IsReady words keyed nonce aad body
  pub is : P (setting keyed nonce aad) body

-- the call returned a fault, and P holds of the inputs and the fault
pub record CallFailed (P : Setting → List ℕ → Fault → Type 0) (words : Inputs) (e : Failure) : Type 0 where
  pub fault : Fault
  pub is : e ≡ OfFault fault
  pub call : IsCalled words (λ s body. P s body fault)

-- sealed is the sealing of the text that is spelled
abbrev pub IsSealed : Inputs → List ℕ → Type 0
IsSealed words sealed = IsCalled words (λ s text. Opened s sealed text)

-- the sealed bytes that are spelled are the sealing of the text
abbrev pub IsOpened : Inputs → List ℕ → Type 0
IsOpened words text = IsCalled words (λ s sealed. Opened s sealed text)

-- the length of the key that is spelled is not that of the suite
pub record HasWrongKey (words : Inputs) : Type 0 where
  pub keyed : Keyed
  pub nonce : List ℕ
  pub aad : List ℕ
  pub body : List ℕ
  pub spelled : IsSpelled words keyed nonce aad body
  pub key_long : length keyed.key ≢ key_length keyed.suite

-- the key has the suite's length, but the nonce that is spelled is not 12 bytes long
pub record HasWrongNonce (words : Inputs) : Type 0 where
  pub keyed : Keyed
  pub nonce : List ℕ
  pub aad : List ℕ
  pub body : List ℕ
  pub spelled : IsSpelled words keyed nonce aad body
  pub key_long : length keyed.key ≡ key_length keyed.suite
  pub nonce_long : length nonce ≢ 12

-- some value is not hexadecimal
abbrev pub HasBadHex : Inputs → Type 0
HasBadHex words = IsBadHex words.key.now
    ⊎ (IsBadHex words.nonce.now ⊎ (IsBadHex words.aad.now ⊎ IsBadHex words.body.now))

-- why the words don't give the inputs of a call
abbrev pub InputsRefused : Inputs → Failure → Type 0
InputsRefused words UnknownSuite = ¬ IsSuite words.suite.now
InputsRefused words BadHex = IsSuite words.suite.now × HasBadHex words
InputsRefused words (OfFault KeyLength) = HasWrongKey words
InputsRefused words (OfFault NonceLength) = HasWrongNonce words
InputsRefused words (OfFault OutOfMemory) = ⊤
InputsRefused words _ = ⊥

-- why the words have no result: they don't give inputs, or the call refuses them for this reason
abbrev pub IsRefused : (Setting → List ℕ → Fault → Type 0) → Inputs → Failure → Type 0
IsRefused refused words e = InputsRefused words e ⊎ CallFailed refused words e
