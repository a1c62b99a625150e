-- `seal` and `open` on the inputs that their words give.
use Rattle.std.proofs.Common.{◌≡◌, ◌≢◌, ℕ, List, length}
use Rattle.octets.specs.declared.fault.Fault.{Fault}
use Rattle.octets.specs.declared.fault.Fault.TheVariants.{KeyLength, NonceLength}
use Rattle.aead.specs.Suites.{key_length}
use Rattle.aead.specs.Ciphers.{Keyed}
use Rattle.command.specs.declared.failure.Failure.TheVariants.{Fault as OfFault}
use Rattle.command.specs.declared.words.Inputs.{Inputs}
use Rattle.command.specs.Aead.{IsSpelled, InputsRefused}

-- a key of another length than the suite's is refused
pub wrong_key : (words : Inputs) (keyed : Keyed) (nonce aad body : List ℕ) (f : Fault)
    → IsSpelled words keyed nonce aad body → length keyed.key ≢ key_length keyed.suite → f ≡ KeyLength
    → InputsRefused words (OfFault f)
wrong_key words keyed nonce aad body f spelled long at_fault = rw at_fault (record {
  keyed = keyed;
  nonce = nonce;
  aad = aad;
  body = body;
  spelled = spelled;
  key_long = long;
})

-- a nonce of another length than 12 bytes is refused
pub wrong_nonce : (words : Inputs) (keyed : Keyed) (nonce aad body : List ℕ) (f : Fault)
    → IsSpelled words keyed nonce aad body → length keyed.key ≡ key_length keyed.suite → length nonce ≢ 12
    → f ≡ NonceLength → InputsRefused words (OfFault f)
wrong_nonce words keyed nonce aad body f spelled key_long nonce_long at_fault = rw at_fault (record {
  keyed = keyed;
  nonce = nonce;
  aad = aad;
  body = body;
  spelled = spelled;
  key_long = key_long;
  nonce_long = nonce_long;
})
