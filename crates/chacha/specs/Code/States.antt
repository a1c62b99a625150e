-- The ChaCha20 key stream, XORed into a text in pieces (RFC 8439, 2.4).
use Rattle.std.specs.Prelude.{◌≡◌, ℕ, ◌+◌, ◌-◌, ◌*◌, ◌^◌, ◌<◌, ◌≤◌, List, length}
use Rattle.octets.specs.Masked.{masked}
use Rattle.octets.specs.declared.fault.Fault.{Fault}
use Rattle.octets.specs.declared.fault.Fault.TheVariants.{StreamEnd}
use Rattle.chacha.specs.Stream.{key_stream_byte, HasByte}
use Rattle.chacha.specs.declared.stream.ChaStream.{ChaStream}

-- s is at byte `made` of the key stream from counter first on
pub record Holds (s : ChaStream) (key nonce : List ℕ) (first made : ℕ) : Type 0 where
  pub key_is : s.key ≡ key
  pub nonce_is : s.nonce ≡ nonce
  pub offset_is : s.offset ≡ first * 64 + made

-- the next bytes of the key stream exist, and were XORed in
pub record Applied (after : ChaStream) (key nonce : List ℕ) (first made : ℕ) (was now : List ℕ) : Type 0
  where
    pub holds : Holds after key nonce first (made + length was)
    pub there : (i : ℕ) → i < made + length was → HasByte first i
    pub within : first * 64 + made + length was ≤ 2 ^ 38
    pub masked_is : now ≡ masked (key_stream_byte key nonce first) made was

-- the last of the next bytes of the key stream does not exist, and nothing was changed
pub record Refused (fault : Fault) (before after : ChaStream) (first made : ℕ) (was now : List ℕ) : Type 0
  where
    pub fault_is : fault ≡ StreamEnd
    pub missing : 0 < length was × (HasByte first (made + length was - 1) → ⊥)
    pub past_end : 2 ^ 38 < first * 64 + made + length was
    pub stream_unchanged : after ≡ before
    pub bytes_unchanged : now ≡ was

-- a call XORs in the next bytes of the key stream, if they all exist
abbrev pub Did : ChaStream → ChaStream → List ℕ → List ℕ → Type 0
Did before after was now =
    (key nonce : List ℕ) (first made : ℕ) → Holds before key nonce first made
    → first * 64 + made + length was ≤ 2 ^ 38 → Applied after key nonce first made was now
