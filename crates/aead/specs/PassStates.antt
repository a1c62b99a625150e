-- The state of a pass over a message, as plain numbers.
use Rattle.std.specs.Prelude.{◌≡◌, ℕ, ◌+◌, ◌-◌, ◌*◌, ◌/◌, ◌%◌, ◌^◌, List, ◌++◌, length, take, drop, replicate}
use Rattle.octets.specs.Bytes.{pad16}
use Rattle.octets.specs.Masked.{masked}
use Rattle.poly1305.specs.Code.States as poly1305
use Rattle.aes.specs.Cipher.{cipher}
use Rattle.gf128.specs.Orders.{Straight, Reversed, Serves}
use Rattle.gf128.specs.Code.States as gf128
use Rattle.aead.specs.declared.pieces.pass_state.PassState.{PassState}
use Rattle.aead.specs.declared.pieces.pass_state.SumWords.{SumWords}
use Rattle.aead.specs.Suites.{Construction, ByChaCha, ByGcm, ByGcmSiv, construction_of}
use Rattle.aead.specs.Sealing.{Setting, Fits, mask_of, poly_key, hash_key, j0, authentication_key}

-- k is the secret that the state of a message holds, 32 bytes: the one-time key of Poly1305; the key of GHASH and the cipher of
-- J0; or the key of a multiplier that serves POLYVAL, and zeros
abbrev pub IsMessageSecret : Construction → List ℕ → Setting → Type 0
IsMessageSecret ByChaCha k s = k ≡ poly_key s.key s.nonce
IsMessageSecret ByGcm k s = (take 16 k ≡ hash_key s.key) × (drop 16 k ≡ cipher s.key (j0 s.nonce))
IsMessageSecret ByGcmSiv k s = Serves Reversed (authentication_key s.key s.nonce) (take 16 k) × (drop 16 k ≡ replicate 16 0)

-- low and high are the sum of the hash over the whole blocks of m: 128 bits, and the bits above them, of which GHASH and POLYVAL
-- have none. For POLYVAL only the fact is stated (`∥ .. ∥₁`).
abbrev pub IsSumOf : Construction → (low high : ℕ) → Setting → List ℕ → Type 0
IsSumOf ByChaCha low high s m = poly1305.IsSum (poly_key s.key s.nonce) m low high
IsSumOf ByGcm low high s m = gf128.IsSum Straight (hash_key s.key) m low × (high ≡ 0)
IsSumOf ByGcmSiv low high s m = ∥ gf128.IsSum Reversed (authentication_key s.key s.nonce) m low ∥₁ × (high ≡ 0)

-- the numbers are the state after the associated data and these bytes: those after the last whole block, with zeros after them,
-- and the sum over the blocks
pub record HoldsNumbers (n : PassState) (s : Setting) (bytes : List ℕ) : Type 0 where
  pub secret_is : IsMessageSecret (construction_of s.suite) n.message_secret s
  pub sum_is : IsSumOf (construction_of s.suite) (n.low + n.middle * 2 ^ 64) n.high s (pad16 s.aad ++ bytes)
  pub rest_is :
      take (n.length % 16) n.rest ≡ drop (length (pad16 s.aad ++ bytes) / 16 * 16) (pad16 s.aad ++ bytes)
  pub padded : drop (n.length % 16) n.rest ≡ replicate (16 - n.length % 16) 0
  pub aad_length_is : n.aad_length ≡ length s.aad
  pub length_is : n.length ≡ length bytes
  pub fits : Fits s bytes

-- the numbers are the state after this text in a suite of one reading: the state of its ciphertext, whose mask does not depend
-- on the tag
abbrev pub HoldsState : PassState → Setting → List ℕ → Type 0
HoldsState n s text = (tag : List ℕ) → HoldsNumbers n s (masked (mask_of s tag) 0 text)

-- n is the sum over the padded associated data, with which a pass begins
abbrev pub IsStart : SumWords → Setting → Type 0
IsStart n s = IsSumOf (construction_of s.suite) (n.low + n.middle * 2 ^ 64) n.high s (pad16 s.aad)

-- the sum that is 0
abbrev pub zero_sum : SumWords
zero_sum = record { low = 0; middle = 0; high = 0 }

-- the state whose numbers are all zeros
abbrev pub zero_state : PassState
zero_state = record {
  message_secret = replicate 32 0;
  rest = replicate 16 0;
  low = 0;
  middle = 0;
  high = 0;
  aad_length = 0;
  length = 0;
}
