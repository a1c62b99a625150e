-- Facts on which the rules of AES-GCM and AES-GCM-SIV rest.
use mathlib.Core.Logic.{∥∥₁_elim}
use Rattle.std.specs.Prelude.{◌≡◌, ℕ, ◌*◌, ◌^◌, ◌<◌, List, ◌++◌, length, take}
use Rattle.std.proofs.Common.{refl}
use Rattle.std.proofs.Props.{props}
use Rattle.octets.specs.Bytes.{pad16}
use Rattle.gf128.specs.Orders.{Order, Straight, Reversed, Serves, hash_by, two_numbers}
use Rattle.gf128.specs.Code.States.{IsSum}
use Rattle.aead.specs.Suites.{Construction, ByGcm, ByGcmSiv, construction_of}
use Rattle.aead.specs.Sealing.{Setting, Fits}
use Rattle.aead.specs.PassStates.{IsMessageSecret, IsSumOf}
use Rattle.aead.specs.Code.States.{block_key, digest_over}

-- the lengths of a message that fits are below 2^61, and the hash that ends with both in bits is that of the message
abbrev pub EndsInLengths : Order → Construction → Type 0
EndsInLengths order by = (s : Setting) (m : List ℕ) → construction_of s.suite ≡ by → Fits s m
    → (length s.aad < 2 ^ 61) × (length m < 2 ^ 61) × (hash_by order (block_key by s)
    (pad16 (pad16 s.aad ++ m) ++ two_numbers order (8 * length s.aad) (8 * length m)) ≡ digest_over s m)

-- the hash key that a state holds begins with a key of the multiplier
pub gcm_serves : (s : Setting) (k : List ℕ) → IsMessageSecret ByGcm k s → Serves Straight (block_key ByGcm s) (take 16 k)
gcm_serves s k h = h.0

pub siv_serves : (s : Setting) (k : List ℕ) → IsMessageSecret ByGcmSiv k s
    → Serves Reversed (block_key ByGcmSiv s) (take 16 k)
siv_serves s k h = h.0

-- the sum that a state holds is the sum of the hash, and the other way round
pub gcm_sums : (s : Setting) (m : List ℕ) (low : ℕ) → ∥ IsSum Straight (block_key ByGcm s) m low ∥₁
    → IsSumOf ByGcm low 0 s m
gcm_sums s m low h = (∥∥₁_elim h (hlevel props) (λ x. x), refl)

pub siv_sums : (s : Setting) (m : List ℕ) (low : ℕ) → ∥ IsSum Reversed (block_key ByGcmSiv s) m low ∥₁
    → IsSumOf ByGcmSiv low 0 s m
siv_sums s m low h = (h, refl)

pub gcm_is_sum : (s : Setting) (m : List ℕ) (low high : ℕ) → IsSumOf ByGcm low high s m
    → ∥ IsSum Straight (block_key ByGcm s) m low ∥₁
gcm_is_sum s m low high h = ∣ h.0 ∣₁

pub siv_is_sum : (s : Setting) (m : List ℕ) (low high : ℕ) → IsSumOf ByGcmSiv low high s m
    → ∥ IsSum Reversed (block_key ByGcmSiv s) m low ∥₁
siv_is_sum s m low high h = h.0
