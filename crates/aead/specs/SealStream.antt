-- The results of the sealing engines, and the bytes that they write.
use Rattle.std.specs.Prelude.{◌≡◌, ℕ, ◌<◌, ◌⊎◌, nat_le, List, [], length, take, Option, Some, Result}
use Rattle.std.specs.Prelude.{Ok, Err, MatchResult, IfSome, if◌then◌else◌}
use Rattle.std.specs.Io.KnownBytes.{Appends}
use Rattle.octets.specs.declared.fault.Fault.{Fault}
use Rattle.octets.specs.declared.fault.Fault.TheVariants.{Read, Write}
use Rattle.octets.specs.Device.{Failed}
use Rattle.octets.specs.Masked.{masked}
use Rattle.aead.specs.Suites.{text_limit, aad_limit}
use Rattle.aead.specs.Sealing.{Setting, Fits, mask_of, tag_of, sealing}
use Rattle.aead.specs.Refusals.{SealRefused}
use Rattle.aead.specs.Verdict.{IsBeginning}

-- the bytes that may be written for a text whose tag is over the ciphertext: its sealing, or, if the text is past the limit, the
-- ciphertext of its first bytes up to the limit
unfoldable pub may_seal : Setting → List ℕ → List ℕ
may_seal s x =
    if nat_le (length x) (text_limit s.suite)
    then sealing s x
    else masked (mask_of s (tag_of s x)) 0 (take (text_limit s.suite) x)

-- the result that a text determines: `Ok` if the lengths fit, otherwise why it is refused
abbrev pub SealVerdict : Setting → List ℕ → Result (Unit {0}) Fault → Type 0
SealVerdict s x r = MatchResult r (λ _. Fits s x) (λ e. SealRefused s x e)

-- the bytes written for a text, and the result
pub record SealsStream (s : Setting) (x given : List ℕ) (read read' wrote wrote' : ℕ)
    (r : Result (Unit {0}) Fault) : Type 0 where
  -- nothing is written if the associated data is past its limit
  pub early : aad_limit s.suite < length s.aad → given ≡ []
  -- the bytes written are a beginning of those that may be written
  pub beginning : IsBeginning given (may_seal s x)
  -- at Ok the bytes written are the sealing
  pub whole : r ≡ Ok tt → given ≡ sealing s x
  -- the result is the verdict and no device failed, or the result names the device that failed
  pub answer : (SealVerdict s x r × (read' ≡ read) × (wrote' ≡ wrote)) ⊎ ((r ≡ Err Read) × Failed read read')
      ⊎ ((r ≡ Err Write) × Failed wrote wrote')

-- if the bytes of the reading and of the outlet are known, P holds of the reading's bytes and of the bytes written
abbrev pub IfTextKnown : Option (List ℕ) → Option (List ℕ) → Option (List ℕ) → (List ℕ → List ℕ → Type 0)
    → Type 0
IfTextKnown text taken taken' P =
    IfSome text (λ x. IfSome taken
    (λ before. (given : List ℕ) × Appends (Some before) taken' given × P x given))
