-- How a reading compares with the measured length and tag.
use Rattle.std.specs.Prelude.{◌≡◌, ℕ, ◌-◌, ◌≤◌, ◌<◌, List, [], Bool, true, length, take, drop, Option, Result}
use Rattle.std.specs.Prelude.{MatchResult}
use Rattle.std.specs.Io.KnownBytes.{Consumes, Appends, IsAtEnd}
use Rattle.std.specs.Str.{bytes_eq}
use Rattle.octets.specs.declared.fault.Fault.{Fault}
use Rattle.octets.specs.Masked.{masked}
use Rattle.aead.specs.declared.engine.passes.Finding.{Finding}
use Rattle.aead.specs.declared.engine.passes.Finding.TheVariants.{Differs, Unsealed, Sealed}
use Rattle.aead.specs.Sealing.{Setting, Fits, Opened, IsNoSealing, mask_of, tag_of}
use Rattle.aead.specs.declared.pieces.keys.MessageKeys.{MessageKeys}
use Rattle.aead.specs.declared.pieces.pass_state.PassState.{PassState}
use Rattle.aead.specs.Suites.{construction_of, is_one_pass}
use Rattle.aead.specs.PassStates.{HoldsNumbers}
use Rattle.aead.specs.Pieces.{MasksByBytes}
use Rattle.aead.specs.Code.MessageKeys.{AreKeysOf}
use Rattle.aead.specs.Code.Passes.{Stopped, HasFilledRoom}

-- what a reading x was found to be: it differs in its length or its last 16 bytes; or it agrees in both and is not a valid sealing,
-- or is one
abbrev pub IsFinding : Setting → List ℕ → ℕ → List ℕ → Finding → Type 0
IsFinding s tag len x Differs = ¬ (drop (len - 16) x ≡ tag)
IsFinding s tag len x Unsealed = (drop (len - 16) x ≡ tag) × IsNoSealing s x
IsFinding s tag len x Sealed =
    (drop (len - 16) x ≡ tag) × Opened s x (masked (mask_of s tag) 0 (take (len - 16) x))

-- a reading was taken to its end, or past the measured length, and f is what was found
pub record HasPassedReading (s : Setting) (tag : List ℕ) (len : ℕ) (left left' taken taken' : Option (List ℕ))
    (f : Finding) : Type 0 where
  pub bytes : List ℕ
  pub consumed : Consumes left left' bytes
  pub given : Appends taken taken' (masked (mask_of s tag) 0 (take (len - 16) bytes))
  pub found : IsFinding s tag len bytes f
  pub end : length bytes ≤ len → IsAtEnd left'

-- at `Ok` the result is what was found when a whole reading had passed; at a fault the pass has stopped
abbrev pub PassedWhole : Setting → List ℕ → ℕ → Option (List ℕ) → Option (List ℕ) → Option (List ℕ)
    → Option (List ℕ) → Result Finding Fault → Type 0
PassedWhole s tag len left left' taken taken' r =
    MatchResult r (λ f. HasPassedReading s tag len left left' taken taken' f)
    (λ _. Stopped (mask_of s tag) [] (len - 16) left left' taken taken')

-- the body has an allowed length, and `made` is the tag of the text that it decrypts to
abbrev pub MakesTag : Setting → List ℕ → List ℕ → List ℕ → Type 0
MakesTag s tag made body = Fits s body × (made ≡ tag_of s (masked (mask_of s tag) 0 body))

-- the body of a reading, n bytes of it, was taken, and `made` is the tag of the text that it decrypts to
abbrev pub PassesBody : Setting → List ℕ → ℕ → Option (List ℕ) → Option (List ℕ) → Option (List ℕ)
    → Option (List ℕ) → ℕ → List ℕ → Type 0
PassesBody s tag len left left' taken taken' n made =
    HasFilledRoom (MakesTag s tag) (mask_of s tag) [] (len - 16) left left' taken taken' made n

-- b says whether the bytes that came were this tag and nothing more
pub record Tail (tag : List ℕ) (left left' : Option (List ℕ)) (b : Bool) : Type 0 where
  pub bytes : List ℕ
  pub consumed : Consumes left left' bytes
  pub equal : b ≡ bytes_eq bytes tag
  pub end : length bytes < 17 → IsAtEnd left'

-- at `Ok` the result says whether the bytes that came were this tag and nothing more; at a fault some bytes were read, or none
abbrev pub Ends : List ℕ → Option (List ℕ) → Option (List ℕ) → Result Bool Fault → Type 0
Ends tag left left' r = MatchResult r (λ b. Tail tag left left' b)
    (λ _. (bytes : List ℕ) × Consumes left left' bytes)

-- the opening of a message begins with these keys and this state. If its readings are verified without being decrypted, every
-- number of its masks is a byte.
pub record BeginsOpening (k : MessageKeys) (p : PassState) (s : Setting) : Type 0 where
  pub keys_are : AreKeysOf k s
  pub state_is : HoldsNumbers p s []
  pub bytes : is_one_pass (construction_of s.suite) ≡ true → MasksByBytes s
