-- The result of the engine that seals in two readings, and the bytes that it writes.
use Rattle.std.specs.Prelude.{◌≡◌, ℕ, ◌<◌, ◌≤◌, ◌⊎◌, List, [], ◌∷◌, ◌++◌, length, take, Option, Some, Result}
use Rattle.std.specs.Prelude.{Ok, Err, MatchResult, IfSome}
use Rattle.std.specs.Io.KnownBytes.{Appends}
use Rattle.octets.specs.declared.fault.Fault.{Fault}
use Rattle.octets.specs.declared.fault.Fault.TheVariants.{TextTooLong, AadTooLong, Read, Write, SourceChanged}
use Rattle.octets.specs.Refusals.{◌unless◌, FirstOf}
use Rattle.octets.specs.Device.{Failed}
use Rattle.octets.specs.Masked.{masked}
use Rattle.aead.specs.Suites.{text_limit, aad_limit}
use Rattle.aead.specs.Sealing.{Setting, Fits, mask_of, tag_of}
use Rattle.aead.specs.Refusals.{DueTo}
use Rattle.aead.specs.Pieces.{Repeats}
use Rattle.aead.specs.Verdict.{IsBeginning}

-- the ciphertext of the second reading b, up to the length of the first reading a and under the tag of a
abbrev pub again : Setting → List ℕ → List ℕ → List ℕ
again s a b = masked (mask_of s (tag_of s a)) 0 (take (length a) b)

-- what is written for the second reading b after the first reading a: the ciphertext and the tag at `Ok`, the ciphertext at
-- `SourceChanged`, and a beginning of them if a device failed
abbrev pub WritesAgain : Setting → List ℕ → List ℕ → Option (List ℕ) → Option (List ℕ) → ℕ → ℕ → ℕ → ℕ
    → Result (Unit {0}) Fault → Type 0
WritesAgain s a b taken taken' read read' wrote wrote' r =
    ((r ≡ Ok tt) × Repeats s a b × Appends taken taken' (again s a b ++ tag_of s a) × (read' ≡ read)
    × (wrote' ≡ wrote))
    ⊎ ((r ≡ Err SourceChanged) × ¬ (Repeats s a b) × Appends taken taken' (again s a b) × (read' ≡ read)
    × (wrote' ≡ wrote))
    ⊎ ((k : ℕ) × Appends taken taken' (take k (again s a b))
    × (((r ≡ Err Read) × Failed read read') ⊎ ((r ≡ Err Write) × Failed wrote wrote')))
    ⊎ ((k : ℕ) × Appends taken taken' (again s a b ++ take k (tag_of s a)) × Repeats s a b × (r ≡ Err Write)
    × Failed wrote wrote')

-- the result that the two readings determine
abbrev pub SivVerdict : Setting → List ℕ → List ℕ → Result (Unit {0}) Fault → Type 0
SivVerdict s a b r =
    MatchResult r (λ _. Fits s a × Repeats s a b) (FirstOf (AadTooLong unless (length s.aad ≤ aad_limit s.suite)
    ∷ TextTooLong unless (length a ≤ text_limit s.suite) ∷ SourceChanged unless Repeats s a b ∷ []))

-- the counts of failures of the three devices
pub record SivCounts : Type 0 where
  pub first : ℕ
  pub second : ℕ
  pub outlet : ℕ

-- at `Ok` and at a fault of the call's own no device failed, at `Read` a reading failed, and at `Write` the outlet failed;
-- there is no other fault
abbrev pub SivBlames : List Fault → SivCounts → SivCounts → Result (Unit {0}) Fault → Type 0
SivBlames own before after r =
    DueTo own (after ≡ before) (Failed before.first after.first ⊎ Failed before.second after.second)
    (Failed before.outlet after.outlet) r

-- the bytes written for the second reading b after the first reading a, and the result
pub record SealsSivStream (s : Setting) (a b given : List ℕ) (before after : SivCounts)
    (r : Result (Unit {0}) Fault) : Type 0 where
  -- nothing is written if the associated data or the first reading is past its limit
  pub early : (aad_limit s.suite < length s.aad) ⊎ (text_limit s.suite < length a) → given ≡ []
  -- the bytes written are a beginning of the ciphertext, or, only if the second reading repeats the first, of the ciphertext and
  -- the tag
  pub beginning : IsBeginning given (again s a b)
      ⊎ (Repeats s a b × IsBeginning given (again s a b ++ tag_of s a))
  -- at Ok the second reading repeats the first, and the bytes written are the ciphertext and the tag
  pub whole : r ≡ Ok tt → Repeats s a b × (given ≡ again s a b ++ tag_of s a)
  -- the result is the verdict and no device failed, or the result names a device that failed
  pub answer : (SivVerdict s a b r × (after ≡ before))
      ⊎ ((r ≡ Err Read) × (Failed before.first after.first ⊎ Failed before.second after.second))
      ⊎ ((r ≡ Err Write) × Failed before.outlet after.outlet)

-- if the bytes of both readings and of the outlet are known, P holds of the readings' bytes and of the bytes written
abbrev pub IfBothKnown : Option (List ℕ) → Option (List ℕ) → Option (List ℕ) → Option (List ℕ)
    → (List ℕ → List ℕ → List ℕ → Type 0) → Type 0
IfBothKnown first second taken taken' P =
    IfSome first (λ a. IfSome second
    (λ b. IfSome taken (λ before. (given : List ℕ) × Appends (Some before) taken' given × P a b given)))
