-- The result of the stream opener, and the bytes that it writes.
use Rattle.std.specs.Prelude.{◌≡◌, ◌≢◌, ℕ, ◌+◌, ◌-◌, ◌<◌, ◌≤◌, ◌⊎◌, nat_le, List, [], ◌∷◌, length, take}
use Rattle.std.specs.Prelude.{Option, Some, Result, Ok, Err, IfSome, slice_index, if◌then◌else◌}
use Rattle.std.specs.Io.KnownBytes.{Appends}
use Rattle.octets.specs.declared.fault.Fault.{Fault}
use Rattle.octets.specs.declared.fault.Fault.TheVariants.{Read, Write, AadTooLong, TextTooLong, TooShort}
use Rattle.octets.specs.declared.fault.Fault.TheVariants.{TagMismatch, SourceChanged}
use Rattle.octets.specs.Device.{Failed}
use Rattle.octets.specs.Masked.{masked}
use Rattle.aead.specs.Suites.{text_limit, aad_limit}
use Rattle.aead.specs.Sealing.{Setting, Opened, IsSealing, IsNoSealing, mask_of}
use Rattle.aead.specs.Refusals.{FitsSealed, DueTo}
use Rattle.aead.specs.Measure.{last_16}

-- the reading x has the length and the last 16 bytes of the measured reading m
abbrev pub Agrees : List ℕ → List ℕ → Type 0
Agrees m x = (length x ≡ length m) × (last_16 x ≡ last_16 m)

-- the verify reading v agrees and is a valid sealing, and the write reading w does not agree or is not a valid sealing
abbrev pub OnlyWriteDiffers : Setting → List ℕ → List ℕ → List ℕ → Type 0
OnlyWriteDiffers s m v w = Agrees m v × IsSealing s v × ¬ (Agrees m w × IsSealing s w)

-- the result that the measure, verify and write readings m, v and w determine: each fault with its cause, in this order
abbrev pub Verdict : Setting → List ℕ → List ℕ → List ℕ → Result (Unit {0}) Fault → Type 0
Verdict s m v w (Err AadTooLong) = aad_limit s.suite < length s.aad
Verdict s m v w (Err TextTooLong) = (length s.aad ≤ aad_limit s.suite) × (text_limit s.suite + 16 < length m)
Verdict s m v w (Err TooShort) = (length s.aad ≤ aad_limit s.suite) × (length m < 16)
Verdict s m v w (Err TagMismatch) = FitsSealed s m × Agrees m v × IsNoSealing s v
Verdict s m v w (Err SourceChanged) = FitsSealed s m × (¬ (Agrees m v) ⊎ OnlyWriteDiffers s m v w)
Verdict s m v w (Err _) = ⊥
Verdict s m v w (Ok _) = FitsSealed s m × Agrees m v × IsSealing s v × Agrees m w × IsSealing s w

-- the bytes that may be written: the body of the write reading, decrypted under the measured tag; none if the measured reading
-- is past the limit
unfoldable pub shown : Setting → List ℕ → List ℕ → List ℕ
shown s m w =
    if nat_le (length m) (text_limit s.suite + 16)
    then masked (mask_of s (last_16 m)) 0 (take (length m - 16) w)
    else []

-- x is a beginning of a list, which may be empty or all of it
abbrev pub IsBeginning : List ℕ → List ℕ → Type 0
IsBeginning x whole = (k : ℕ) × (x ≡ take k whole)

-- the counts of failures of the four devices
pub record FailureCounts : Type 0 where
  pub measure : ℕ
  pub verify : ℕ
  pub write : ℕ
  pub outlet : ℕ

-- the counts of failures of a measure, a verify and a write reading, and of an outlet
abbrev pub counted : ℕ → ℕ → ℕ → ℕ → FailureCounts
counted m v w o = record { measure = m; verify = v; write = w; outlet = o }

-- at `Ok` and at a fault of the verdict no device failed, at `Read` a reading failed, and at `Write` the outlet failed; there
-- is no other fault
abbrev pub BlamesRightly : FailureCounts → FailureCounts → Result (Unit {0}) Fault → Type 0
BlamesRightly before after r =
    DueTo (AadTooLong ∷ TextTooLong ∷ TooShort ∷ TagMismatch ∷ SourceChanged ∷ []) (after ≡ before)
    (Failed before.measure after.measure ⊎ Failed before.verify after.verify
    ⊎ Failed before.write after.write)
    (Failed before.outlet after.outlet) r

-- the bytes written, and the result, if the bytes of the three readings and of the outlet are known
pub record OpensStream (s : Setting) (m v w given : List ℕ) (before after : FailureCounts)
    (r : Result (Unit {0}) Fault) : Type 0 where
  -- nothing is written unless the verify reading is a valid sealing that agrees with the measured reading, and neither failed
  pub early : given ≢ [] → Agrees m v × IsSealing s v × (after.measure ≡ before.measure)
      × (after.verify ≡ before.verify)
  -- the bytes written are a beginning of those that may be written
  pub beginning : IsBeginning given (shown s m w)
  -- all bytes that may be written are written at Ok, and if only the write reading differs
  pub whole : (r ≡ Ok tt) ⊎ ((r ≡ Err SourceChanged) × OnlyWriteDiffers s m v w) → given ≡ shown s m w
  -- at Ok the bytes written are the text of the write reading
  pub text : r ≡ Ok tt → Opened s w given
  -- the result is the verdict and no device failed, or the result names a device that failed
  pub answer : (Verdict s m v w r × (after ≡ before))
      ⊎ ((r ≡ Err Read) × (Failed before.measure after.measure ⊎ Failed before.verify after.verify
      ⊎ Failed before.write after.write))
      ⊎ ((r ≡ Err Write) × Failed before.outlet after.outlet)

-- if the bytes of the readings and of the outlet are known, P holds of the readings' bytes and of the bytes written
abbrev pub IfAllKnown : Option (List ℕ) → Option (List ℕ) → Option (List ℕ) → Option (List ℕ)
    → Option (List ℕ) → (List ℕ → List ℕ → List ℕ → List ℕ → Type 0) → Type 0
IfAllKnown measure verify write taken taken' P =
    IfSome measure (λ m. IfSome verify (λ v. IfSome write (λ w. IfSome taken (λ before.
    (given : List ℕ) × Appends (Some before) taken' given × P m v w given))))

-- if the verify reading agrees and is the sealing of a text, and byte i of the body is the same in the write reading, byte i of
-- the bytes that may be written is byte i of the text
abbrev pub ShownRepeatsTheText : Type 0
ShownRepeatsTheText = (s : Setting) (m v w text : List ℕ) (i : ℕ) → Agrees m v → Opened s v text
    → i < length m - 16
    → i < length w → slice_index w i ≡ slice_index v i → slice_index (shown s m w) i ≡ slice_index text i
