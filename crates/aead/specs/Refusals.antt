-- Why a call is refused: its checks in their order, and for a call over devices also the device that failed.
use Rattle.std.specs.Prelude.{◌≡◌, ℕ, ◌+◌, ◌<◌, ◌≤◌, ◌⊎◌, List, [], ◌∷◌, ◌++◌, length, Result, MatchResult}
use Rattle.std.specs.Prelude.{IfErr}
use Rattle.octets.specs.declared.fault.Fault.{Fault}
use Rattle.octets.specs.declared.fault.Fault.TheVariants.{TextTooLong, AadTooLong, TooShort, TagMismatch}
use Rattle.octets.specs.declared.fault.Fault.TheVariants.{OutOfMemory, Read, Write, SourceChanged}
use Rattle.octets.specs.Device.{Failed}
use Rattle.octets.specs.Refusals.{◌unless◌, perhaps, FirstOf}
use Rattle.aead.specs.Suites.{text_limit, aad_limit}
use Rattle.aead.specs.Sealing.{Setting, IsSealing}

-- why a text is not sealed in place
abbrev pub SealRefused : Setting → List ℕ → Fault → Type 0
SealRefused s text = FirstOf (AadTooLong unless (length s.aad ≤ aad_limit s.suite)
    ∷ TextTooLong unless (length text ≤ text_limit s.suite) ∷ [])

-- a call that adds bytes to a count returns `Ok` if the sum is within the limit, and this fault if it is past the limit
abbrev pub FitsIn : Fault → Result (Unit {0}) Fault → (count added limit : ℕ) → Type 0
FitsIn fault r count added limit =
    MatchResult r (λ _. count + added ≤ limit) (λ e. (e ≡ fault) × (limit < count + added))

-- why a body and a tag are not opened in place
abbrev pub OpenRefused : Setting → List ℕ → List ℕ → Fault → Type 0
OpenRefused s body tag = FirstOf (AadTooLong unless (length s.aad ≤ aad_limit s.suite)
    ∷ TextTooLong unless (length body ≤ text_limit s.suite) ∷ TagMismatch unless IsSealing s (body ++ tag) ∷ [])

-- why a text is not sealed as a whole
abbrev pub WholeSealRefused : Setting → List ℕ → Fault → Type 0
WholeSealRefused s text = FirstOf (AadTooLong unless (length s.aad ≤ aad_limit s.suite)
    ∷ TextTooLong unless (length text ≤ text_limit s.suite) ∷ perhaps OutOfMemory ∷ [])

-- the sealed bytes are a body of an allowed length and a tag, and the associated data has an allowed length
pub record FitsSealed (s : Setting) (sealed : List ℕ) : Type 0 where
  pub aad_fits : length s.aad ≤ aad_limit s.suite
  pub long : 16 ≤ length sealed
  pub text_fits : length sealed ≤ text_limit s.suite + 16

-- why sealed bytes are not opened as a whole
abbrev pub WholeOpenRefused : Setting → List ℕ → Fault → Type 0
WholeOpenRefused s sealed = FirstOf (AadTooLong unless (length s.aad ≤ aad_limit s.suite)
    ∷ TooShort unless (16 ≤ length sealed) ∷ TextTooLong unless (length sealed ≤ text_limit s.suite + 16)
    ∷ perhaps OutOfMemory ∷ TagMismatch unless IsSealing s sealed ∷ [])

-- the fault is in this list
abbrev pub IsOneOf : List Fault → Fault → Type 0
IsOneOf [] f = ⊥
IsOneOf (g ∷ gs) f = (f ≡ g) ⊎ IsOneOf gs f

-- why a call over devices returns what it does: at `Ok` and at a fault of its own no device failed, at `Read` a reading failed,
-- and at `Write` the outlet failed
abbrev pub DueTo : {T : Type 0} (own : List Fault) (none reading outlet : Type 0) → Result T Fault → Type 0
DueTo own none reading outlet r =
    MatchResult r (λ _. none)
    (λ f. (IsOneOf own f × none) ⊎ ((f ≡ Read) × reading) ⊎ ((f ≡ Write) × outlet))

-- why a call over one reading returns what it does, by the reading's counts of failures before and after
abbrev pub DueToReading : {T : Type 0} → List Fault → ℕ → ℕ → Result T Fault → Type 0
DueToReading own read read' r = DueTo own (read' ≡ read) (Failed read read') ⊥ r

-- why a call over a reading and an outlet returns what it does, by their counts of failures before and after
abbrev pub DueToBoth : {T : Type 0} → List Fault → ℕ → ℕ → ℕ → ℕ → Result T Fault → Type 0
DueToBoth own read read' wrote wrote' r =
    DueTo own ((read' ≡ read) × (wrote' ≡ wrote)) (Failed read read') (Failed wrote wrote') r

-- the faults that a sealing in one reading may return after it has written some bytes
abbrev pub late_in_one_reading : List Fault
late_in_one_reading = TextTooLong ∷ Read ∷ Write ∷ []

-- the faults that a sealing in two readings, or an opening, may return after it has written some bytes
abbrev pub late_in_readings : List Fault
late_in_readings = SourceChanged ∷ Read ∷ Write ∷ []

-- after any fault but the late ones the outlet is as it was
abbrev pub UntouchedUnless : {T O : Type 0} → (late : List Fault) → (out out' : O) → Result T Fault → Type 0
UntouchedUnless late out out' r = IfErr r (λ f. IsOneOf late f ⊎ (out' ≡ out))
