-- The result of each step of the stream opener over a reading whose bytes are known.
use Rattle.std.specs.Prelude.{◌≡◌, ℕ, ◌+◌, ◌-◌, ◌≤◌, ◌<◌, ◌⊎◌, List, length, take, Option, Result, Ok}
use Rattle.std.specs.Prelude.{Err, MatchResult}
use Rattle.std.specs.Io.KnownBytes.{Appends}
use Rattle.octets.specs.declared.fault.Fault.{Fault}
use Rattle.octets.specs.declared.fault.Fault.TheVariants.{Read, Write, TextTooLong, TooShort, TagMismatch}
use Rattle.octets.specs.declared.fault.Fault.TheVariants.{SourceChanged}
use Rattle.octets.specs.Device.{Failed}
use Rattle.octets.specs.Masked.{masked}
use Rattle.aead.specs.declared.engine.measure.Measured.{Measured}
use Rattle.aead.specs.declared.engine.passes.Finding.{Finding}
use Rattle.aead.specs.declared.engine.passes.Finding.TheVariants.{Differs, Unsealed, Sealed}
use Rattle.aead.specs.Sealing.{Setting, mask_of}
use Rattle.aead.specs.Measure.{last_16}
use Rattle.aead.specs.Code.Findings.{IsFinding}

-- the result of the measure step over a reading of the bytes m
abbrev pub MeasureReturns : ℕ → List ℕ → ℕ → ℕ → Result Measured Fault → Type 0
MeasureReturns limit m read read' r =
    MatchResult r (λ a. (a.length ≡ length m) × (a.tag ≡ last_16 m) × (16 ≤ length m)
    × (length m ≤ limit + 16) × (read' ≡ read))
    (λ f. ((f ≡ TextTooLong) × (limit + 16 < length m) × (read' ≡ read))
    ⊎ ((f ≡ TooShort) × (length m < 16) × (read' ≡ read))
    ⊎ ((f ≡ Read) × Failed read read'))

-- the result for what was found in the verify reading
abbrev pub verify_answer : Finding → Result (Unit {0}) Fault
verify_answer Sealed = Ok tt
verify_answer Unsealed = Err TagMismatch
verify_answer Differs = Err SourceChanged

-- the result for what was found in the write reading
abbrev pub write_answer : Finding → Result (Unit {0}) Fault
write_answer Sealed = Ok tt
write_answer Unsealed = Err SourceChanged
write_answer Differs = Err SourceChanged

-- the result of the verify step over a reading of the bytes v
abbrev pub VerifyReturns : Setting → List ℕ → ℕ → List ℕ → ℕ → ℕ → Result (Unit {0}) Fault → Type 0
VerifyReturns s tag len v read read' r =
    ((f : Finding) × (r ≡ verify_answer f) × IsFinding s tag len v f × (read' ≡ read))
    ⊎ ((r ≡ Err Read) × Failed read read')

-- the result of the write step over a reading of the bytes w, and the bytes that it writes
abbrev pub WriteReturns : Setting → List ℕ → ℕ → List ℕ → Option (List ℕ) → Option (List ℕ) → ℕ → ℕ → ℕ → ℕ
    → Result (Unit {0}) Fault → Type 0
WriteReturns s tag len w taken taken' read read' wrote wrote' r =
    (Appends taken taken' (masked (mask_of s tag) 0 (take (len - 16) w))
    × ((f : Finding) × (r ≡ write_answer f) × IsFinding s tag len w f × (read' ≡ read) × (wrote' ≡ wrote)))
    ⊎ ((k : ℕ) × Appends taken taken' (take k (masked (mask_of s tag) 0 (take (len - 16) w)))
    × (((r ≡ Err Read) × Failed read read') ⊎ ((r ≡ Err Write) × Failed wrote wrote')))
