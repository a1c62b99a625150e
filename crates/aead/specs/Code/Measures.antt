-- The length and the last bytes of the measured reading, as its steps find them.
use Rattle.std.specs.Prelude.{◌≡◌, ℕ, ◌+◌, ◌≤◌, ◌<◌, ◌⊎◌, List, length, Option, Result}
use Rattle.std.specs.Prelude.{MatchResult}
use Rattle.std.specs.Io.KnownBytes.{Consumes, IsAtEnd}
use Rattle.octets.specs.declared.fault.Fault.{Fault}
use Rattle.octets.specs.declared.fault.Fault.TheVariants.{Read, TextTooLong, TooShort}
use Rattle.octets.specs.Device.{Failed}
use Rattle.aead.specs.declared.engine.measure.Measured.{Measured}
use Rattle.aead.specs.Measure.{last_16}

-- a whole reading has a length within the limits, and m is this length and the last 16 bytes
pub record IsMeasure (limit : ℕ) (left left' : Option (List ℕ)) (m : Measured) : Type 0 where
  pub bytes : List ℕ
  pub consumed : Consumes left left' bytes
  pub end : IsAtEnd left'
  pub low : 16 ≤ length bytes
  pub high : length bytes ≤ limit + 16
  pub count : m.length ≡ length bytes
  pub last : m.tag ≡ last_16 bytes

-- a reading has no measure because it is too long, is too short or failed; one that is too long is read to one byte past the limit
pub record HasNoMeasure (limit : ℕ) (left left' : Option (List ℕ)) (read read' : ℕ) (f : Fault) : Type 0 where
  pub bytes : List ℕ
  pub consumed : Consumes left left' bytes
  pub cause : ((f ≡ TextTooLong) × (length bytes ≡ limit + 17) × (read' ≡ read))
      ⊎ ((f ≡ TooShort) × (length bytes < 16) × IsAtEnd left' × (read' ≡ read))
      ⊎ ((f ≡ Read) × Failed read read')

-- at `Ok` the result is the measure of a reading that did not fail; at a fault the reading has no measure
abbrev pub Measures : ℕ → Option (List ℕ) → Option (List ℕ) → ℕ → ℕ → Result Measured Fault → Type 0
Measures limit left left' read read' r =
    MatchResult r (λ m. IsMeasure limit left left' m × (read' ≡ read))
    (λ f. HasNoMeasure limit left left' read read' f)
