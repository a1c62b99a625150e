-- A reading that is taken to its end, except for what it has past a length.
use Rattle.std.specs.Prelude.{◌≡◌, ℕ, ◌≤◌, ◌<◌, List, [], Bool, true, false, length, take, Option, Some}
use Rattle.std.specs.Prelude.{None, Result, MatchResult}
use Rattle.std.specs.Io.KnownBytes.{Consumes, Appends, IsAtEnd}
use Rattle.octets.specs.declared.fault.Fault.{Fault}
use Rattle.octets.specs.Masked.{masked}
use Rattle.aead.specs.Code.Passes.{Stopped}

-- at `Some(n)`, x has n bytes, which are within the length; at `None`, x has more bytes than the length
abbrev pub IsExtent : ℕ → List ℕ → Option ℕ → Type 0
IsExtent len x None = len < length x
IsExtent len x (Some n) = (length x ≡ n) × (n ≤ len)

-- a reading was taken to its end or past the length; its bytes up to the length were written, masked, and taken in by a state
-- of which `holds` speaks
pub record HasPassedAll {M : Type 0} (holds : M → List ℕ → Type 0) (mask : ℕ → ℕ) (len : ℕ)
    (left left' taken taken' : Option (List ℕ)) (after : M) (extent : Option ℕ) : Type 0 where
  pub bytes : List ℕ
  pub consumed : Consumes left left' bytes
  pub given : Appends taken taken' (masked mask 0 (take len bytes))
  pub held : holds after (take len bytes)
  pub is : IsExtent len bytes extent
  pub end : length bytes ≤ len → IsAtEnd left'

-- at `Ok` a reading was taken to its end or past the length, and the result is its extent; at a fault the pass has stopped
abbrev pub PassedAll : {M : Type 0} → (M → List ℕ → Type 0) → (ℕ → ℕ) → ℕ → Option (List ℕ)
    → Option (List ℕ) → Option (List ℕ) → Option (List ℕ) → M → Result (Option ℕ) Fault → Type 0
PassedAll holds mask len left left' taken taken' after r =
    MatchResult r (λ e. HasPassedAll holds mask len left left' taken taken' after e)
    (λ _. Stopped mask [] len left left' taken taken')

-- b says whether some bytes came; if none came, the reading is at its end
pub record More (left left' : Option (List ℕ)) (b : Bool) : Type 0 where
  pub bytes : List ℕ
  pub consumed : Consumes left left' bytes
  pub some : b ≡ true → 0 < length bytes
  pub none : b ≡ false → (bytes ≡ []) × IsAtEnd left'

-- at `Ok` the result says whether some bytes came; at a fault some bytes were read, or none
abbrev pub HasMore : Option (List ℕ) → Option (List ℕ) → Result Bool Fault → Type 0
HasMore left left' r = MatchResult r (λ b. More left left' b)
    (λ _. (bytes : List ℕ) × Consumes left left' bytes)
