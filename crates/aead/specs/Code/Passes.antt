-- The state after a pass over a reading.
use Rattle.std.specs.Prelude.{◌≡◌, ℕ, ◌≤◌, ◌<◌, List, ◌++◌, length, take, get_or, Option, Result}
use Rattle.std.specs.Prelude.{MatchResult}
use Rattle.std.specs.Io.KnownBytes.{Consumes, Appends, IsAtEnd}
use Rattle.octets.specs.declared.fault.Fault.{Fault}
use Rattle.octets.specs.Masked.{masked}

-- after `fed`, more bytes were read; they were written, masked, and taken in by a state of which `holds` speaks
pub record HasPassed {M : Type 0} (holds : M → List ℕ → Type 0) (mask : ℕ → ℕ) (fed : List ℕ)
    (left left' taken taken' : Option (List ℕ)) (after : M) (bytes : List ℕ) : Type 0 where
  pub consumed : Consumes left left' bytes
  pub given : Appends taken taken' (masked mask (length fed) bytes)
  pub held : holds after (fed ++ bytes)
  pub small : (i : ℕ) → get_or (masked mask (length fed) bytes) i 0 < 256

-- after `fed`, a device failed: more bytes were read, and the first of them were written, masked
pub record Stopped (mask : ℕ → ℕ) (fed : List ℕ) (room : ℕ) (left left' taken taken' : Option (List ℕ)) : Type 0
  where
    pub bytes : List ℕ
    pub shown : ℕ
    pub consumed : Consumes left left' bytes
    pub within : shown ≤ length bytes
    pub short : shown ≤ room
    pub given : Appends taken taken' (take shown (masked mask (length fed) bytes))

-- the bytes that passed fill the room, or they are all that the reading had left
pub record HasFilledRoom {M : Type 0} (holds : M → List ℕ → Type 0) (mask : ℕ → ℕ) (fed : List ℕ) (room : ℕ)
    (left left' taken taken' : Option (List ℕ)) (after : M) (n : ℕ) : Type 0 where
  pub bytes : List ℕ
  pub went : HasPassed holds mask fed left left' taken taken' after bytes
  pub count : length bytes ≡ n
  pub short : n ≤ room
  pub end : n < room → IsAtEnd left'

-- at `Ok` the result is how many bytes passed; at a fault the pass has stopped
abbrev pub Passed : {M : Type 0} → (M → List ℕ → Type 0) → (ℕ → ℕ) → List ℕ → ℕ → Option (List ℕ)
    → Option (List ℕ) → Option (List ℕ) → Option (List ℕ) → M → Result ℕ Fault → Type 0
Passed holds mask fed room left left' taken taken' after r =
    MatchResult r (λ n. HasFilledRoom holds mask fed room left left' taken taken' after n)
    (λ _. Stopped mask fed room left left' taken taken')
