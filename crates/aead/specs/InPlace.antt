-- The promises of sealing and opening in place.
use Rattle.std.specs.Prelude.{◌≡◌, ℕ, List, ◌++◌, Result, MatchResult}
use Rattle.octets.specs.declared.fault.Fault.{Fault}
use Rattle.aead.specs.Sealing.{Setting, Opened}
use Rattle.aead.specs.Refusals.{SealRefused, OpenRefused}

-- a text becomes its ciphertext and the result is its tag, or the text is refused and stays as it was
abbrev pub SealsInPlace : Setting → List ℕ → List ℕ → Result (List ℕ) Fault → Type 0
SealsInPlace s old new r =
    MatchResult r (λ tag. Opened s (new ++ tag) old) (λ e. SealRefused s old e × (new ≡ old))

-- a ciphertext with a valid tag becomes its text, or it is refused and stays as it was
abbrev pub OpensInPlace : Setting → List ℕ → List ℕ → List ℕ → Result (Unit {0}) Fault → Type 0
OpensInPlace s tag old new r =
    MatchResult r (λ _. Opened s (old ++ tag) new) (λ e. OpenRefused s old tag e × (new ≡ old))

-- if the ciphertext and the tag are the sealing of a text, the call succeeds and leaves that text
abbrev pub OpensEachSealing : Setting → List ℕ → List ℕ → List ℕ → Result (Unit {0}) Fault → Type 0
OpensEachSealing s tag old new r =
    (text : List ℕ) → Opened s (old ++ tag) text → MatchResult r (λ _. new ≡ text) (λ _. ⊥)
