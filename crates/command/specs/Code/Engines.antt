-- The runs of an engine into an outlet.
use Rattle.std.specs.Prelude.{◌≡◌, ℕ, ◌⊎◌, List, Option, Some, Result, Ok, Err, MatchResult, IfSome}
use Rattle.std.specs.Io.KnownBytes.{Appends}
use Rattle.octets.specs.declared.fault.Fault.TheVariants.{Read, OutOfMemory}
use Rattle.aead.specs.Sealing.{Setting}
use Rattle.command.specs.declared.failure.Failure.{Failure}
use Rattle.command.specs.declared.words.Inputs.{Inputs}
use Rattle.command.specs.Aead.{IsCalled, CallFailed}
use Rattle.command.specs.Files.{Answer, Giving, NoCall}

-- the outlet took some bytes, which have this property
abbrev pub OutletTakes : Option (List ℕ) → Option (List ℕ) → Giving
OutletTakes taken taken' P =
    IfSome taken (λ before. (given : List ℕ) × Appends (Some before) taken' given × P given)

-- an engine returned, or a file was not opened and the outlet is unchanged
abbrev pub EngineRan : (Giving → Setting → Answer → Type 0) → Setting → (taken taken' : Option (List ℕ))
    → (same : Type 0) → Answer → Type 0
EngineRan engine s taken taken' same r =
    (((r ≡ Err Read) ⊎ (r ≡ Err OutOfMemory)) × same) ⊎ engine (OutletTakes taken taken') s r

-- an engine ran over readings into an outlet, or no call was made and the outlet is unchanged
abbrev pub Ran : (Giving → Setting → Answer → Type 0) → Inputs → (taken taken' : Option (List ℕ))
    → (same : Type 0) → Result (Unit {0}) Failure → Type 0
Ran engine words taken taken' same r = MatchResult r
    (λ _. IsCalled words (λ s body. engine (OutletTakes taken taken') s (Ok tt)))
    (λ e. (NoCall words e × same)
    ⊎ CallFailed (λ s body f. engine (OutletTakes taken taken') s (Err f)) words e)
