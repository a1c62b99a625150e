-- When a file command can return `Read` and `Write`.
use Rattle.std.specs.Prelude.{◌≡◌, ℕ, ◌⊎◌, Bool, true, List, Result, IfErr, ⊤}
use Rattle.octets.specs.declared.fault.Fault.{Fault}
use Rattle.octets.specs.declared.fault.Fault.TheVariants.{Read, Write}
use Rattle.octets.specs.Device.{Failed}
use Rattle.command.specs.declared.failure.Failure.{Failure}
use Rattle.command.specs.declared.failure.Failure.TheVariants.{Fault as OfFault}
use Rattle.command.specs.declared.words.PrintRequest.{PrintRequest}
use Rattle.command.specs.declared.words.PrintRequest.TheVariants.{Check}

-- devices of this type can fail: between some two states the count of failures rises, or is at its maximum
abbrev pub MayFail : {D : Type 0} → (D → ℕ) → Type 0
MayFail {D} failures = (before : D) × (after : D) × Failed (failures before) (failures after)

-- a file can fail to be read: the opening for some reading may fail, or inputs of this type can fail
abbrev pub InputMayFail : {D : Type 0} → (ℕ → Bool) → (D → ℕ) → Type 0
InputMayFail open_may_fail failures =
    ((reading : ℕ) × (open_may_fail reading ≡ true)) ⊎ ∥ MayFail failures ∥₁

-- a file can fail to be written: in some storage of this type its making or its syncing may fail, or outputs of
-- this type can fail
abbrev pub OutputMayFail : {S D : Type 0} → (S → Bool) → (D → ℕ) → Type 0
OutputMayFail {S} make_may_fail failures = ∥ ((s : S) × (make_may_fail s ≡ true)) ⊎ MayFail failures ∥₁

-- a call's error shows `Read` only if its input can fail, and `Write` only if its output can
abbrev pub Blames : {T E : Type 0} → (shows : Fault → E) → (input output : Type 0) → Result T E → Type 0
Blames shows input output r = IfErr r (λ e. (e ≡ shows Read → input) × (e ≡ shows Write → output))

-- `check` returns `Read` only if its input can fail
abbrev pub RequestBlames : {T : Type 0} → (List ℕ → Type 0) → PrintRequest → Result T Failure → Type 0
RequestBlames input (Check path) r = Blames OfFault (input path.now) ⊤ r
RequestBlames input _ r = ⊤
